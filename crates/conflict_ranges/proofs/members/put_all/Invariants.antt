use Rattle.std.proofs.Common.{◌≡◌, ℕ, if◌then◌else◌, List, length, drop}
use Rattle.model_database.specs.States.{covers}
use Rattle.range_map.specs.Boundaries.{held}
use Rattle.conflict_ranges.specs.Ends.{HasRoom}
use Rattle.conflict_ranges.specs.Segments.{IsSound}
use Rattle.conflict_ranges.proofs.members.put_all.Given as goal

-- the ranges that are left have room, and with them the keys are given what all give
abbrev pub invariant-loop-range : goal.invariant-loop-range
invariant-loop-range l = record {
  room : HasRoom l.members (drop l.range-index l.ranges);
  put : (key : List ℕ) → (if covers (drop l.range-index l.ranges) key then l.membership else held l.members key)
      ≡ (if covers l.ranges key then l.membership else held l.fn.members key);
  few : length l.members.entries ≡ length l.fn.members.entries;
  sound : IsSound l.fn.members → IsSound l.members;
}
