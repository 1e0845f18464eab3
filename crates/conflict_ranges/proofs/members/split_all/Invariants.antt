use Rattle.std.proofs.Common.{◌≡◌, ◌+◌, ◌*◌, ◌≤◌, ℕ, List, length, drop}
use Rattle.range_map.specs.Boundaries.{held}
use Rattle.conflict_ranges.specs.Segments.{IsSound}
use Rattle.conflict_ranges.proofs.Splits.{GivesRoom}
use Rattle.conflict_ranges.proofs.members.split_all.Given as goal

-- no key has anything else, and where those that are left have room all have
abbrev pub invariant-loop-range : goal.invariant-loop-range
invariant-loop-range l = record {
  same : (key : List ℕ) → held l.members key ≡ held l.fn.members key;
  sound : IsSound l.fn.members → IsSound l.members;
  few : length l.members.entries ≤ length l.fn.members.entries + 2 * l.range-index;
  room : GivesRoom l.members (drop l.range-index l.ranges) l.ranges;
}
