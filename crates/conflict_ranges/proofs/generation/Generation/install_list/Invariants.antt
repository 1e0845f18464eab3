use Rattle.std.proofs.Common.{◌≡◌, ℕ, max, if◌then◌else◌, List, drop}
use Rattle.model_database.specs.States.{covers}
use Rattle.conflict_ranges.specs.Generations.{version_at, IsReadyFor}
use Rattle.conflict_ranges.proofs.generation.Generation.install_list.Given as goal

-- the ranges that are left have room, and with them the keys are given what all give
abbrev pub invariant-loop-range : goal.invariant-loop-range
invariant-loop-range l = record {
  newest : l.self.newest ≡ max l.fn.self.newest l.version;
  ready : IsReadyFor l.self l.version (drop l.range-index l.ranges);
  given : (key : List ℕ) → (if covers (drop l.range-index l.ranges) key then l.version else version_at l.self key)
      ≡ (if covers l.ranges key then l.version else version_at l.fn.self key);
}
