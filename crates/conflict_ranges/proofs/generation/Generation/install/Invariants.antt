use Rattle.std.proofs.Common.{◌≡◌, ℕ, max, if◌then◌else◌, List}
use Rattle.model_database.specs.States.{covers}
use Rattle.conflict_ranges.specs.Generations.{version_at, IsReadyFor}
use Rattle.conflict_ranges.proofs.generation.Generation.install.Given as goal

-- the ranges that are left have room, and with them the keys are given what all give
abbrev pub invariant-loop-begin : goal.invariant-loop-begin
invariant-loop-begin l = record {
  newest : l.self.newest ≡ max l.fn.self.newest l.version;
  ready : IsReadyFor l.self l.version l.begin-iterator;
  given : (key : List ℕ) → (if covers l.begin-iterator key then l.version else version_at l.self key)
      ≡ (if covers l.fn.ranges key then l.version else version_at l.fn.self key);
}
