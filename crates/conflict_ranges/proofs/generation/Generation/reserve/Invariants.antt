use Rattle.std.proofs.Common.{◌≡◌, ℕ, List}
use Rattle.conflict_ranges.specs.Generations.{version_at}
use Rattle.conflict_ranges.proofs.Rooms.{GivesRoom}
use Rattle.conflict_ranges.proofs.generation.Generation.reserve.Given as goal

-- no version is another, and where the ranges that are left have room all have
abbrev pub invariant-loop-begin : goal.invariant-loop-begin
invariant-loop-begin l = record {
  same : (key : List ℕ) → version_at l.self key ≡ version_at l.fn.self key;
  newest : l.self.newest ≡ l.fn.self.newest;
  room : GivesRoom l.self l.version l.begin-iterator l.ranges;
}
