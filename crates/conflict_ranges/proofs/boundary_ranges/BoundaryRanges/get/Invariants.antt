use Rattle.std.proofs.Common.{◌≡◌, drop}
use Rattle.conflict_ranges.proofs.boundary_ranges.BoundaryRanges.get.Given as goal

-- the ranges before the counter were passed
abbrev pub invariant-loop : goal.invariant-loop
invariant-loop l = l.left ≡ drop l.counter l.self
