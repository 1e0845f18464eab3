use Rattle.std.proofs.Common.{◌≡◌, length}
use Rattle.conflict_ranges.specs.Segments.{ranges_from}
use Rattle.conflict_ranges.proofs.boundary_ranges_left.BoundaryRangesLeftIterator.next.Given as goal

-- what was passed is not in the set
abbrev pub invariant-loop-boundary : goal.invariant-loop-boundary
invariant-loop-boundary l = ranges_from l.self-inside.begin.now l.self-inside.membership l.self-inside.boundaries ≡ l.fn.self

abbrev pub decreases-loop-boundary : goal.decreases-loop-boundary
decreases-loop-boundary l = length l.self-inside.boundaries
