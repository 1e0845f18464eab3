use Rattle.std.proofs.Common.{subst}
use Rattle.std.specs.Map.Iter.{TakesFirst}
use Rattle.conflict_ranges.specs.Segments.{range_between}
use Rattle.conflict_ranges.proofs.Taken.{none-covers}
use Rattle.conflict_ranges.proofs.boundary_ranges.BoundaryRanges.is_empty.Goals as goal

pub returns-clause-none : goal.returns-clause-none
returns-clause-none c =
    none-covers c.args.self.now c.next.new.self c.next.result c.is_none.result c.shows_apart.ensures
    (subst (λ ranges. TakesFirst range_between ranges c.next.result c.next.new.self) c.ranges-2.ensures c.next.ensures.steps)
    c.is_none.ensures
