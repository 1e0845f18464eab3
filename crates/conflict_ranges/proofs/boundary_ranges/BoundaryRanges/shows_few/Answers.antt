use Rattle.std.proofs.Common.{length, ap, arith}
use Rattle.conflict_ranges.proofs.Segments.{length-ranges_of}
use Rattle.conflict_ranges.proofs.boundary_ranges.BoundaryRanges.shows_few.Goals as goal

pub returns : goal.returns
returns c =
    let is = ap length c.self.view_is in
    let few = length-ranges_of c.self.inside.members in
    let most = c.self.invariant.few in
    omega (arith, is, few, most)
