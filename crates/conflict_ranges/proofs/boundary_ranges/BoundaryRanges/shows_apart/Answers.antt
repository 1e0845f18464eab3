use Rattle.std.proofs.Common.{subst}
use Rattle.conflict_ranges.specs.Segments.{AreApart}
use Rattle.conflict_ranges.proofs.Segments.{apart-ranges_of}
use Rattle.conflict_ranges.proofs.boundary_ranges.BoundaryRanges.shows_apart.Goals as goal

pub returns : goal.returns
returns c = subst AreApart c.self.view_is (apart-ranges_of c.self.inside.members c.self.invariant.sound)
