use Rattle.std.proofs.Common.{subst}
use Rattle.std.specs.List.Sorted.{IsStrictlySortedBy}
use Rattle.key_bytes.specs.Keys.{key_cmp}
use Rattle.range_map.specs.Boundaries.{boundaries_of}
use Rattle.range_map.proofs.Spans.{rising-laid_out}
use Rattle.range_map.proofs.tree.Tree.shows_rising.Goals as goal

pub returns : goal.returns
returns g c =
    subst (λ boundaries. IsStrictlySortedBy key_cmp (boundaries_of boundaries)) c.self.view_is
    (rising-laid_out c.self.inside.base c.self.inside.levels.items c.self.inside.places.entries c.self.invariant.rising)
