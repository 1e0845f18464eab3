use Rattle.std.proofs.Common.{◌==◌, ap, ◌∙◌}
use Rattle.range_map.specs.Halves.{is_nil}
use Rattle.range_map.proofs.Filled.{counted_nil}
use Rattle.range_map.proofs.tree.Tree.is_empty.Goals as goal

pub returns : goal.returns
returns g c =
    let inside = c.self.inside in
    ap (λ n. n == 0) c.len.ensures.len
    ∙ counted_nil inside.base inside.levels.items inside.places.entries
    ∙ ap (λ boundaries. is_nil boundaries.entries) c.self.view_is
