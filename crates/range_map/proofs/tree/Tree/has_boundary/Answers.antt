use Rattle.std.proofs.Common.{sym, ap, ◌∙◌}
use Rattle.range_map.specs.Boundaries.{is_boundary}
use Rattle.range_map.proofs.Spans.{is_among-laid_out}
use Rattle.range_map.proofs.tree.Tree.has_boundary.Goals as goal

pub returns : goal.returns
returns g c =
    c.contains_key.ensures
    ∙ sym (is_among-laid_out c.self.inside.base c.self.inside.levels.items c.args.key.now c.self.inside.places.entries)
    ∙ ap (is_boundary c.args.key.now) c.self.view_is
