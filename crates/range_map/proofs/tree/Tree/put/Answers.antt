use Rattle.std.proofs.Common.{ap, ◌∙◌}
use Rattle.range_map.specs.Boundaries.{is_boundary}
use Rattle.range_map.proofs.Bounded.{begin_made}
use Rattle.range_map.proofs.tree.Tree.put.Goals as goal

pub replace-requires : goal.replace-requires
replace-requires g c =
    let key = c.args.key.now in
    ap (is_boundary key) c.in_ok-split_both.ensures.ok ∙ begin_made g.T.Spread.spread key c.args.next.now c.args.self.now
