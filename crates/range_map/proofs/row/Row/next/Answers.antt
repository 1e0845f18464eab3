use Rattle.std.proofs.Common.{◌∙◌}
use Rattle.range_map.proofs.Searched.{first_past}
use Rattle.range_map.proofs.row.Row.next.Goals as goal

pub returns : goal.returns
returns g c =
    c.boundary_at.ensures ∙ first_past c.args.key.now c.args.self.now c.spot.ensures.rising c.spot.result.0 c.spot.ensures.count
