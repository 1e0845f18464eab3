use Rattle.std.proofs.Common.{◌∙◌}
use Rattle.range_map.proofs.Searched.{first_past}
use Rattle.range_map.proofs.row.Row.around.Goals as goal

pub returns-clause-next : goal.returns-clause-next
returns-clause-next g c =
    let spot = c.spot-up_to in
    c.boundary_at.ensures ∙ first_past c.args.key.now c.args.self.now spot.ensures.rising spot.result.0 spot.ensures.count
