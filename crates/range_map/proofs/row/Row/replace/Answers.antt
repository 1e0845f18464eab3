use Rattle.range_map.proofs.Lined.{boundary_counted}
use Rattle.range_map.proofs.row.Row.replace.Goals as goal

pub replace_last_of-requires-clause-some : goal.replace_last_of-requires-clause-some
replace_last_of-requires-clause-some g c =
    let spot = c.spot-up_to in
    boundary_counted c.args.key.now c.args.self.now spot.result.0 spot.ensures.rising c.requires spot.ensures.count
