use Rattle.std.proofs.Common.{ap, ◌∙◌, length, ◌-◌, take, drop}
use Rattle.range_map.proofs.Searched.{part_above}
use Rattle.range_map.proofs.row.Row.above.Goals as goal

pub returns : goal.returns
returns g c =
    let n = c.spot.result.0 in
    ap (λ es. take (length es - n) (drop n es)) (c.deref.ensures.value ∙ c.self.view_is)
    ∙ part_above c.args.key.now c.args.self.now c.spot.ensures.rising n c.spot.ensures.count
