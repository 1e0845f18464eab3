use Rattle.std.proofs.Common.{ap, subst, ◌∙◌}
use Rattle.future_cell.specs.Plays.{Place, PublishedIn, value_in_hand}
use Rattle.future_cell.proofs.Steps.{fits, written, chosen, reaches, publishes}
use Rattle.future_cell.proofs.half.Half.publish.Goals as goal

pub load-requires : goal.load-requires
load-requires g c =
    let h = c.args.self.now in
    let at = fits _ _ _ h.sized (ap (λ t. t.shared.table_id) c.deref.ensures) h.seated in
    (at.0, at.1, reaches _ _ _ c.requires)

pub swap-requires : goal.swap-requires
swap-requires g c =
    let h = c.args.self.now in
    let at = fits _ _ _ h.sized (ap (λ t. t.shared.table_id) c.deref.ensures) h.seated in
    let filled = written _ _ _ _ _ _ c.load.ensures.2 c.exchange.ensures.3 in
    (c.exchange.ensures.0 ∙ (c.load.ensures.0 ∙ at.0), at.1, publishes _ _ _ c.args.value filled)

pub returns : goal.returns
returns g c =
    let filled = written _ _ _ _ _ _ c.load.ensures.2 c.exchange.ensures.3 in
    let out = subst (λ (m : Place g.row.V.Denot g.row.C.Denot). PublishedIn (value_in_hand m.1) c.swap.result c.swap.new.seat.me) filled c.swap.ensures.2 in
    record { cell = c.swap.ensures.0 ∙ (c.exchange.ensures.0 ∙ c.load.ensures.0); place = chosen _ _ _ _ out.0 out.1 }
