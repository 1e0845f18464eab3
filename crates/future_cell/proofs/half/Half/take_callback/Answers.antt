use Rattle.std.proofs.Common.{ap, ◌∙◌}
use Rattle.future_cell.proofs.Steps.{fits, written, holding, finishes}
use Rattle.future_cell.proofs.half.Half.take_callback.Goals as goal

pub exchange-requires : goal.exchange-requires
exchange-requires g c =
    let h = c.args.self.now in
    let at = fits _ _ _ h.sized (ap (λ t. t.shared.table_id) c.deref.ensures) h.seated in
    (at.0, (_, holding _ _ _ _ c.requires.1.1))

pub load-requires : goal.load-requires
load-requires g c =
    let h = c.args.self.now in
    let at = fits _ _ _ h.sized (ap (λ t. t.shared.table_id) c.deref.ensures) h.seated in
    (c.exchange.ensures.0 ∙ at.0, at.1, finishes _ _ _ c.requires.0 (written _ _ _ _ _ _ c.requires.1.1 c.exchange.ensures.3))
