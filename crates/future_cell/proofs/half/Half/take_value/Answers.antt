use Rattle.std.proofs.Common.{◌≡◌, ap, ◌∙◌, refl, [], Some}
use Rattle.future_cell.specs.declared.stage.Item.TheVariants.{Value}
use Rattle.future_cell.specs.declared.stage.View.TheVariants.{Waits}
use Rattle.future_cell.specs.Plays.{Place, kept, waiter_in}
use Rattle.future_cell.proofs.Steps.{fits, written, holding, found, same_value, keeps_value}
use Rattle.future_cell.proofs.half.Half.take_value.Goals as goal

pub exchange-requires : goal.exchange-requires
exchange-requires g c =
    let h = c.args.self.now in
    let at = fits _ _ _ h.sized (ap (λ t. t.shared.table_id) c.deref.ensures) h.seated in
    (at.0, (_, holding _ _ _ _ c.requires.1.1))

pub load-requires : goal.load-requires
load-requires g c =
    let h = c.args.self.now in
    let at = fits _ _ _ h.sized (ap (λ t. t.shared.table_id) c.deref.ensures) h.seated in
    (c.exchange.ensures.0 ∙ at.0, at.1, keeps_value _ _ _ _ c.requires.1.0 (written _ _ _ _ _ _ c.requires.1.1 c.exchange.ensures.3) refl)

pub returns : goal.returns
returns g c = record {
  cell = c.load.ensures.0 ∙ c.exchange.ensures.0;
  place = λ w v saw.
      let got : c.exchange.result ≡ Some (Value v) = found _ _ _ _ _ saw c.exchange.ensures.2 in
      let empty = written _ _ _ _ _ _ saw c.exchange.ensures.3 in
      (same_value _ _ _ c.value_of-value.ensures got, c.load.ensures.2 ∙ ap (λ (m : Place g.row.V.Denot g.row.C.Denot). (Waits (kept (waiter_in m.0)), [])) empty);
}
