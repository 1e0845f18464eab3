use Rattle.std.proofs.Common.{ap, ◌∙◌, refl, subst, [], ◌∷◌, Some}
use Rattle.future_cell.specs.declared.stage.Item.TheVariants.{Callback}
use Rattle.future_cell.specs.declared.stage.CallbackStage.TheVariants.{Lies, Refused}
use Rattle.future_cell.specs.declared.stage.View.TheVariants.{Waits}
use Rattle.future_cell.specs.Plays.{Place, ParkedIn, looked_at, waiter_in, callback_in_hand}
use Rattle.future_cell.proofs.Steps.{fits, written, chosen, reserves, parks}
use Rattle.future_cell.proofs.half.Half.lay.Goals as goal

pub load-requires : goal.load-requires
load-requires g c =
    let h = c.args.self.now in
    let at = fits _ _ _ h.sized (ap (λ t. t.shared.table_id) c.deref.ensures) h.seated in
    (at.0, at.1, reserves _ _ _ _ c.requires.waits c.requires.unregistered)

pub compare_exchange-requires : goal.compare_exchange-requires
compare_exchange-requires g c =
    let h = c.args.self.now in
    let at = fits _ _ _ h.sized (ap (λ t. t.shared.table_id) c.deref.ensures) h.seated in
    let laid = written _ _ _ _ _ _ c.load.ensures.2 c.exchange.ensures.3 in
    (c.exchange.ensures.0 ∙ (c.load.ensures.0 ∙ at.0), at.1, parks _ _ _ _ c.args.callback laid refl)

pub returns : goal.returns
returns g c =
    let w = waiter_in c.args.self.now.seat.me.0 in
    let laid = written _ _ _ _ _ _ c.load.ensures.2 c.exchange.ensures.3 in
    let told = subst (λ (m : Place g.row.V.Denot g.row.C.Denot). ParkedIn (callback_in_hand m.1) (waiter_in m.0) c.compare_exchange.result c.compare_exchange.new.seat.me) laid c.compare_exchange.ensures.2 in
    record {
      cell = c.compare_exchange.ensures.0 ∙ (c.exchange.ensures.0 ∙ c.load.ensures.0);
      place = chosen _ _ _ _
          (λ e. told.0 e ∙ ap (λ n. (Waits (record (looked_at w n) { callback = Lies c.args.callback }), [])) e)
          (λ other. let held = told.1 other in held.1 ∙ ap (λ n. (Waits (record (looked_at w n) { callback = Refused }), (1, Some (Callback c.args.callback)) ∷ [])) held.0);
    }
