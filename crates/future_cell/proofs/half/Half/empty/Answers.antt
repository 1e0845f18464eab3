use Rattle.std.proofs.Common.{◌≡◌, sym, ap, ◌∙◌, subst, refl}
use Rattle.future_cell.specs.declared.stage.SetterStage.{SetterStage}
use Rattle.future_cell.specs.declared.stage.SetterStage.TheVariants.{Finished}
use Rattle.future_cell.specs.declared.stage.Known.{Known}
use Rattle.future_cell.specs.declared.stage.Known.TheVariants.{Unseen, Taken}
use Rattle.future_cell.specs.declared.stage.View.TheVariants.{Meets}
use Rattle.future_cell.specs.Plays.{Place, Emptied, setter_in, waiter_in, known_of, is_known, emptied_hand}
use Rattle.future_cell.proofs.Steps.{fits, written, holding, empties, closes}
use Rattle.future_cell.proofs.half.Half.empty.Goals as goal

pub load-requires : goal.load-requires
load-requires g c =
    let h = c.args.self.now in
    let at = fits _ _ _ h.sized (ap (λ t. t.shared.table_id) c.deref.ensures) h.seated in
    let w = waiter_in h.seat.me.0 in
    let v = c.requires.joined.0 in
    let ran = c.requires.joined.1.0 in
    let known : w.known ≡ Taken c.in-Some.value = c.requires.known ∙ ap known_of c.in-Some.is in
    let is : h.seat.me ≡ (Meets (Finished v ran) w, emptied_hand w.known) = c.requires.joined.1.1 ∙ ap (λ (k : Known g.row.V.Denot). (Meets (Finished v ran) w, emptied_hand k)) (sym known) in
    (at.0, at.1, closes _ _ _ v ran w is (ap is_known known) c.requires.settled)

pub load-requires-in-None : goal.load-requires-in-None
load-requires-in-None g c =
    let h = c.args.self.now in
    let at = fits _ _ _ h.sized (ap (λ t. t.shared.table_id) c.deref.ensures) h.seated in
    let w = waiter_in h.seat.me.0 in
    let known : w.known ≡ Unseen = c.requires.known ∙ ap known_of c.in-None.is in
    (at.0, at.1, empties _ _ _ c.requires.joined.0 c.requires.joined.1.0 w c.requires.joined.1.1 known)

pub exchange-requires : goal.exchange-requires
exchange-requires g c =
    let h = c.args.self.now in
    let at = fits _ _ _ h.sized (ap (λ t. t.shared.table_id) c.deref.ensures) h.seated in
    let told = subst (λ (p : SetterStage g.row.V.Denot). Emptied p (waiter_in h.seat.me.0) c.load-in-None.new.seat.me) (ap (λ (m : Place g.row.V.Denot g.row.C.Denot). setter_in m.0) c.requires.joined.1.1) c.load-in-None.ensures.2 in
    (c.load-in-None.ensures.0 ∙ at.0, (_, holding _ _ _ _ told))

pub load-requires-in-None-2 : goal.load-requires-in-None-2
load-requires-in-None-2 g c =
    let h = c.args.self.now in
    let at = fits _ _ _ h.sized (ap (λ t. t.shared.table_id) c.deref.ensures) h.seated in
    let told = subst (λ (p : SetterStage g.row.V.Denot). Emptied p (waiter_in h.seat.me.0) c.load-in-None.new.seat.me) (ap (λ (m : Place g.row.V.Denot g.row.C.Denot). setter_in m.0) c.requires.joined.1.1) c.load-in-None.ensures.2 in
    (c.exchange.ensures.0 ∙ (c.load-in-None.ensures.0 ∙ at.0), at.1, closes _ _ _ c.requires.joined.0 c.requires.joined.1.0 _ (written _ _ _ _ _ _ told c.exchange.ensures.3) refl c.requires.settled)
