use Rattle.std.proofs.Common.{ap, ◌∙◌, [], ◌∷◌, Some}
use Rattle.future_cell.specs.declared.stage.Item.TheVariants.{Value}
use Rattle.future_cell.specs.declared.stage.Known.TheVariants.{Taking}
use Rattle.future_cell.specs.declared.stage.View.TheVariants.{Waits}
use Rattle.future_cell.specs.Plays.{looked_at, waiter_in}
use Rattle.future_cell.proofs.Steps.{fits, chosen, looks}
use Rattle.future_cell.proofs.half.Half.look.Goals as goal

pub load-requires : goal.load-requires
load-requires g c =
    let h = c.args.self.now in
    let at = fits _ _ _ h.sized (ap (λ t. t.shared.table_id) c.deref.ensures) h.seated in
    (at.0, at.1, looks _ _ _ _ c.requires.waits c.requires.unseen)

pub returns : goal.returns
returns g c =
    let w = waiter_in c.args.self.now.seat.me.0 in
    let told = c.load.ensures.2 in
    record {
      cell = c.load.ensures.0;
      place = chosen _ _ _ _
          (λ e. let saw = told.0 e in (saw.0, saw.1 ∙ ap (λ n. (Waits (record (looked_at w n) { known = Taking saw.0 }), (0, Some (Value saw.0)) ∷ [])) e))
          (λ other. let missed = told.1 other in (c.load.result, other, missed.0, missed.1));
    }
