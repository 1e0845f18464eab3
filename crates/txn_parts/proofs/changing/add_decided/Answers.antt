use Rattle.std.proofs.Common.{Some, refl, sym, ap, subst, option_copied}
use Rattle.std.proofs.lemmas.Result.{on_ok_weaker}
use Rattle.model_database.specs.States.{Decided}
use Rattle.ryw_view.specs.Views.{stored_of}
use Rattle.txn_parts.specs.Changing.{LeadUpTo}
use Rattle.txn_parts.proofs.Changes.{led_single}
use Rattle.txn_parts.proofs.changing.add_decided.Goals as goal

pub returns-in_ok-value-in-Some : goal.returns-in_ok-value-in-Some
returns-in_ok-value-in-Some c =
    let view = c.args.view.now in let begin = c.args.begin.now in let boundary = option_copied c.args.boundary in
    let state = rw c.in-Some.is at c.requires.state in
    on_ok_weaker c.push.result
    (λ is. subst (LeadUpTo view.edits.now.mutations (stored_of view) boundary) (sym is)
    (led_single view.edits.now.mutations (stored_of view) begin boundary c.requires.segment c.args.changes.now c.requires.before
    (Decided (Some c.in-Some.value.now)) state refl (Some c.in_ok-value-in-Some.value)
    (ap (λ v. Some v) (c.in_ok-value-in-Some.ensures {u = tt}))))
    c.push.ensures
