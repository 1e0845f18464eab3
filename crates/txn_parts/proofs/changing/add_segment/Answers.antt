use Rattle.std.proofs.Common.{refl, sym, subst, ◌∙◌, option_copied}
use Rattle.std.proofs.lemmas.Result.{on_ok_weaker}
use Rattle.model_database.specs.States.{Depends, all_atoms}
use Rattle.ryw_view.specs.Views.{stored_of}
use Rattle.txn_parts.specs.Changing.{LeadUpTo}
use Rattle.txn_parts.proofs.Changes.{led_unmodified, led_single}
use Rattle.txn_parts.proofs.changing.add_segment.Goals as goal

pub returns-in-Unmodified : goal.returns-in-Unmodified
returns-in-Unmodified c =
    let view = c.args.view.now in let under = rw c.in-Unmodified.is at c.requires.state in
    led_unmodified view.edits.now.mutations (stored_of view) c.args.begin.now (option_copied c.args.boundary) c.requires.segment
    c.args.changes.now c.requires.before under.1

pub returns-in_ok-value-in-Depends : goal.returns-in_ok-value-in-Depends
returns-in_ok-value-in-Depends c =
    let view = c.args.view.now in let begin = c.args.begin.now in let boundary = option_copied c.args.boundary in
    let under = rw c.in-Depends.is at c.requires.state in
    on_ok_weaker c.push.result
    (λ is. subst (LeadUpTo view.edits.now.mutations (stored_of view) boundary) (sym is)
    (led_single view.edits.now.mutations (stored_of view) begin boundary c.requires.segment c.args.changes.now c.requires.before
    (Depends c.in-Depends.edits.now) under.1 refl c.in_ok-value-in-Depends.value
    ((c.in_ok-value-in-Depends.ensures {u = tt}) ∙ (λ i. all_atoms (c.as_slice.ensures i) (c.stored.ensures i)))))
    c.push.ensures
