use Rattle.std.proofs.Common.{◌≡◌, true, sym, ap, subst, ◌∙◌}
use Rattle.std.specs.List.{All}
use Rattle.std.proofs.lemmas.Result.{IfOk-weaker}
use Rattle.model_database.specs.Databases.{do_all}
use Rattle.model_database.specs.KeyByKey.{is_modified_by}
use Rattle.model_database.specs.States.{all_filled, unreadable}
use Rattle.version_store.specs.Versions.{at, last_of}
use Rattle.write_map.proofs.Filled.{filled_readable, plain_filled, plain_readable}
use Rattle.txn_calls.specs.Stands.{Kept}
use Rattle.txn_calls.proofs.txn.Txn.changes.Goals as goal

pub changes_at_last-requires : goal.changes_at_last-requires
changes_at_last-requires c =
    record { readable = ap unreadable (c.in_ok-filled.ensures {u = tt}) ∙ filled_readable c.args.stamp.now c.self.inside.edits.mutations }

pub changes_at_last-requires-else-has_stamps : goal.changes_at_last-requires-else-has_stamps
changes_at_last-requires-else-has_stamps c =
    record { readable = plain_readable c.self.inside.edits.mutations (sym c.has_stamps.ensures ∙ c.if-has_stamps.false) }

pub returns-else-has_stamps-clause-only : goal.returns-else-has_stamps-clause-only
returns-else-has_stamps-clause-only c =
    let mutations = c.self.inside.edits.mutations in
    let filled = sym (plain_filled c.args.stamp.now mutations (sym c.has_stamps.ensures ∙ c.if-has_stamps.false))
    ∙ ap (λ (k : Kept). all_filled c.args.stamp.now k.mutations) c.self.view_is in
    IfOk-weaker c.changes_at_last-else-has_stamps.result _ _
    (λ changes only. subst (λ list. All (λ change. is_modified_by list change.0 ≡ true) changes) filled only)
    c.changes_at_last-else-has_stamps.ensures.only

pub returns-else-has_stamps-clause-leads : goal.returns-else-has_stamps-clause-leads
returns-else-has_stamps-clause-leads c =
    let mutations = c.self.inside.edits.mutations in let store = c.args.store.now in
    let filled = sym (plain_filled c.args.stamp.now mutations (sym c.has_stamps.ensures ∙ c.if-has_stamps.false))
    ∙ ap (λ (k : Kept). all_filled c.args.stamp.now k.mutations) c.self.view_is in
    IfOk-weaker c.changes_at_last-else-has_stamps.result _ _
    (λ changes leads. leads ∙ ap (λ list. do_all list (at store (last_of store))) filled)
    c.changes_at_last-else-has_stamps.ensures.leads
