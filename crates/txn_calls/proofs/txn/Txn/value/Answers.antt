use Rattle.std.proofs.Common.{sym, ap, ◌∙◌}
use Rattle.std.specs.FinMap as finite
use Rattle.version_store.specs.Versions.{at}
use Rattle.ryw_view.proofs.Seen.{seen_unreadable}
use Rattle.txn_calls.proofs.txn.Txn.value.Goals as goal

pub returns-in-Err-Unreadable : goal.returns-in-Err-Unreadable
returns-in-Err-Unreadable c =
    let view = c.view.result in
    let refused = rw c.in-Err-Unreadable.field-0-is at (c.in-Err-Unreadable.ensures {u = tt}).refused in
    sym (seen_unreadable view.edits.now.mutations (at view.store.now view.version) c.args.key.now refused)
    ∙ ap (λ database. finite.get database c.args.key.now) c.view.ensures.shows
