use Rattle.std.proofs.Common.{sym, subst, ◌∙◌}
use Rattle.model_database.specs.Transactions.{fresh}
use Rattle.txn_calls.specs.Stands.{Kept, StandsFor}
use Rattle.txn_calls.proofs.Standing.{versioned}
use Rattle.txn_calls.proofs.txn.Txn.at_last.Goals as goal

pub returns : goal.returns
returns c index setting keeps =
    versioned setting _ c.last.result (fresh c.args.life)
    (subst (λ (kept : Kept). StandsFor kept (fresh c.args.life)) (sym c.transaction.view_is) c.new-transaction.ensures)
    (c.last.ensures.value ∙ keeps.last_is)
