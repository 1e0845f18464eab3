use Rattle.std.proofs.Common.{◌∙◌}
use Rattle.std.proofs.lemmas.Result.{IfOk-weaker}
use Rattle.version_store.specs.Versions.{at, last_of}
use Rattle.model_database.specs.States.{all_filled}
use Rattle.model_database.specs.Transactions.{writes_of}
use Rattle.txn_calls.proofs.States.{same_filled_maps}
use Rattle.txn_parts.proofs.Modified.{each_modified}
use Rattle.txn_core.proofs.txn_on.TxnOn.changes.Goals as goal

pub returns-clause-leads : goal.returns-clause-leads
returns-clause-leads c = IfOk-weaker c.changes.result _ _ (λ changes leads t stands.
    leads
    ∙ same_filled_maps c.args.self.now.txn.now.mutations (writes_of t) c.args.stamp.now stands.mutations c.told-stamp
    (at c.args.self.now.store.now (last_of c.args.self.now.store.now))) c.changes.ensures.leads

pub returns-clause-only : goal.returns-clause-only
returns-clause-only c = IfOk-weaker c.changes.result _ _ (λ changes only t stands.
    each_modified (all_filled c.args.stamp.now c.args.self.now.txn.now.mutations) changes (all_filled c.args.stamp.now (writes_of t))
    (λ key. stands.mutations.filled_same c.args.stamp.now key c.told-stamp) only) c.changes.ensures.only
