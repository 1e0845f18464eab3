use Rattle.txn_core.proofs.txn_on.TxnOn.judge.Goals as goal

pub returns-clause-verdict : goal.returns-clause-verdict
returns-clause-verdict c setting t stands keeps = c.judge.ensures.verdict setting t stands keeps
