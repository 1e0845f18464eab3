use Rattle.txn_core.proofs.txn_on.TxnOn.read_version.Goals as goal

pub returns-clause-answer : goal.returns-clause-answer
returns-clause-answer c setting t stands keeps = c.read_version.ensures.answer c.args.self.now.index.now setting keeps t stands
