use Rattle.txn_core.proofs.txn_on.TxnOn.get_key_range.Goals as goal

pub returns-clause-answer : goal.returns-clause-answer
returns-clause-answer c setting t stands keeps = c.get_key_range.ensures c.args.self.now.index.now setting keeps t stands
