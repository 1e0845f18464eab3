use Rattle.fdb_calls.specs.declared.Reply.TheVariants as reply
use Rattle.txn_core.proofs.Answering.{answered_on}
use Rattle.txn_core.proofs.txn_on.TxnOnTr.no_write_conflict.Goals as goal

pub returns-clause-answer : goal.returns-clause-answer
returns-clause-answer c setting t stands =
    answered_on (λ _. reply.Done) c.no_write_conflict.result c.no_write_conflict.new.self c.args.self.now.store.now c.args.self.now.index.now setting t _ stands.1
    (c.no_write_conflict.ensures t stands.0)
