use Rattle.fdb_calls.specs.declared.Reply.TheVariants as reply
use Rattle.txn_core.proofs.Answering.{answered_on}
use Rattle.txn_core.proofs.txn_on.TxnOnTr.range.Goals as goal

pub returns-clause-answer : goal.returns-clause-answer
returns-clause-answer c setting t stands =
    answered_on reply.PairsAre c.get_key_range.result c.get_key_range.new.self c.args.self.now.store.now c.args.self.now.index.now setting t _ stands.1
    (c.get_key_range.ensures c.args.self.now.index.now setting stands.1 t stands.0)
