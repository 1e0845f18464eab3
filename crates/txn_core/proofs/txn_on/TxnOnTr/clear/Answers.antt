use Rattle.std.proofs.Common.{ap}
use Rattle.model_database.specs.Databases.{Clear}
use Rattle.model_database.specs.Transactions.{clear_code}
use Rattle.fdb_calls.specs.declared.Reply.TheVariants as reply
use Rattle.txn_core.proofs.Answering.{answered_on, writes_answered}
use Rattle.txn_core.proofs.txn_on.TxnOnTr.clear.Goals as goal

pub returns-clause-answer : goal.returns-clause-answer
returns-clause-answer c setting t stands =
    answered_on (λ _. reply.Done) c.clear.result c.clear.new.self c.args.self.now.store.now c.args.self.now.index.now setting t _ stands.1
    (writes_answered c.clear.result c.args.self.now.txn.now c.clear.new.self t _ _ (Clear c.args.key.now) (ap (λ now. clear_code now c.args.key.now) stands.0.phase) stands.0 c.clear.ensures)
