use Rattle.std.proofs.Common.{ap}
use Rattle.model_database.specs.Databases.{Set}
use Rattle.model_database.specs.Transactions.{set_code}
use Rattle.fdb_calls.specs.declared.Reply.TheVariants as reply
use Rattle.txn_core.proofs.Answering.{answered_on, writes_answered}
use Rattle.txn_core.proofs.txn_on.TxnOnTr.set.Goals as goal

pub returns-clause-answer : goal.returns-clause-answer
returns-clause-answer c setting t stands =
    answered_on (λ _. reply.Done) c.set.result c.set.new.self c.args.self.now.store.now c.args.self.now.index.now setting t _ stands.1
    (writes_answered c.set.result c.args.self.now.txn.now c.set.new.self t _ _ (Set c.args.key.now c.args.value.now) (ap (λ now. set_code now c.args.key.now c.args.value.now) stands.0.phase) stands.0 c.set.ensures)
