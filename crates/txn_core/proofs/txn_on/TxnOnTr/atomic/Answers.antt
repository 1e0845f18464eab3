use Rattle.std.proofs.Common.{ap}
use Rattle.model_database.specs.Databases.{Atomic}
use Rattle.model_database.specs.Transactions.{op_code}
use Rattle.fdb_calls.specs.declared.Reply.TheVariants as reply
use Rattle.txn_core.proofs.Answering.{answered_on, writes_answered}
use Rattle.txn_core.proofs.txn_on.TxnOnTr.atomic.Goals as goal

pub returns-clause-answer : goal.returns-clause-answer
returns-clause-answer c setting t stands =
    answered_on (λ _. reply.Done) c.atomic.result c.atomic.new.self c.args.self.now.store.now c.args.self.now.index.now setting t _ stands.1
    (writes_answered c.atomic.result c.args.self.now.txn.now c.atomic.new.self t _ _ (Atomic c.args.op c.args.key.now c.args.operand.now) (ap (λ now. op_code now c.args.op c.args.key.now c.args.operand.now) stands.0.phase) stands.0 c.atomic.ensures)
