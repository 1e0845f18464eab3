use Rattle.std.proofs.Common.{false, subst}
use Rattle.model_database.specs.Reads as read
use Rattle.fdb_calls.specs.declared.Reply.TheVariants as reply
use Rattle.txn_calls.specs.Accesses.{Reads}
use Rattle.txn_core.proofs.Answering.{answered_on}
use Rattle.txn_core.proofs.txn_on.TxnOnTr.get.Goals as goal

pub returns-clause-answer : goal.returns-clause-answer
returns-clause-answer c setting t stands =
    answered_on reply.Value c.get.result c.get.new.self c.args.self.now.store.now c.args.self.now.index.now setting t _ stands.1
    (subst (λ key. Reads read.ValueIs c.get.result c.args.self.now.txn.now c.get.new.self setting false c.args.snapshot (read.Get key))
    (c.in_ok-key.ensures {u = tt}) (c.get.ensures c.args.self.now.index.now setting stands.1) t stands.0)
