use Rattle.std.proofs.Common.{ap}
use Rattle.model_database.specs.Databases.{ClearRange}
use Rattle.model_database.specs.Transactions.{range_code}
use Rattle.fdb_calls.specs.declared.Reply.TheVariants as reply
use Rattle.txn_core.proofs.Answering.{answered_on, writes_answered}
use Rattle.txn_core.proofs.txn_on.TxnOnTr.clear_range.Goals as goal

pub returns-clause-answer : goal.returns-clause-answer
returns-clause-answer c setting t stands =
    answered_on (λ _. reply.Done) c.clear_range.result c.clear_range.new.self c.args.self.now.store.now c.args.self.now.index.now setting t _ stands.1
    (writes_answered c.clear_range.result c.args.self.now.txn.now c.clear_range.new.self t _ _ (ClearRange c.args.range.now.begin c.args.range.now.end) (ap (λ now. range_code now c.args.range.now.begin c.args.range.now.end) stands.0.phase) stands.0 c.clear_range.ensures)
