use Rattle.std.proofs.Common.{rules}
use Rattle.txn_calls.proofs.Standing.{stands_written}
use Rattle.txn_calls.proofs.txn.Txn.add_clear_range.Goals as goal

pub returns-clause-ok : goal.returns-clause-ok
returns-clause-ok c = stands_written _ c.args.self.now _ (search rules) (search rules)
