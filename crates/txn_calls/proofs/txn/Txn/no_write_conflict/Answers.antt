use Rattle.std.proofs.Common.{rules, subst}
use Rattle.model_database.specs.Transactions.{phase_code, with_write_conflict_disabled}
use Rattle.fdb_calls.specs.declared.Reply.TheVariants as reply
use Rattle.txn_calls.specs.Stands.{StandsFor}
use Rattle.txn_calls.proofs.Accepted.{does_done}
use Rattle.txn_calls.proofs.Standing.{stands_write_conflict_disabled}
use Rattle.txn_calls.proofs.txn.Txn.no_write_conflict.Goals as goal

pub returns : goal.returns
unfolding phase_code
returns c t stands =
    does_done (phase_code t.phase) t (with_write_conflict_disabled t) reply.Done _ (search rules)
    (subst (λ k. StandsFor k (with_write_conflict_disabled t)) (search rules) (stands_write_conflict_disabled c.args.self.now t stands))
