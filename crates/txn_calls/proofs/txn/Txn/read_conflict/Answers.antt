use Rattle.std.proofs.Common.{rules, ◌||◌, ap, subst, ◌∙◌}
use Rattle.key_bytes.specs.Ranges.{has}
use Rattle.model_database.specs.States.{covers}
use Rattle.model_database.specs.Transactions.{range_code, with_read_range}
use Rattle.fdb_calls.specs.declared.Reply.TheVariants as reply
use Rattle.txn_calls.specs.Stands.{Kept, StandsFor}
use Rattle.txn_calls.proofs.Accepted.{does_done}
use Rattle.txn_calls.proofs.Standing.{stands_reads}
use Rattle.txn_calls.proofs.txn.Txn.read_conflict.Goals as goal

pub returns : goal.returns
returns c t stands =
    let range = c.args.range.now in
    does_done (range_code t.phase range.begin range.end) t (with_read_range t range) reply.Done _ (search rules)
    (subst (λ k. StandsFor k (with_read_range t range)) (search rules)
    (stands_reads range c.args.self.now t c.add.new.self stands
    (λ key. (c.in_ok-add.ensures {u = tt}).ok key ∙ ap (λ (k : Kept). covers k.read_ranges key || has range key) c.self.view_is)))
