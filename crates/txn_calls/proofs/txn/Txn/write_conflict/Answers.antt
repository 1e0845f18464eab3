use Rattle.std.proofs.Common.{rules, not, ◌&&◌, ◌||◌, length, nat_lt, ap, subst, ◌∙◌}
use Rattle.key_bytes.specs.Keys.{key_lt}
use Rattle.key_bytes.specs.Ranges.{has}
use Rattle.model_database.specs.States.{covers}
use Rattle.model_database.specs.Transactions.{range_code, with_write_range}
use Rattle.fdb_calls.specs.declared.Reply.TheVariants as reply
use Rattle.txn_calls.specs.Stands.{Kept, StandsFor}
use Rattle.txn_calls.proofs.Accepted.{does_done}
use Rattle.txn_calls.proofs.Standing.{stands_writes}
use Rattle.txn_calls.proofs.txn.Txn.write_conflict.Goals as goal

pub returns : goal.returns
returns c t stands =
    let range = c.args.range.now in let added = c.in_ok-add_filled.ensures {u = tt} in
    does_done (range_code t.phase range.begin range.end) t (with_write_range t range) reply.Done _ (search rules)
    (subst (λ k. StandsFor k (with_write_range t range)) (search rules)
    (stands_writes range c.args.self.now t c.add_filled.new.ranges stands
    (λ key. added.ok key ∙ ap (λ (k : Kept). covers k.write_ranges key || has range key) c.self.view_is)
    (added.bare ∙ ap (λ (k : Kept). nat_lt (length k.write_ranges) 1 && not (key_lt range.begin range.end)) c.self.view_is)))
