use Rattle.std.proofs.Common.{cond, sym, ap, ◌∙◌}
use Rattle.std.proofs.lemmas.Result.{on_ok_weaker}
use Rattle.model_database.specs.Intervals.{one}
use Rattle.model_database.specs.States.{covers}
use Rattle.model_database.proofs.Ranges.{covers_single}
use Rattle.conflict_ranges.specs.Writes.{above, newest_at}
use Rattle.txn_calls.proofs.txn.Txn.add_write_conflicts.Goals as goal

pub returns-in-Some-clause-given : goal.returns-in-Some-clause-given
returns-in-Some-clause-given c =
    let only = c.in-Some.ensures {u = tt} c.args.stamp.now in
    on_ok_weaker c.install_key.result
    (λ given key.
    given key
    ∙ ap (λ t. cond t (above c.args.index.now.forgotten c.args.version) (newest_at c.args.index.now key))
    (sym (covers_single (one c.in-Some.key.now) key) ∙ ap (λ ranges. covers ranges key) (sym only)))
    c.install_key.ensures.given
