use Rattle.std.proofs.Common.{rules, ap, ◌∙◌}
use Rattle.model_database.specs.Intervals.{last_key}
use Rattle.txn_parts.proofs.LastKeys.{last_key_at}
use Rattle.txn_parts.proofs.intervals.last_key.Goals as goal

pub returns-in-Some : goal.returns-in-Some
returns-in-Some c =
    last_key_at c.args.key.now c.as_slice.result.now c.in-Some.pair.now (search rules)
    ∙ ap (last_key c.args.key.now) c.as_slice.ensures
