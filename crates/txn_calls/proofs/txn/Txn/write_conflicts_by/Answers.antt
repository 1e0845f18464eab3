use Rattle.std.proofs.Common.{◌++◌, sym, ap, ◌∙◌}
use Rattle.std.proofs.lemmas.Result.{IfOk-weaker}
use Rattle.model_database.specs.States.{all_filled}
use Rattle.txn_calls.specs.Stands.{Kept, write_conflicts_among}
use Rattle.write_map.proofs.Filled.{plain_filled}
use Rattle.txn_calls.proofs.txn.Txn.write_conflicts_by.Goals as goal

pub returns-else-has_stamps : goal.returns-else-has_stamps
returns-else-has_stamps c =
    let kept = c.args.self.now in let mutations = c.self.inside.edits.mutations in
    IfOk-weaker c.write_conflicts-else-has_stamps.result _ _ (λ ranges found.
    found
    ∙ ap (λ list. write_conflicts_among list kept.adds_conflict ++ kept.write_ranges)
    (sym (plain_filled c.args.stamp.now mutations (sym c.has_stamps.ensures ∙ c.if-has_stamps.false)))
    ∙ ap (λ (k : Kept). write_conflicts_among (all_filled c.args.stamp.now k.mutations) kept.adds_conflict ++ kept.write_ranges) c.self.view_is)
    c.write_conflicts-else-has_stamps.ensures
