use Rattle.std.proofs.Common.{◌++◌, sym, ap, ◌∙◌}
use Rattle.std.proofs.lemmas.List.{append-nil}
use Rattle.txn_parts.proofs.write_conflicts.push_ranges.Goals as goal

pub returns : goal.returns
returns c =
    sym (append-nil c.loop-begin.ranges.items)
    ∙ ap (λ list. c.loop-begin.ranges.items ++ list) (sym (c.in-None.ensures {u = tt}).steps.0)
    ∙ c.loop-begin.invariant
