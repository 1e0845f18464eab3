use Rattle.std.proofs.Common.{is_lt, sym, ap, ◌∙◌}
use Rattle.std.proofs.lemmas.Bool.{not-true}
use Rattle.conflict_ranges.proofs.Only.{is_within_too}
use Rattle.conflict_ranges.proofs.range_set.has_all.Goals as goal

pub returns-then-not-is_lt : goal.returns-then-not-is_lt
returns-then-not-is_lt c has =
    is_within_too c.args.range.now c.args.other.now
    (sym (ap is_lt c.cmp.ensures) ∙ sym c.is_lt.ensures ∙ c.if-not-is_lt.true)
    (sym (ap is_lt c.cmp-then-not-is_lt.ensures) ∙ sym c.is_lt-then-not-is_lt.ensures ∙ not-true c.is_lt-then-not-is_lt.result has)
