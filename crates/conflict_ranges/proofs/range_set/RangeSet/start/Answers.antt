use Rattle.std.proofs.Common.{sym, ap, ◌∙◌}
use Rattle.std.proofs.lemmas.Bool.{not-true}
use Rattle.key_bytes.specs.Keys.{key_lt}
use Rattle.model_database.specs.States.{covers}
use Rattle.range_map.proofs.Bounded.{within_backward}
use Rattle.conflict_ranges.proofs.range_set.RangeSet.start.Goals as goal

pub returns-else-not-is_empty-clause-ok : goal.returns-else-not-is_empty-clause-ok
returns-else-not-is_empty-clause-ok c key =
    let range = c.args.range.now in
    ap (λ ranges. covers ranges key) c.requires
    ∙ sym
    (within_backward range.begin range.end key
    (not-true (key_lt range.begin range.end) (sym c.is_empty.ensures ∙ c.if-not-is_empty.false)))
