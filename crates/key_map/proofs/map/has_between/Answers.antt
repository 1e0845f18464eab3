use Rattle.std.proofs.Common.{is_lt, sym, ap, ◌∙◌}
use Rattle.std.specs.List.{filter}
use Rattle.std.specs.Map.Iter.{deref_pair}
use Rattle.key_map.proofs.Spans.{range_contains-within, filter-within-backward, OnFalse-TakesFirst}
use Rattle.key_map.proofs.map.has_between.Goals as goal

pub returns-then-not-is_lt : goal.returns-then-not-is_lt
returns-then-not-is_lt g c =
    filter-within-backward c.args.begin.now c.args.end.now _ (sym (ap is_lt c.cmp.ensures) ∙ sym c.is_lt.ensures ∙ c.if-not-is_lt.true)

pub returns : goal.returns
returns g c =
    OnFalse-TakesFirst deref_pair _ _ _ c.next.result _ c.next.ensures.steps
    (c.range.ensures.between tt ∙ (λ i. filter (λ e. range_contains-within c.args.begin.now c.args.end.now e.0 i) c.args.tree.now.entries))
    c.is_some.ensures
