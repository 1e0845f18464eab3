use Rattle.std.proofs.Common.{sym, ap, subst, ◌∙◌}
use Rattle.std.specs.List.{filter}
use Rattle.std.specs.Map.{keys_of}
use Rattle.key_bytes.specs.Keys.{key_lt}
use Rattle.key_map.specs.Ends.{last}
use Rattle.range_map.proofs.Held.{IsRising}
use Rattle.range_map.proofs.Searched.{none_before, some_before}
use Rattle.range_map.proofs.row.Row.prev.Goals as goal

pub returns-then-at-eq0 : goal.returns-then-at-eq0
returns-then-at-eq0 g c =
    let key = c.args.key.now in let same = c.as_slice-boundaries.ensures.value in
    none_before key c.as_slice-boundaries.result.now (subst IsRising (sym same) c.self.invariant) c.below-at.result c.below-at.ensures.count
    c.if-at-eq0.true
    ∙ ap (λ es. last (filter (λ boundary. key_lt boundary key) (keys_of es))) (same ∙ c.self.view_is)

pub returns : goal.returns
returns g c =
    let key = c.args.key.now in let same = c.as_slice-boundaries.ensures.value in
    some_before key c.as_slice-boundaries.result.now (subst IsRising (sym same) c.self.invariant) c.below-at.result c.index-boundaries-at.result
    c.below-at.ensures.count c.if-at-eq0.false c.below-at.ensures.inside
    ∙ ap (λ es. last (filter (λ boundary. key_lt boundary key) (keys_of es))) (same ∙ c.self.view_is)
