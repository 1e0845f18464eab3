use Rattle.std.proofs.Common.{sym, ap, subst, ◌∙◌}
use Rattle.std.specs.List.{filter}
use Rattle.std.specs.List.Sorted.{IsStrictlySortedBy}
use Rattle.std.specs.Map.{keys_of}
use Rattle.key_bytes.specs.Keys.{key_cmp, within}
use Rattle.key_map.proofs.Finite.{entries-tree}
use Rattle.key_map.proofs.Spans.{range_contains-within}
use Rattle.key_map.proofs.map.KeyMap.between.Goals as goal

pub returns-clause-between : goal.returns-clause-between
returns-clause-between g c =
    let es = c.self.inside.tree.entries in let begin = c.args.begin.now in let end = c.args.end.now in
    (c.range.ensures.between tt ∙ (λ i. filter (λ e. range_contains-within begin end e.0 i) es))
    ∙ ap (λ es. filter (λ e. within begin end e.0) es) (sym (entries-tree es _ c.self.view_is c.range.ensures.ordered))

pub returns-clause-rising : goal.returns-clause-rising
returns-clause-rising g c =
    subst (λ es. IsStrictlySortedBy key_cmp (keys_of es))
    (sym (entries-tree c.self.inside.tree.entries _ c.self.view_is c.range.ensures.ordered)) c.range.ensures.ordered
