use Rattle.std.proofs.Common.{sym, ap, ◌∙◌}
use Rattle.std.specs.List.{filter}
use Rattle.std.specs.Map.Iter.{deref_pair}
use Rattle.key_bytes.specs.Keys.{key_le}
use Rattle.key_map.specs.Ends.{first}
use Rattle.key_map.proofs.Finite.{entries-tree}
use Rattle.key_map.proofs.Spans.{range_contains-from, option_map-TakesFirst}
use Rattle.key_map.proofs.map.KeyMap.next.Goals as goal

pub returns : goal.returns
returns g c =
    let es = c.self.inside.tree.entries in let k = c.args.key.now in
    option_map-TakesFirst deref_pair _ _ _ c.next.ensures.steps
    ∙ ap first (c.range.ensures.between tt ∙ (λ i. filter (λ e. range_contains-from k e.0 i) es))
    ∙ ap (λ es. first (filter (λ e. key_le k e.0) es)) (sym (entries-tree es _ c.self.view_is c.range.ensures.ordered))
