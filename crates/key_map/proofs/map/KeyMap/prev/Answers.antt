use Rattle.std.proofs.Common.{sym, ap, ◌∙◌}
use Rattle.std.specs.List.{filter}
use Rattle.std.specs.Map.Iter.{deref_pair}
use Rattle.key_bytes.specs.Keys.{key_lt}
use Rattle.key_map.specs.Ends.{last}
use Rattle.key_map.proofs.Finite.{entries-tree}
use Rattle.key_map.proofs.Spans.{range_contains-below, option_map-TakesLast}
use Rattle.key_map.proofs.map.KeyMap.prev.Goals as goal

pub returns : goal.returns
returns g c =
    let es = c.self.inside.tree.entries in let k = c.args.key.now in
    option_map-TakesLast deref_pair _ _ _ c.next_back.ensures.steps
    ∙ ap last (c.range.ensures.between tt ∙ (λ i. filter (λ e. range_contains-below k e.0 i) es))
    ∙ ap (λ es. last (filter (λ e. key_lt e.0 k) es)) (sym (entries-tree es _ c.self.view_is c.range.ensures.ordered))
