use Rattle.std.proofs.Common.{sym, subst, ◌∙◌}
use Rattle.std.specs.List.Sorted.{IsStrictlySortedBy}
use Rattle.std.specs.Map.{keys_of}
use Rattle.key_bytes.specs.Keys.{key_cmp}
use Rattle.key_map.proofs.Finite.{entries-tree}
use Rattle.key_map.proofs.map.KeyMap.into_entries.Goals as goal

pub returns-clause-rest : goal.returns-clause-rest
returns-clause-rest g c =
    c.into_iter.ensures.into_iter_gives.0
    ∙ sym (entries-tree c.self.inside.tree.entries _ c.self.view_is c.into_iter.ensures.into_iter_gives.5)

pub returns-clause-rising : goal.returns-clause-rising
returns-clause-rising g c =
    subst (λ es. IsStrictlySortedBy key_cmp (keys_of es))
    (sym (entries-tree c.self.inside.tree.entries _ c.self.view_is c.into_iter.ensures.into_iter_gives.5))
    c.into_iter.ensures.into_iter_gives.5
