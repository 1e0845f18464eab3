-- A map after pairs are inserted.
use Rattle.std.specs.Prelude.{ℕ, List, [], ◌∷◌}
use Rattle.std.specs.FinMap.{FinMap, insert}
use Rattle.key_bytes.specs.Keys.{key_cmp}

module _ {X : Type 0} where
  -- the map after the pairs are inserted one by one: of two values of one key the later stays
  abbrev pub inserted : List (List ℕ × X) → FinMap key_cmp X → FinMap key_cmp X
  inserted [] map = map
  inserted (pair ∷ pairs) map = inserted pairs (insert map pair.0 pair.1)
