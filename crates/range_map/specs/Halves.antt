-- A map's boundaries lie in a row while they are few, and else in a tree.
use Rattle.std.specs.Prelude.{◌≡◌, ◌⊎◌, ℕ, suc, Bool, true, false, if◌then◌else◌, List, [], ◌∷◌}

module _ {X : Type 0} where
  -- there is none
  abbrev pub is_nil : List X → Bool
  is_nil [] = true
  is_nil (x ∷ xs) = false

  -- those of the row, or, where it has none, those of the tree
  abbrev pub either : List X → List X → List X
  either [] many = many
  either (x ∷ xs) many = x ∷ xs

  -- one of the two has none
  abbrev pub IsOneOf : List X → List X → Type 0
  IsOneOf row tree = (row ≡ []) ⊎ (tree ≡ [])

-- how many boundaries stand before the first one that fails a test
abbrev pub count_while : {X : Type 0} → (List ℕ → Bool) → List (List ℕ × X) → ℕ
count_while p [] = 0
count_while p (e ∷ es) = if p e.0 then suc (count_while p es) else 0

-- each boundary with its place, counted from a first place on
abbrev pub placed : {X : Type 0} → ℕ → List (List ℕ × X) → List (List ℕ × ℕ)
placed n [] = []
placed n (e ∷ es) = (e.0, n) ∷ placed (suc n) es
