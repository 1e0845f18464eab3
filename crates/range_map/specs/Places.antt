-- Boundaries that name places in a list, where what they have lies.
use Rattle.std.specs.Prelude.{◌≢◌, ℕ, ◌<◌, List, [], ◌∷◌, slice_index_or}
use Rattle.std.specs.List.Sorted.{IsStrictlySortedBy}
use Rattle.std.specs.Map.{keys_of}
use Rattle.key_bytes.specs.Keys.{key_cmp}

-- each boundary with what lies at its place
abbrev pub laid_out : {X : Type 0} → X → List X → List (List ℕ × ℕ) → List (List ℕ × X)
laid_out base levels [] = []
laid_out base levels (e ∷ es) = (e.0, slice_index_or levels e.1 base) ∷ laid_out base levels es

-- a place is that of none of these boundaries
abbrev pub IsFree : ℕ → List (List ℕ × ℕ) → Type 0
IsFree place [] = Unit {0}
IsFree place (e ∷ es) = (e.1 ≢ place) × IsFree place es

-- no two boundaries have one place
abbrev pub AreApart : List (List ℕ × ℕ) → Type 0
AreApart [] = Unit {0}
AreApart (e ∷ es) = IsFree e.1 es × AreApart es

-- each place is below a length
abbrev pub AreInside : ℕ → List (List ℕ × ℕ) → Type 0
AreInside len [] = Unit {0}
AreInside len (e ∷ es) = (e.1 < len) × AreInside len es

-- boundaries that rise, with places of their own within a list of so many
pub record HasPlaces (len : ℕ) (places : List (List ℕ × ℕ)) : Type 0 where
  pub rising : IsStrictlySortedBy key_cmp (keys_of places)
  pub inside : AreInside len places
  pub apart : AreApart places
