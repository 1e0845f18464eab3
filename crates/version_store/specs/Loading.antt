-- What a load makes of pairs: each value is the whole chain of its key.
use Rattle.std.specs.Prelude.{◌≡◌, ℕ, ◌+◌, List, [], ◌∷◌, Some, map}
use Rattle.std.specs.List.{All}
use Rattle.key_bytes.specs.declared.pairs.Pair.{Pair}
use Rattle.version_store.specs.Chains.{Slots, Places, chain_of, IsThere}
use Rattle.version_store.specs.Versions.{Chain}

-- the chain of a key that was given one value, at version 1
abbrev pub first_chain : List ℕ → Chain
first_chain value = (1, Some value) ∷ []

-- each key with its chain
abbrev pub first_chains : List (List ℕ × List ℕ) → List (List ℕ × Chain)
first_chains pairs = map (λ pair. (pair.0, first_chain pair.1)) pairs

-- a place was given one value, at version 1
abbrev pub IsAlone : Slots → ℕ → Type 0
IsAlone slots place = IsThere slots place × ((value : List ℕ) × (chain_of slots place ≡ first_chain value))

-- so it is at each place
abbrev pub AreAlone : Slots → Places → Type 0
AreAlone slots places = All (λ e. IsAlone slots e.1) places

-- each key with its place, where the first one's is given, and the others follow
abbrev pub places_from : ℕ → List Pair → Places
places_from place [] = []
places_from place (pair ∷ pairs) = (pair.key, place) ∷ places_from (place + 1) pairs
