-- Boundaries over the keys: each has what all keys from it up to the next boundary have.
use Rattle.std.specs.Prelude.{◌≡◌, ℕ, Bool, true, if◌then◌else◌, List, [], ◌∷◌, Option, Some, None, is_some}
use Rattle.std.specs.BTreeMap.{insert_entry, is_at}
use Rattle.std.specs.Map.{keys_of, lookup, remove_entry}
use Rattle.key_bytes.specs.Keys.{key_cmp, key_le, key_lt}

-- what the keys below the first boundary have, and the boundaries in the order of keys
pub record Boundaries (X : Type 0) : Type 0 where
  pub base : X
  pub entries : List (List ℕ × X)

module _ {X : Type 0} where
  -- boundaries, and what the keys below them have
  abbrev pub with_base : X → List (List ℕ × X) → Boundaries X
  with_base base entries = record { base = base; entries = entries }

  -- what a key has, where d is had below the first of these boundaries
  abbrev pub held_from : X → List (List ℕ × X) → List ℕ → X
  held_from d [] key = d
  held_from d (e ∷ es) key = if key_le e.0 key then held_from e.1 es key else d

  -- what a key has: what the last boundary that isn't above it has
  abbrev pub held : Boundaries X → List ℕ → X
  held boundaries key = held_from boundaries.base boundaries.entries key

  -- the boundaries, in the order of keys
  abbrev pub boundaries_of : Boundaries X → List (List ℕ)
  boundaries_of boundaries = keys_of boundaries.entries

  -- a key is a boundary
  abbrev pub is_boundary : List ℕ → Boundaries X → Bool
  is_boundary key boundaries = is_some (lookup (is_at (key_cmp key)) boundaries.entries)

  -- with a boundary more, which has x; a key that is a boundary stays as it is
  abbrev pub with_boundary : List ℕ → X → Boundaries X → Boundaries X
  with_boundary key x boundaries = if is_boundary key boundaries then boundaries else record boundaries { entries = insert_entry key_cmp boundaries.entries key x }

  -- with a key as a boundary, which gets what is spread of what the key had
  abbrev pub split_at : (X → X) → List ℕ → Boundaries X → Boundaries X
  split_at spread key boundaries = with_boundary key (spread (held boundaries key)) boundaries

  -- with two keys as boundaries, one after the other
  abbrev pub split_both : (X → X) → List ℕ → List ℕ → Boundaries X → Boundaries X
  split_both spread begin end boundaries = split_at spread end (split_at spread begin boundaries)

  -- each boundary that passes a test has what f makes of what it had
  abbrev pub changed_entries : (List ℕ → Bool) → (X → X) → List (List ℕ × X) → List (List ℕ × X)
  changed_entries p f [] = []
  changed_entries p f (e ∷ es) = (e.0, if p e.0 then f e.1 else e.1) ∷ changed_entries p f es

  abbrev pub changed : (List ℕ → Bool) → (X → X) → Boundaries X → Boundaries X
  changed p f boundaries = record boundaries { entries = changed_entries p f boundaries.entries }

  -- without a boundary
  abbrev pub without_boundary : List ℕ → Boundaries X → Boundaries X
  without_boundary key boundaries = record boundaries { entries = remove_entry (is_at (key_cmp key)) boundaries.entries }

-- a key is less than a boundary, where there is one
abbrev pub IsBelowBoundary : List ℕ → Option (List ℕ) → Type 0
IsBelowBoundary key None = Unit {0}
IsBelowBoundary key (Some boundary) = key_lt key boundary ≡ true
