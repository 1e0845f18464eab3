-- Boundaries at the ends of ranges.
use Rattle.std.specs.Prelude.{◌≡◌, ℕ, ◌+◌, ◌≤◌, length, true, List, [], ◌∷◌, Option, Some, None}
use Rattle.std.specs.List.{filter}
use Rattle.std.specs.Borrow.{Bor}
use Rattle.key_bytes.specs.declared.range.KeyRange.{KeyRange}
use Rattle.key_bytes.specs.Keys.{key_lt, key_le}
use Rattle.key_map.specs.Ends.{first}
use Rattle.range_map.specs.Boundaries.{Boundaries, held, boundaries_of, is_boundary}

module _ {X : Type 0} where
  -- two keys are boundaries, as all that were, and at most these two more; each key has what it had
  pub record IsSplitAt (begin end : List ℕ) (old new : Boundaries X) : Type 0 where
    pub same : (key : List ℕ) → held new key ≡ held old key
    pub kept : (boundary : List ℕ) → is_boundary boundary old ≡ true → is_boundary boundary new ≡ true
    pub begins : is_boundary begin new ≡ true
    pub ends : is_boundary end new ≡ true
    pub few : length new.entries ≤ length old.entries + 2

  -- the first boundary above a key, if it is below an end: all keys up to it, or up to the end, have the same
  pub record IsNextAt (from end : List ℕ) (boundaries : Boundaries X) (boundary : List ℕ) : Type 0 where
    pub next : first (filter (key_lt from) (boundaries_of boundaries)) ≡ Some boundary
    pub above : key_lt from boundary ≡ true
    pub below : key_lt boundary end ≡ true
    pub alike : (key : List ℕ) → key_le from key ≡ true → key_lt key boundary ≡ true → held boundaries key ≡ held boundaries from

  abbrev pub IsNextWithin : (from end : List ℕ) → Boundaries X → Option (Bor (List ℕ)) → Type 0
  IsNextWithin from end boundaries None =
      (key : List ℕ) → key_le from key ≡ true → key_lt key end ≡ true → held boundaries key ≡ held boundaries from
  IsNextWithin from end boundaries (Some boundary) = IsNextAt from end boundaries boundary.now

  -- the ends of each range are boundaries
  abbrev pub HasRoom : Boundaries X → List KeyRange → Type 0
  HasRoom boundaries [] = Unit {0}
  HasRoom boundaries (range ∷ ranges) = (is_boundary range.begin boundaries ≡ true) × (is_boundary range.end boundaries ≡ true) × HasRoom boundaries ranges
