-- The last write version of each key, as one generation of an index knows it.
use Rattle.std.specs.Prelude.{◌≡◌, ◌≢◌, ◌≤◌, ◌<◌, ◌⊎◌, ℕ, max, true, List, [], ◌∷◌, Option, Some, None}
use Rattle.std.specs.FinMap as finite
use Rattle.key_bytes.specs.declared.range.KeyRange.{KeyRange}
use Rattle.key_bytes.specs.Keys.{key_cmp, after}
use Rattle.range_map.specs.Boundaries.{Boundaries, held, is_boundary}

-- the versions of keys that were installed alone, those of keys in ranges, and one that none of these is above
pub record LastWrites : Type 0 where
  pub keys : finite.FinMap key_cmp ℕ
  pub ranges : Boundaries ℕ
  pub newest : ℕ

-- a version, or 0 where there is none
abbrev pub version_in : Option ℕ → ℕ
version_in None = 0
version_in (Some version) = version

-- the version of a key: the newer one of those that it has alone and in a range
abbrev pub version_at : LastWrites → List ℕ → ℕ
version_at generation key = max (version_in (finite.get generation.keys key)) (held generation.ranges key)

-- no version is above the newest
pub record IsBounded (generation : LastWrites) : Type 0 where
  pub keys : (key : List ℕ) → version_in (finite.get generation.keys key) ≤ generation.newest
  pub ranges : (key : List ℕ) → held generation.ranges key ≤ generation.newest

-- the newest version, once this one is among them
abbrev pub with_version : ℕ → LastWrites → LastWrites
with_version version generation = record generation { newest = max generation.newest version }

-- the keys from one to another are the first alone, and no version is above this one: then they are kept as a key, and else as a range
abbrev pub GoesAlone : LastWrites → ℕ → List ℕ → List ℕ → Type 0
GoesAlone generation version begin end = (end ≡ after begin) × (generation.newest ≤ version)

abbrev pub GoesAsRange : LastWrites → ℕ → List ℕ → List ℕ → Type 0
GoesAsRange generation version begin end = (end ≢ after begin) ⊎ (version < generation.newest)

-- giving a range this version takes no memory
pub record HasRoomFor (generation : LastWrites) (version : ℕ) (range : KeyRange) : Type 0 where
  pub alone : GoesAlone generation version range.begin range.end → finite.contains_key generation.keys range.begin ≡ true
  pub as_range : GoesAsRange generation version range.begin range.end
      → (is_boundary range.begin generation.ranges ≡ true) × (is_boundary range.end generation.ranges ≡ true)

-- giving these ranges this version takes no memory
abbrev pub IsReadyFor : LastWrites → ℕ → List KeyRange → Type 0
IsReadyFor generation version [] = Unit {0}
IsReadyFor generation version (range ∷ ranges) = HasRoomFor generation version range × IsReadyFor generation version ranges

-- what is known stays known, and the newest version stays
pub record Keeps (old new : LastWrites) : Type 0 where
  pub newest : new.newest ≡ old.newest
  pub keys : (key : List ℕ) → finite.contains_key old.keys key ≡ true → finite.contains_key new.keys key ≡ true
  pub boundaries : (boundary : List ℕ) → is_boundary boundary old.ranges ≡ true → is_boundary boundary new.ranges ≡ true

-- each range that has room at a version still has it
abbrev pub KeepsRoom : ℕ → LastWrites → LastWrites → Type 0
KeepsRoom version old new = (range : KeyRange) → HasRoomFor old version range → HasRoomFor new version range
