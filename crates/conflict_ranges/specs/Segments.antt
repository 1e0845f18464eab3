-- Sets of keys: the ranges that lie between their boundaries.
use Rattle.std.specs.Prelude.{◌≡◌, ◌≤◌, ℕ, length, true, false, if◌then◌else◌, List, [], ◌∷◌}
use Rattle.std.specs.List.{filter}
use Rattle.std.specs.List.Sorted.{IsStrictlySortedBy}
use Rattle.std.specs.Borrow.{Bor}
use Rattle.key_bytes.specs.declared.range.KeyRange.{KeyRange}
use Rattle.key_bytes.specs.Keys.{key_cmp, key_lt, key_le}
use Rattle.model_database.specs.States.{range_from}
use Rattle.range_map.specs.Boundaries.{Boundaries, held, boundaries_of, is_boundary}
use Rattle.conflict_ranges.specs.declared.membership.Membership.{Membership}

-- a range, of its two ends
abbrev pub range_between : Bor (List ℕ) × Bor (List ℕ) → KeyRange
range_between ends = range_from ends.0.now ends.1.now

-- from a begin on, whose keys are in the set or not, what lies between one boundary and the next and is in the set
abbrev pub ranges_from : List ℕ → Membership → List (List ℕ × Membership) → List KeyRange
ranges_from begin membership [] = []
ranges_from begin membership (e ∷ es) =
    if membership.0 then range_from begin e.0 ∷ ranges_from e.0 e.1 es else ranges_from e.0 e.1 es

-- the ranges from a key on
abbrev pub left_from : Boundaries Membership → List ℕ → List KeyRange
left_from members begin = ranges_from begin (held members begin) (filter (λ e. key_lt begin e.0) members.entries)

-- the ranges of a set, from the lowest key on
abbrev pub ranges_of : Boundaries Membership → List KeyRange
ranges_of members = left_from members []

-- the boundaries rise, and a key that no boundary is above is not in the set
pub record IsSound (members : Boundaries Membership) : Type 0 where
  pub rising : IsStrictlySortedBy key_cmp (boundaries_of members)
  pub above : (key : List ℕ) → ((boundary : List ℕ) → is_boundary boundary members ≡ true → key_lt key boundary ≡ false) → (held members key).0 ≡ false

-- the parts of a set: the lowest key, how many boundaries there are at most, and the boundaries
pub record IsWhole (lowest : List ℕ) (most : ℕ) (members : Boundaries Membership) : Type 0 where
  pub is_lowest : lowest ≡ []
  pub few : length members.entries ≤ most
  pub sound : IsSound members

-- each range begins at a key or above it
abbrev pub AreFrom : List ℕ → List KeyRange → Type 0
AreFrom key [] = Unit {0}
AreFrom key (range ∷ ranges) = (key_le key range.begin ≡ true) × AreFrom key ranges

-- no range is empty, and each lies below all that follow it
abbrev pub AreApart : List KeyRange → Type 0
AreApart [] = Unit {0}
AreApart (range ∷ ranges) = (key_lt range.begin range.end ≡ true) × AreFrom range.end ranges × AreApart ranges
