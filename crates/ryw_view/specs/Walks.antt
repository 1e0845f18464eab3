-- What a walk along the keys of a database meets first, up or down.
use Rattle.std.specs.Prelude.{◌≡◌, ℕ, Bool, true, false, if◌then◌else◌, List, Option, Some, None}
use Rattle.std.specs.FinMap as finite
use Rattle.std.specs.List.{filter}
use Rattle.key_bytes.specs.Keys.{after, key_le, key_lt, within}
use Rattle.model_database.specs.Databases.{Database}
use Rattle.model_database.specs.Slices.{Entries}
use Rattle.range_read.specs.Walks.{is_onward}

-- a walk meets the one key before the other
abbrev pub meets_first : Bool → List ℕ → List ℕ → Bool
meets_first true key other = key_lt other key
meets_first false key other = key_lt key other

-- a walk through a segment is still in it at this key: going up it ends below its boundary, going down it ends with its boundary;
-- without a boundary it does not end
abbrev pub is_inside : Option (List ℕ) → Bool → List ℕ → Bool
is_inside None backward key = true
is_inside (Some boundary) true key = key_le boundary key
is_inside (Some boundary) false key = key_lt key boundary

-- the first pair that a walk from a key meets
pub record MeetsFirst (database : Database) (from : List ℕ) (backward : Bool) (pair : List ℕ × List ℕ) : Type 0 where
  pub onward : is_onward from backward pair.0 ≡ true
  pub there : finite.get database pair.0 ≡ Some pair.1
  pub gap : (q : List ℕ) → is_onward from backward q ≡ true → meets_first backward q pair.0 ≡ true → finite.get database q ≡ None

-- the first pair that a walk from a key meets in a segment; None where it meets none there
abbrev pub IsFirstMet : Database → (from : List ℕ) → (backward : Bool) → (boundary : Option (List ℕ)) → Option (List ℕ × List ℕ) → Type 0
IsFirstMet database from backward boundary None =
    (q : List ℕ) → is_onward from backward q ≡ true → is_inside boundary backward q ≡ true → finite.get database q ≡ None
IsFirstMet database from backward boundary (Some pair) = MeetsFirst database from backward pair × (is_inside boundary backward pair.0 ≡ true)

-- the pairs of a database from a key on, up to the boundary of a segment
abbrev pub stored_between : Database → (from : List ℕ) → (boundary : Option (List ℕ)) → Entries
stored_between database from None = filter (λ e. key_le from e.0) (finite.entries database)
stored_between database from (Some boundary) = filter (λ e. within from boundary e.0) (finite.entries database)

-- a pair, where its key is in the segment
abbrev pub inside_of : Option (List ℕ) → Bool → Option (List ℕ × List ℕ) → Option (List ℕ × List ℕ)
inside_of boundary backward None = None
inside_of boundary backward (Some pair) = if is_inside boundary backward pair.0 then Some pair else None

-- where a walk up goes on that began at a key and met this one last, or none
abbrev pub from_of : List ℕ → Option (List ℕ) → List ℕ
from_of begin None = begin
from_of begin (Some key) = after key
