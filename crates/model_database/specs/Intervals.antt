-- The read conflict range of a read, without those that the writes of its own transaction decide (API reference, "Transaction":
-- conflict ranges).
use Rattle.std.specs.Prelude.{ℕ, zero, suc, ℤ, pos, negsuc, Bool, true, false, if◌then◌else◌, List, [], ◌∷◌, length, flat_map, nat_le, bytes_eq}
use Rattle.std.specs.List.{list_any}
use Rattle.key_bytes.specs.declared.range.KeyRange.{KeyRange}
use Rattle.key_bytes.specs.Keys.{after, lesser, greater, top}
use Rattle.key_bytes.specs.Ranges.{meets}
use Rattle.model_database.specs.declared.selector.Selector.{Selector}
use Rattle.model_database.specs.Databases.{Database, Mutation, Set, Clear, ClearRange, Atomic}
use Rattle.model_database.specs.Selecting.{select}
use Rattle.model_database.specs.Slices.{Entries, slice}
use Rattle.model_database.specs.Reads.{Read, Get, GetKey, GetKeyRange, GetRange}
use Rattle.model_database.specs.States.{range_from, seen}

-- ---- sets of keys, as lists of ranges

-- the range of one key
abbrev pub one : List ℕ → KeyRange
one key = range_from key (after key)

-- a range without another: what lies below it, and what lies from its end on
abbrev pub minus : (range taken : KeyRange) → List KeyRange
minus range taken = range_from range.begin (lesser range.end taken.begin) ∷ range_from (greater range.begin taken.end) range.end ∷ []

-- ranges without others
abbrev pub without : (taken ranges : List KeyRange) → List KeyRange
without [] ranges = ranges
without (first ∷ others) ranges = without others (flat_map (λ range. minus range first) ranges)

-- some key is in one of the ranges and in one of the others
abbrev pub any_meet : List KeyRange → List KeyRange → Bool
any_meet ranges others = list_any (λ range. list_any (meets range) others) ranges

-- ---- decided keys

-- the keys that have a value, or none, by this mutation alone; an atomic operation decides none
abbrev pub decided_by : Mutation → List KeyRange
decided_by (Set key value) = one key ∷ []
decided_by (Clear key) = one key ∷ []
decided_by (ClearRange begin end) = range_from begin end ∷ []
decided_by (Atomic op key operand) = []

abbrev pub decided : List Mutation → List KeyRange
decided mutations = flat_map decided_by mutations

-- ---- intervals

abbrev pub counts_up : ℤ → Bool
counts_up (pos zero) = false
counts_up (pos (suc n)) = true
counts_up (negsuc n) = false

-- the least key that doesn't stand before a selector's place
abbrev pub start_of : Selector → List ℕ
start_of selector = if selector.or_equal then after selector.key else selector.key

-- where the interval of a read ends that found this key: behind it, but at FF where it is FF
abbrev pub end_at : List ℕ → List ℕ
end_at found = if bytes_eq found top then top else after found

-- from the selector's place up to the key that was found, or down to it
abbrev pub selector_interval : Selector → (found : List ℕ) → KeyRange
selector_interval selector found =
    if counts_up selector.offset then range_from (start_of selector) (end_at found) else range_from found (lesser (start_of selector) top)

-- so many pairs reach the limit, where there is one
abbrev pub is_reached : (limit count : ℕ) → Bool
is_reached zero count = false
is_reached (suc n) count = nat_le (suc n) count

-- the key of the last of some pairs, or this one where there is none
abbrev pub last_key : List ℕ → Entries → List ℕ
last_key key [] = key
last_key key (pair ∷ pairs) = last_key pair.0 pairs

-- the whole range, or as far as pairs that reach the limit
abbrev pub slice_interval : (begin end : List ℕ) → (limit : ℕ) → (backward : Bool) → Entries → KeyRange
slice_interval begin end limit backward pairs =
    if is_reached limit (length pairs)
    then (if backward then range_from (last_key end pairs) end else range_from begin (after (last_key begin pairs)))
    else range_from begin end

-- the read conflict range of a read that is answered on this database
abbrev pub interval : Read → Database → List KeyRange
interval (Get key) database = one key ∷ []
interval (GetKey selector) database = selector_interval selector (select database selector) ∷ []
interval (GetKeyRange begin end limit backward) database =
    slice_interval begin end limit backward (slice database begin end limit backward) ∷ []
interval (GetRange begin end limit backward) database =
    selector_interval begin (select database begin)
    ∷ selector_interval end (select database end)
    ∷ slice_interval (select database begin) (select database end) limit backward
    (slice database (select database begin) (select database end) limit backward)
    ∷ []

-- the keys that an ordinary read adds to the read conflict ranges of its transaction: of a database, after these mutations
unfoldable pub added : Read → Database → List Mutation → List KeyRange
added read database mutations = without (decided mutations) (interval read (seen mutations database))
