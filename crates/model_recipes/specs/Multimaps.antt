-- A map from pairs of a key and a value to counts, in a subspace: the count of a pair stands at the packed tuple of the two, as 8
-- bytes, the lowest first. A pair that stands nowhere has the count 0.
use Rattle.std.specs.Prelude.{◌≡◌, ℕ, suc, zero, ◌+◌, ◌-◌, ◌<◌, false, ◌&&◌, ◌==◌, if◌then◌else◌, List, [], ◌∷◌, ◌++◌, length, map, nat_lt, Option, Some, None, Result, Ok, Err, OnOk, IfOk, bytes_eq}
use Rattle.std.specs.Int.{w64, to_le_bytes, from_le_bytes}
use Rattle.std.specs.Option.{option_map}
use Rattle.std.specs.List.{AllByRecursion}
use Rattle.std.specs.List.Sorted.{IsStrictlySortedBy}
use Rattle.std.specs.FinMap as finite
use Rattle.key_bytes.specs.Keys.{IsByteString, key_cmp}
use Rattle.fdb_subspace.specs.declared.fault.SubFault.{SubFault}
use Rattle.fdb_subspace.specs.Inside.{key_read}
use Rattle.fdb_tuple.specs.Tuples.{Elements, Empty, Single, Bytes}
use Rattle.fdb_tuple.specs.Spelling.{spelling}
use Rattle.model_database.specs.Databases.{Database, Set, Clear}
use Rattle.model_database.specs.Histories.{Setting}
use Rattle.model_database.specs.Reads.{Get, GetKeyRange}
use Rattle.model_database.specs.Slices.{Entries, slice}
use Rattle.model_database.specs.Transactions.{Transaction, view}
use Rattle.model_recipes.specs.declared.Count.{Count}
use Rattle.model_recipes.specs.declared.fault.RecipeFault.{RecipeFault}
use Rattle.model_recipes.specs.declared.fault.RecipeFault.TheVariants as fault
use Rattle.model_recipes.specs.declared.TheConstants.{GREATEST_COUNT}
use Rattle.model_recipes.specs.Turns.{Turn, Call, writing, replying, turned_by, acts, view_after, IsAnswered, space_begin, space_end, KeepsOthers, KeepsAll}

-- ---- counts

-- the key of a pair
abbrev pub pair_key : (space key value : List ℕ) → List ℕ
pair_key space key value = space ++ spelling (Single (Bytes key) (Single (Bytes value) Empty))

-- the count that these bytes say: 8 of them, which aren't all 0
unfoldable pub count_said : List ℕ → Option ℕ
count_said bytes =
    let number = from_le_bytes w64 bytes in
    if length bytes == 8 && nat_lt 0 number && nat_lt number (suc GREATEST_COUNT) then Some number else None

-- the count of a pair whose key has this value, or none; None is a value of another form
abbrev pub count_at : Option (List ℕ) → Option ℕ
count_at None = Some 0
count_at (Some bytes) = count_said bytes

-- the map: the count of each pair
abbrev pub count_of : (space : List ℕ) → Database → (key value : List ℕ) → Option ℕ
count_of space database key value = count_at (finite.get database (pair_key space key value))

-- the count of one pair is made so of what it was, and each other pair's is as before
pub record IsRecounted (space key value : List ℕ) (made : ℕ → ℕ) (before after : Database) : Type 0 where
  pub its : count_of space after key value ≡ option_map made (count_of space before key value)
  pub others : (other_key other : List ℕ) → IsByteString other_key → IsByteString other → ((other_key ≡ key) × (other ≡ value) → ⊥)
      → count_of space after other_key other ≡ count_of space before other_key other

-- ---- add

-- one more than a count, at this key
abbrev pub one_more : (at : List ℕ) → Option ℕ → Result ℕ RecipeFault
one_more at None = Err (fault.BadKey at)
one_more at (Some count) = if count == GREATEST_COUNT then Err fault.IndexEnd else Ok (count + 1)

abbrev pub sets_count : (at : List ℕ) → (count : ℕ) → Turn (Unit {0})
sets_count at count = writing (Set at (to_le_bytes w64 count)) tt

-- reads the count of the pair, and sets it one higher
unfoldable pub add_call : (space key value : List ℕ) → Database → Call (Unit {0})
add_call space key value database =
    let at = pair_key space key value in
    record { read = Get at; turn = turned_by (sets_count at) (one_more at (count_at (finite.get database at))) }

-- an add does so; where it is let through, the pair's count is one higher
pub record IsAdded (result : Result (Unit {0}) RecipeFault) (setting : Setting) (stands : Transaction → Type 0) (space key value : List ℕ)
    (before : Transaction) : Type 0 where
  pub answered : IsAnswered result setting stands (add_call space key value (view setting before)) before
  pub counts : OnOk result
      (IsRecounted space key value (λ count. count + 1) (view setting before)
      (view_after setting (add_call space key value (view setting before)) before))
  pub others : KeepsOthers space setting (acts (add_call space key value (view setting before))) before

-- ---- subtract

abbrev pub there : (at : List ℕ) → Option ℕ → Result ℕ RecipeFault
there at None = Err (fault.BadKey at)
there at (Some count) = Ok count

-- a count of 0 stays, one of 1 is cleared, and each other is set one lower
abbrev pub lowers : (at : List ℕ) → (count : ℕ) → Turn (Unit {0})
lowers at zero = replying tt
lowers at (suc count) = if count == 0 then writing (Clear at) tt else sets_count at count

-- reads the count of the pair, and sets it one lower
unfoldable pub subtract_call : (space key value : List ℕ) → Database → Call (Unit {0})
subtract_call space key value database =
    let at = pair_key space key value in
    record { read = Get at; turn = turned_by (lowers at) (there at (count_at (finite.get database at))) }

-- a subtract does so; where it is let through, the pair's count is one lower, where it isn't 0
pub record IsSubtracted (result : Result (Unit {0}) RecipeFault) (setting : Setting) (stands : Transaction → Type 0) (space key value : List ℕ)
    (before : Transaction) : Type 0 where
  pub answered : IsAnswered result setting stands (subtract_call space key value (view setting before)) before
  pub counts : OnOk result
      (IsRecounted space key value (λ count. count - 1) (view setting before)
      (view_after setting (subtract_call space key value (view setting before)) before))
  pub others : KeepsOthers space setting (acts (subtract_call space key value (view setting before))) before

-- ---- values

-- what the keys of a key's pairs begin with
abbrev pub key_space : (space key : List ℕ) → List ℕ
key_space space key = space ++ spelling (Single (Bytes key) Empty)

abbrev pub bytes_alone : Result Elements SubFault → Option (List ℕ)
bytes_alone (Ok (Single (Bytes bytes) Empty)) = Some bytes
bytes_alone read = None

abbrev pub with_count : (value : List ℕ) → Option ℕ → Option Count
with_count value None = None
with_count value (Some count) = Some (record { value = value; count = count })

abbrev pub counted_by : Option (List ℕ) → Option ℕ → Option Count
counted_by None count = None
counted_by (Some value) count = with_count value count

-- the value and the count of a pair under what the keys begin with: behind it stands one byte string
unfoldable pub counted : (front : List ℕ) → (pair : List ℕ × List ℕ) → Option Count
counted front pair = counted_by (bytes_alone (key_read front pair.0)) (count_said pair.1)

-- a count, or the key whose pair has another form
abbrev pub told_count : (key : List ℕ) → Option Count → Result Count RecipeFault
told_count key None = Err (fault.BadKey key)
told_count key (Some count) = Ok count

unfoldable pub count_in : (front : List ℕ) → (pair : List ℕ × List ℕ) → Result Count RecipeFault
count_in front pair = told_count pair.0 (counted front pair)

abbrev pub before_others : Result Count RecipeFault → Result (List Count) RecipeFault → Result (List Count) RecipeFault
before_others (Ok count) (Ok others) = Ok (count ∷ others)
before_others (Ok count) (Err fault) = Err fault
before_others (Err fault) others = Err fault

-- those of pairs, in their order, or the first key that has another form, or whose value has
unfoldable pub counts_in : (front : List ℕ) → Entries → Result (List Count) RecipeFault
counts_in front [] = Ok []
counts_in front (pair ∷ pairs) = before_others (count_in front pair) (counts_in front pairs)

-- reads the pairs of a key
unfoldable pub values_call : (space key : List ℕ) → Database → Call (List Count)
values_call space key database =
    let front = key_space space key in
    record {
      read = GetKeyRange (space_begin front) (space_end front) 0 false;
      turn = turned_by (λ counts. replying counts) (counts_in front (slice database (space_begin front) (space_end front) 0 false));
    }

-- the count of a value in a list of values with their counts, 0 where it isn't there
abbrev pub listed : List Count → (value : List ℕ) → ℕ
listed [] value = 0
listed (count ∷ counts) value = if bytes_eq value count.value then count.count else listed counts value

-- these are the values of a key in the map with their counts, each once, in order
pub record AreCountsOf (counts : List Count) (space key : List ℕ) (database : Database) : Type 0 where
  pub each : (value : List ℕ) → count_of space database key value ≡ Some (listed counts value)
  pub there : AllByRecursion (λ (count : Count). 0 < count.count) counts
  pub order : IsStrictlySortedBy key_cmp (map (λ (count : Count). count.value) counts)

-- it answers so; where it answers values, they are those of the key in the map; and every key is seen as before
pub record AreValues (result : Result (List Count) RecipeFault) (setting : Setting) (stands : Transaction → Type 0) (space key : List ℕ)
    (before : Transaction) : Type 0 where
  pub answered : IsAnswered result setting stands (values_call space key (view setting before)) before
  pub counts : IfOk result (λ counts. AreCountsOf counts space key (view setting before))
  pub same : KeepsAll setting (acts (values_call space key (view setting before))) before
