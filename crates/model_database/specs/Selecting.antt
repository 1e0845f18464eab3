-- Which key a selector means.
use Rattle.std.specs.Prelude.{ℕ, ℤ, pos, negsuc, ◌+ℤ◌, ◌-ℤ◌, Bool, if◌then◌else◌, List, [], slice_index_or, count_by}
use Rattle.std.specs.FinMap as finite
use Rattle.std.specs.Map.{keys_of}
use Rattle.key_bytes.specs.Keys.{key_le, key_lt, top}
use Rattle.model_database.specs.Databases.{Database}
use Rattle.model_database.specs.declared.selector.Selector.{Selector}

-- the keys of a database, in their order
abbrev pub sorted_keys : Database → List (List ℕ)
sorted_keys database = keys_of (finite.entries database)

-- the key at a place: the empty key before the first place, FF behind the last
abbrev pub key_at : ℤ → List (List ℕ) → List ℕ
key_at (pos i) keys = slice_index_or keys i top
key_at (negsuc i) keys = []

-- the keys that stand before a selector's place: those below its key, and its key itself where or_equal holds
abbrev pub stands_before : Selector → List ℕ → Bool
stands_before selector key = if selector.or_equal then key_le key selector.key else key_lt key selector.key

-- the key at place c - 1 + offset, where c keys stand before
abbrev pub select : Database → Selector → List ℕ
select database selector =
    key_at (pos (count_by (stands_before selector) (sorted_keys database)) -ℤ pos 1 +ℤ selector.offset) (sorted_keys database)
