-- Changes of a database: for each key what it has from then on, or nothing where the key is removed.
use Rattle.std.specs.Prelude.{ℕ, Bool, true, List, [], ◌∷◌, Option, map}
use Rattle.std.specs.Option.{option_map_or}
use Rattle.std.specs.List.Sorted.{IsStrictlySortedBy}
use Rattle.std.specs.Map.{keys_of}
use Rattle.std.specs.FinMap as finite
use Rattle.key_bytes.specs.Keys.{key_cmp, key_lt}
use Rattle.key_map.specs.Ends.{last}
use Rattle.model_database.specs.Databases.{Database}
use Rattle.version_store.specs.declared.changes.Change.{Change}

-- a change as contracts see it: the key, and its value from then on
abbrev pub change_of : Change → List ℕ × Option (List ℕ)
change_of change = (change.key, change.value)

abbrev pub changes_of : List Change → List (List ℕ × Option (List ℕ))
changes_of changes = map change_of changes

-- the keys are distinct and rise
abbrev pub IsRising : List (List ℕ × Option (List ℕ)) → Type 0
IsRising changes = IsStrictlySortedBy key_cmp (keys_of changes)

-- the key is greater than those of all changes, whose keys rise
abbrev pub is_above : List (List ℕ × Option (List ℕ)) → List ℕ → Bool
is_above changes key = option_map_or (λ change. key_lt change.0 key) (last changes) true

-- the database after one change
abbrev pub changed_by : List ℕ × Option (List ℕ) → Database → Database
changed_by change database = option_map_or (finite.insert database change.0) change.1 (finite.remove database change.0)

-- the database after changes, in their order
abbrev pub changed : List (List ℕ × Option (List ℕ)) → Database → Database
changed [] database = database
changed (change ∷ changes) database = changed changes (changed_by change database)
