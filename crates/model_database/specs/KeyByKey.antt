-- What mutations make of the value of one key.
use Rattle.std.specs.Prelude.{ℕ, Bool, true, not, ◌&&◌, if◌then◌else◌, List, [], ◌∷◌, Option, Some, None}
use Rattle.std.specs.List.{list_any}
use Rattle.model_database.specs.Atomics.{atom, is_versionstamped}
use Rattle.model_database.specs.Databases.{Mutation, Set, Clear, ClearRange, Atomic}
use Rattle.model_database.specs.States.{touches}

-- what it makes of the value of a key that it touches
abbrev pub made_of : Mutation → Option (List ℕ) → Option (List ℕ)
made_of (Set key value) old = Some value
made_of (Clear key) old = None
made_of (ClearRange begin end) old = None
made_of (Atomic op key operand) old = atom op old operand

abbrev pub at_key : Mutation → List ℕ → Option (List ℕ) → Option (List ℕ)
at_key mutation asked old = if touches mutation asked then made_of mutation old else old

-- what mutations make of the value of a key, in their order
abbrev pub at_keys : List Mutation → List ℕ → Option (List ℕ) → Option (List ℕ)
at_keys [] asked old = old
at_keys (mutation ∷ mutations) asked old = at_keys mutations asked (at_key mutation asked old)

-- it has no versionstamp, which would leave the key as it is
abbrev pub is_plain : Mutation → Bool
is_plain (Set key value) = true
is_plain (Clear key) = true
is_plain (ClearRange begin end) = true
is_plain (Atomic op key operand) = not (is_versionstamped op)

-- it changes the state of the key
abbrev pub modifies : List ℕ → Mutation → Bool
modifies asked mutation = touches mutation asked && is_plain mutation

-- some mutation changes the state of the key
abbrev pub is_modified_by : List Mutation → List ℕ → Bool
is_modified_by mutations asked = list_any (modifies asked) mutations
