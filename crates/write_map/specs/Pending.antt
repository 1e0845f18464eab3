-- The pending mutations of a transaction, and which keys they leave alike.
use Rattle.std.specs.Prelude.{◌≡◌, ℕ, Bool, true, false, List, Some, None}
use Rattle.model_database.specs.Atomics.{is_versionstamped}
use Rattle.model_database.specs.Databases.{Mutation, Set, Clear, ClearRange, Atomic}
use Rattle.model_database.specs.States.{KeyState, Unmodified, Decided, Depends, covers, state_under, unreadable}
pub use Rattle.range_map.specs.Boundaries.{IsBelowBoundary}

pub record Pending : Type 0 where
  -- the mutations, in their order
  pub mutations : List Mutation
  -- the boundaries, in the order of keys: all keys between two that follow each other are alike
  pub boundaries : List (List ℕ)

-- two keys have one state under mutations, and both are readable or neither is
pub record AreAlike (mutations : List Mutation) (a b : List ℕ) : Type 0 where
  pub states : state_under mutations a ≡ state_under mutations b
  pub readable : covers (unreadable mutations) a ≡ covers (unreadable mutations) b

-- a key has no mutation: it has what it had before, and is readable
pub record IsBare (mutations : List Mutation) (key : List ℕ) : Type 0 where
  pub unmodified : state_under mutations key ≡ Unmodified
  pub readable : covers (unreadable mutations) key ≡ false

-- a value, and a list of atomic operations, are of one key alone
abbrev pub is_single_state : KeyState → Bool
is_single_state Unmodified = false
is_single_state (Decided None) = false
is_single_state (Decided (Some value)) = true
is_single_state (Depends mutations) = true

-- a mutation without a versionstamp of one key alone
abbrev pub IsOn : List ℕ → Mutation → Type 0
IsOn key (Set own value) = own ≡ key
IsOn key (Clear own) = own ≡ key
IsOn key (ClearRange begin end) = ⊥
IsOn key (Atomic op own operand) = (own ≡ key) × (is_versionstamped op ≡ false)

-- a key has what atomic operations make of what it had
abbrev pub IsDepends : KeyState → Type 0
IsDepends Unmodified = ⊥
IsDepends (Decided value) = ⊥
IsDepends (Depends mutations) = Unit {0}
