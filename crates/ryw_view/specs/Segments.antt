-- Keys that pending mutations treat alike, on the way of a walk.
use Rattle.std.specs.Prelude.{◌≡◌, ℕ, Bool, true, false, not, ◌&&◌, List, Option, Some}
use Rattle.std.specs.List.{filter}
use Rattle.key_bytes.specs.Keys.{key_le, key_lt}
use Rattle.key_map.specs.Ends.{first}
use Rattle.model_database.specs.Databases.{Mutation}
use Rattle.model_database.specs.States.{covers, is_unmodified, state_under, unreadable}
use Rattle.range_read.specs.Walks.{is_onward}
use Rattle.write_map.specs.declared.state.KeyState.{KeyState as Shown}
use Rattle.write_map.specs.declared.state.KeyState.TheVariants as shown
use Rattle.write_map.specs.Pending.{Pending, AreAlike, is_single_state}
use Rattle.ryw_view.specs.Walks.{is_inside}

-- the keys that a walk meets from one on, up to a boundary, are alike to one of them; where its state is of one key alone, it is
-- the only one
pub record IsSegment (mutations : List Mutation) (key from : List ℕ) (backward : Bool) (boundary : Option (List ℕ)) : Type 0 where
  pub onward : is_onward from backward key ≡ true
  pub inside : is_inside boundary backward key ≡ true
  pub alike : (q : List ℕ) → is_onward from backward q ≡ true → is_inside boundary backward q ≡ true → AreAlike mutations key q
  pub single : is_single_state (state_under mutations key) ≡ true → (q : List ℕ) → is_onward from backward q ≡ true
      → is_inside boundary backward q ≡ true → q ≡ key

-- the keys from one on, up to another, are alike to the first of them
abbrev pub AreAlikeUpTo : List Mutation → (from until : List ℕ) → Type 0
AreAlikeUpTo mutations from until =
    (q : List ℕ) → key_le from q ≡ true → key_lt q until ≡ true → AreAlike mutations from q

-- the first boundary above a key lies below the end of a range
pub record IsBoundaryBelow (pending : Pending) (from end boundary : List ℕ) : Type 0 where
  pub is : first (filter (key_lt from) pending.boundaries) ≡ Some boundary
  pub below : key_lt boundary end ≡ true
  pub alike : AreAlikeUpTo pending.mutations from boundary

-- no mutation touches a key
abbrev pub is_bare : List Mutation → List ℕ → Bool
is_bare mutations key = is_unmodified (state_under mutations key) && not (covers (unreadable mutations) key)

-- none touches the keys that a walk meets from one on, up to a boundary
abbrev pub AreBare : List Mutation → (from : List ℕ) → (backward : Bool) → (boundary : Option (List ℕ)) → Type 0
AreBare mutations from backward boundary =
    (q : List ℕ) → is_onward from backward q ≡ true → is_inside boundary backward q ≡ true → is_bare mutations q ≡ true

-- a key with this answer is unreadable
abbrev pub is_hidden : Shown → Bool
is_hidden shown.Unmodified = false
is_hidden (shown.Decided value) = false
is_hidden (shown.Depends edits) = false
is_hidden shown.Unreadable = true

-- the value of a key with this answer depends on what is stored
abbrev pub is_open : Shown → Bool
is_open shown.Unmodified = true
is_open (shown.Decided value) = false
is_open (shown.Depends edits) = true
is_open shown.Unreadable = false
