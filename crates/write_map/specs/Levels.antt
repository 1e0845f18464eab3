-- What a boundary has: the state of the keys from it up to the next boundary, and whether they are unreadable.
use Rattle.std.specs.Prelude.{◌≡◌, ℕ, Bool, true, false, List, Option, Some, None}
use Rattle.std.specs.Option.{option_map}
use Rattle.std.specs.List.{All, list_any}
use Rattle.std.specs.BTreeMap.{is_at}
use Rattle.key_bytes.specs.Keys.{key_cmp, after}
use Rattle.range_map.specs.Boundaries.{Boundaries, held, is_boundary, changed}
use Rattle.model_database.specs.declared.AtomicOp.{AtomicOp}
use Rattle.model_database.specs.Databases.{Mutation}
use Rattle.model_database.specs.States.{KeyState, Unmodified, Decided, Depends, after_atomic, covers, state_under, unreadable}
use Rattle.write_map.specs.Pending.{is_single_state}
use Rattle.write_map.specs.Stamps.{is_stamped, HasRoom}
use Rattle.write_map.specs.declared.level.Level.{Level}
use Rattle.write_map.specs.declared.state.KeyState.{KeyState as Shown}
use Rattle.write_map.specs.declared.state.KeyState.TheVariants as shown
use Rattle.write_map.specs.declared.level.State.{State}
use Rattle.write_map.specs.declared.level.State.TheVariants as kept

abbrev pub state_of : State → KeyState
state_of kept.Unmodified = Unmodified
state_of (kept.Decided value) = Decided value
state_of (kept.Depends edits) = Depends edits

-- what keys have that no mutation touches
abbrev pub bare : Level
bare = record { state = kept.Unmodified; is_unreadable = false }

-- what a new boundary gets of a state: what may be had by more keys than one
abbrev pub spread_state : State → State
spread_state kept.Unmodified = kept.Unmodified
spread_state (kept.Decided value) = kept.Decided None
spread_state (kept.Depends edits) = kept.Decided None

abbrev pub spread : Level → Level
spread level = record level { state = spread_state level.state }

-- a boundary has a state in place of its own
abbrev pub with_state : State → Level → Level
with_state state level = record level { state = state }

-- the keys have no value
abbrev pub cleared : Level → Level
cleared level = record level { state = kept.Decided None }

-- the keys are unreadable
abbrev pub hidden : Level → Level
hidden level = record level { is_unreadable = true }

-- a list of atomic operations
abbrev pub is_list : State → Bool
is_list kept.Unmodified = false
is_list (kept.Decided value) = false
is_list (kept.Depends edits) = true

-- what an atomic operation makes of a state; a list of operations makes none, since it is kept and grows
abbrev pub IsMade : AtomicOp → List ℕ → State → Option State → Type 0
IsMade op operand state None = is_list state ≡ true
IsMade op operand state (Some made) = state_of made ≡ after_atomic op operand (state_of state)

-- the state at one boundary became what an atomic operation makes of it
pub record IsEdited (key : List ℕ) (op : AtomicOp) (operand : List ℕ) (old new : Boundaries Level) : Type 0 where
  pub state : State
  pub made : state_of state ≡ after_atomic op operand (state_of (held old key).state)
  pub levels : new ≡ changed (is_at (key_cmp key)) (λ _. with_state state (held old key)) old

-- what callers see of a level
abbrev pub IsShown : Level → Shown → Type 0
IsShown level shown.Unmodified = (level.is_unreadable ≡ false) × (state_of level.state ≡ Unmodified)
IsShown level (shown.Decided value) =
    (level.is_unreadable ≡ false) × (state_of level.state ≡ Decided (option_map (λ bytes. bytes.now) value))
IsShown level (shown.Depends edits) = (level.is_unreadable ≡ false) × (state_of level.state ≡ Depends edits.now)
IsShown level shown.Unreadable = level.is_unreadable ≡ true

-- a level is that of a key under mutations
pub record IsLevel (mutations : List Mutation) (key : List ℕ) (level : Level) : Type 0 where
  pub state : state_under mutations key ≡ state_of level.state
  pub readable : covers (unreadable mutations) key ≡ level.is_unreadable

-- a state of one key alone ends at the next key
abbrev pub AreSingle : Boundaries Level → Type 0
AreSingle levels = (key : List ℕ) → is_single_state (state_of (held levels key).state) ≡ true
    → (is_boundary key levels ≡ true) × (is_boundary (after key) levels ≡ true)

-- each key has its level, and a state of one key alone ends at the next key
pub record AreLevels (mutations : List Mutation) (levels : Boundaries Level) : Type 0 where
  pub base : levels.base ≡ bare
  pub agree : (key : List ℕ) → IsLevel mutations key (held levels key)
  pub single : AreSingle levels

-- what a map keeps beside its mutations is what they say: the level of each key, and whether one of them has a versionstamp; each
-- of these has room for it
pub record IsKept (mutations : List Mutation) (boundaries : Boundaries Level) (flag : Bool) : Type 0 where
  pub levels : AreLevels mutations boundaries
  pub flagged : flag ≡ list_any is_stamped mutations
  pub room : All HasRoom mutations
