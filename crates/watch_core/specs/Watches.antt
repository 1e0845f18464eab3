-- How watches and their endings lie, and what contracts see of them.
use Rattle.std.specs.Prelude.{◌≡◌, ℕ, ◌+◌, ◌<◌, ◌≤◌, true, if◌then◌else◌, List, [], ◌∷◌, length, map, Option, Some, None, IsSome, bytes_eq, slice_index_or, vec_len, vec_capacity, ◌⊎◌}
use Rattle.std.specs.FinMap as finite
use Rattle.std.specs.Global.{Vec}
use Rattle.std.specs.List.{All, Contains}
use Rattle.std.specs.Option.{option_map, option_map_or, MatchOption}
use Rattle.atomic_table.specs.Seated.{TableId}
use Rattle.future_cell.specs.declared.setter.Setter.{Setter}
use Rattle.future_cell.specs.Cells.{setter_cell, receipt_cell, value_set}
use Rattle.key_bytes.specs.Keys.{key_cmp}
use Rattle.model_database.specs.Databases.{Database}
use Rattle.watch_core.specs.declared.ending.WatchEnd.{WatchEnd}
use Rattle.watch_core.specs.declared.ending.Ending.{Ending}
use Rattle.watch_core.specs.declared.ending.WatchEnds.{WatchEnds}
use Rattle.watch_core.specs.declared.watch.Settlement.{Settlement}
use Rattle.watch_core.specs.declared.watch.Watch.{Watch}
use Rattle.watch_core.specs.Watching.{Ended, Watched, is_pending, pending_count, after_commit}

-- a cell that no watch has
abbrev pub nowhere : TableId
nowhere = record { words = 0; slots = 0; views_name = 0; atom = 0; block = 0; offset = 0; slot_names = [] }

-- of each ending the number, the cell, and the end that was set in it
abbrev pub Told : Type 0
Told = ℕ × TableId × Option WatchEnd

-- the same of watches, whose numbers rise from this one
abbrev pub told_from : ℕ → List Watched → List Told
told_from number [] = []
told_from number (watch ∷ watches) = (number, watch.cell, option_map (λ (ended : Ended). ended.end) watch.ended) ∷ told_from (number + 1) watches

-- the numbers of watches by their keys
abbrev pub Index : Type 0
Index = finite.FinMap key_cmp (Vec ℕ)

-- the numbers that an index has under a key
abbrev pub numbers_in : Index → List ℕ → List ℕ
numbers_in index key = option_map_or (λ (numbers : Vec ℕ). numbers.items) (finite.get index key) []

-- the numbers under each key, where one key was given others
abbrev pub given : (List ℕ → List ℕ) → List ℕ → List ℕ → List ℕ → List ℕ
given numbers key others at = if bytes_eq at key then others else numbers at

-- there is room for one more number under a key
abbrev pub HasRoomAt : Index → List ℕ → Type 0
HasRoomAt index key = MatchOption (finite.get index key) ⊥ (λ (numbers : Vec ℕ). vec_len numbers < vec_capacity numbers)

module _ {C : Type 0} where
  -- the endings, in their order
  abbrev pub endings_of : WatchEnds C → List (Ending C)
  endings_of ends = ends.endings.items

  abbrev pub told_by : Ending C → Told
  told_by ending = (ending.number, receipt_cell ending.receipt, value_set ending.receipt)

  abbrev pub ended_of : Settlement C → Ended
  ended_of settlement = record { end = settlement.end; seen = settlement.seen }

  abbrev pub cell_in : Option (Setter WatchEnd C) → Option (Settlement C) → TableId
  cell_in (Some setter) settlement = setter_cell setter
  cell_in None (Some settlement) = receipt_cell settlement.receipt
  cell_in None None = nowhere

  -- a watch as contracts see it
  abbrev pub watched_of : Watch C → Watched
  watched_of watch = record {
    key = watch.key;
    made = watch.made;
    value = watch.value;
    cell = cell_in watch.setter watch.settlement;
    ended = option_map ended_of watch.settlement;
  }

  -- a watch has its setter until it has ended
  abbrev pub IsWhole : Watch C → Type 0
  IsWhole watch = MatchOption watch.setter (IsSome watch.settlement) (λ _. watch.settlement ≡ None)

  -- the watches of these numbers have looked at a version, and any other has, or is as it was
  pub record HaveLookedAt (last : ℕ) (database : Database) (numbers : List ℕ) (olds news : List (Watch C)) : Type 0 where
    pub long : length news ≡ length olds
    pub each : (number : ℕ) (other : Watch C) → number < length olds
        → (watched_of (slice_index_or news number other) ≡ after_commit last database (watched_of (slice_index_or olds number other)))
        ⊎ ((watched_of (slice_index_or news number other) ≡ watched_of (slice_index_or olds number other)) × (Contains numbers number → ⊥))

  -- Each watch is whole, so many are pending, and the numbers of these stand under their keys.
  pub record AreListed (watches : List (Watch C)) (numbers : List ℕ → List ℕ) (pending : ℕ) : Type 0 where
    pub whole : All IsWhole watches
    pub counted : pending ≡ pending_count (map watched_of watches)
    pub within : (key : List ℕ) → All (λ number. number < length watches) (numbers key)
    pub listed : (number : ℕ) (other : Watch C) → number < length watches → is_pending (watched_of (slice_index_or watches number other)) ≡ true
        → Contains (numbers (slice_index_or watches number other).key) number

  -- The watches are listed, and there is room for the ending of each.
  pub record AreKept (watches : List (Watch C)) (numbers : List ℕ → List ℕ) (pending room : ℕ) (endings : List (Ending C)) : Type 0 where
    pub are_listed : AreListed watches numbers pending
    pub roomy : length watches ≤ room
    pub none : endings ≡ []
