-- What each step on a cell's table tells.
use Rattle.std.specs.Prelude.{◌≡◌, ◌≢◌, ℕ, ◌+◌, Bool, true, false, List, [], ◌∷◌, Option, Some, None}
use Rattle.atomic_table.specs.Table.{Me}
use Rattle.future_cell.specs.declared.stage.Item.TheVariants.{Value, Callback}
use Rattle.future_cell.specs.declared.stage.SetterStage.{SetterStage}
use Rattle.future_cell.specs.declared.stage.SetterStage.TheVariants.{Unset, Filling, Running, Finished}
use Rattle.future_cell.specs.declared.stage.Known.{Known}
use Rattle.future_cell.specs.declared.stage.Known.TheVariants.{Unseen, Taking, Taken}
use Rattle.future_cell.specs.declared.stage.CallbackStage.{CallbackStage}
use Rattle.future_cell.specs.declared.stage.CallbackStage.TheVariants.{Unregistered, Laying, Lies, Refused, Returned}
use Rattle.future_cell.specs.declared.stage.WaiterStage.{WaiterStage}
use Rattle.future_cell.specs.declared.stage.View.{View}
use Rattle.future_cell.specs.declared.stage.View.TheVariants.{Unsplit, Sets, Waits, Meets, Over, Spent}
use Rattle.future_cell.specs.Rule.{Slot, IsKnownAs, is_parked, is_refused}

-- what a seat knows, and the slots that it holds
abbrev pub Place : Type 0 → Type 0 → Type 0
Place V C = Me (Slot V C) (View V C)

module _ {C : Type 0} where
  -- between two calls the waiter holds no slot
  abbrev pub is_settled : CallbackStage C → Bool
  is_settled Unregistered = true
  is_settled Laying = false
  is_settled (Lies c) = true
  is_settled Refused = false
  is_settled Returned = true

module _ {V : Type 0} where
  -- the value that the setter put out
  abbrev pub value_out : SetterStage V → Option V
  value_out Unset = None
  value_out Filling = None
  value_out (Running v) = Some v
  value_out (Finished v ran) = Some v

  -- what the waiter's view says of the value that the waiter keeps
  abbrev pub known_of : Option V → Known V
  known_of None = Unseen
  known_of (Some v) = Taken v

  abbrev pub is_known : Known V → Bool
  is_known Unseen = false
  is_known (Taking v) = true
  is_known (Taken v) = true

  abbrev pub taken : Known V → Known V
  taken Unseen = Unseen
  taken (Taking v) = Taken v
  taken (Taken v) = Taken v

module _ {V C : Type 0} where
  abbrev pub waiter_stage : Known V → CallbackStage C → ℕ → ℕ → WaiterStage V C
  waiter_stage known callback looks found = record { known = known; callback = callback; looks = looks; found = found }

  abbrev pub fresh : WaiterStage V C
  fresh = waiter_stage Unseen Unregistered 0 0

  -- what the waiter's view says, and of another view what a new waiter knows
  abbrev pub waiter_in : View V C → WaiterStage V C
  waiter_in Unsplit = fresh
  waiter_in (Sets p) = fresh
  waiter_in (Waits w) = w
  waiter_in (Meets p w) = w
  waiter_in Over = fresh
  waiter_in Spent = fresh

  abbrev pub setter_in : View V C → SetterStage V
  setter_in Unsplit = Unset
  setter_in (Sets p) = p
  setter_in (Waits w) = Unset
  setter_in (Meets p w) = p
  setter_in Over = Unset
  setter_in Spent = Unset

  -- of a setter that has done its part, whether it ran a callback
  abbrev pub ran_in : View V C → Option Bool
  ran_in Unsplit = None
  ran_in (Sets Unset) = None
  ran_in (Sets Filling) = None
  ran_in (Sets (Running v)) = None
  ran_in (Sets (Finished v ran)) = Some ran
  ran_in (Waits w) = None
  ran_in (Meets p w) = None
  ran_in Over = None
  ran_in Spent = None

  -- the value, or the callback, in the slot that was taken last
  abbrev pub value_in_item : Slot V C → Option V
  value_in_item None = None
  value_in_item (Some (Value v)) = Some v
  value_in_item (Some (Callback c)) = None

  abbrev pub callback_in_item : Slot V C → Option C
  callback_in_item None = None
  callback_in_item (Some (Value v)) = None
  callback_in_item (Some (Callback c)) = Some c

  abbrev pub value_in_hand : List (ℕ × Slot V C) → Option V
  value_in_hand [] = None
  value_in_hand (x ∷ xs) = value_in_item x.1

  abbrev pub callback_in_hand : List (ℕ × Slot V C) → Option C
  callback_in_hand [] = None
  callback_in_hand (x ∷ xs) = callback_in_item x.1

  -- the setter has slot 0, which is empty
  abbrev pub Reached : Place V C → Type 0
  Reached m = m ≡ (Sets Filling, (0, None) ∷ [])

  -- The value is out. Where the word was 1 the setter has slot 1, with the callback
  abbrev pub Published : V → ℕ → Place V C → Type 0
  Published v n m = (n ≡ 1 → (c : C) × (m ≡ (Sets (Running v), (1, Some (Callback c)) ∷ []))) × (n ≢ 1 → m ≡ (Sets (Finished v false), []))

  abbrev pub PublishedIn : Option V → ℕ → Place V C → Type 0
  PublishedIn None n m = Unit {0}
  PublishedIn (Some v) n m = Published v n m

  -- the setter gave slot 1 back
  abbrev pub HasFinished : SetterStage V → Place V C → Type 0
  HasFinished Unset m = Unit {0}
  HasFinished Filling m = Unit {0}
  HasFinished (Running v) m = m ≡ (Sets (Finished v true), [])
  HasFinished (Finished v ran) m = Unit {0}

  -- the waiter looked at the word, and found n
  abbrev pub looked_at : WaiterStage V C → ℕ → WaiterStage V C
  looked_at w n = record w { looks = w.looks + 1; found = n }

  -- where the word was 2 the waiter has slot 0, with the value
  abbrev pub Looked : WaiterStage V C → ℕ → Place V C → Type 0
  Looked w n m =
      (n ≡ 2 → (v : V) × (m ≡ (Waits (record (looked_at w n) { known = Taking v }), (0, Some (Value v)) ∷ [])))
      × (n ≢ 2 → (m ≡ (Waits (looked_at w n), [])) × (is_refused w.callback ≡ false))

  -- the waiter keeps the value, and gave slot 0 back
  abbrev pub kept : WaiterStage V C → WaiterStage V C
  kept w = record w { known = taken w.known }

  abbrev pub Kept : WaiterStage V C → Place V C → Type 0
  Kept w m = m ≡ (Waits (kept w), [])

  -- the waiter looked, and has slot 0, with the value
  abbrev pub Saw : WaiterStage V C → V → Place V C → Type 0
  Saw w v m = m ≡ (Waits (record (looked_at w 2) { known = Taking v }), (0, Some (Value v)) ∷ [])

  -- the waiter looked and the value was not there
  abbrev pub Missed : WaiterStage V C → Place V C → Type 0
  Missed w m = (n : ℕ) × (n ≢ 2) × (m ≡ (Waits (looked_at w n), [])) × (is_refused w.callback ≡ false)

  -- the waiter looked, and took the value
  abbrev pub Fetched : WaiterStage V C → V → Place V C → Type 0
  Fetched w v m = m ≡ (Waits (record (looked_at w 2) { known = Taken v }), [])

  -- the waiter has slot 1, which is empty
  abbrev pub Reserved : WaiterStage V C → Place V C → Type 0
  Reserved w m = m ≡ (Waits (record w { callback = Laying }), (1, None) ∷ [])

  -- where the word was 0 the callback is parked, else the waiter still has it
  abbrev pub Parked : C → WaiterStage V C → ℕ → Place V C → Type 0
  Parked c w n m =
      (n ≡ 0 → m ≡ (Waits (record (looked_at w n) { callback = Lies c }), []))
      × (n ≢ 0 → (n ≡ 2) × (m ≡ (Waits (record (looked_at w n) { callback = Refused }), (1, Some (Callback c)) ∷ [])))

  abbrev pub ParkedIn : Option C → WaiterStage V C → ℕ → Place V C → Type 0
  ParkedIn None w n m = Unit {0}
  ParkedIn (Some c) w n m = Parked c w n m

  -- the callback is parked
  abbrev pub Laid : WaiterStage V C → C → Place V C → Type 0
  Laid w c m = m ≡ (Waits (record (looked_at w 0) { callback = Lies c }), [])

  -- the value was there, and the waiter has slot 1, with the callback
  abbrev pub Held : WaiterStage V C → C → Place V C → Type 0
  Held w c m = m ≡ (Waits (record (looked_at w 2) { callback = Refused }), (1, Some (Callback c)) ∷ [])

  -- the value was there, and the waiter has the callback back
  abbrev pub HasBack : WaiterStage V C → Place V C → Type 0
  HasBack w m = m ≡ (Waits (record (looked_at w 2) { callback = Returned }), [])

  -- the waiter gave slot 1 back
  abbrev pub Restored : WaiterStage V C → Place V C → Type 0
  Restored w m = m ≡ (Waits (record w { callback = Returned }), [])

  -- the joined seat has slot 0, with the value that was set
  abbrev pub Emptied : SetterStage V → WaiterStage V C → Place V C → Type 0
  Emptied Unset w m = Unit {0}
  Emptied Filling w m = Unit {0}
  Emptied (Running v) w m = Unit {0}
  Emptied (Finished v ran) w m = m ≡ (Meets (Finished v ran) (record w { known = Taking v }), (0, Some (Value v)) ∷ [])

  -- the slots that a joined seat holds: slot 0, empty, where it has taken the value out of it
  abbrev pub emptied_hand : Known V → List (ℕ × Slot V C)
  emptied_hand Unseen = []
  emptied_hand (Taking v) = (0, None) ∷ []
  emptied_hand (Taken v) = []

  -- both slots are empty, and the halves agree
  abbrev pub Settles : SetterStage V → WaiterStage V C → Type 0
  Settles Unset w = Unit {0}
  Settles Filling w = Unit {0}
  Settles (Running v) w = Unit {0}
  Settles (Finished v ran) w = IsKnownAs v w.known × (ran ≡ is_parked w.callback)

  abbrev pub Closed : SetterStage V → WaiterStage V C → Place V C → Type 0
  Closed p w m = (m ≡ (Over, [])) × Settles p w

  -- how `pair` splits the one seat
  abbrev pub setter_part : View V C → View V C
  setter_part v = Sets Unset

  abbrev pub waiter_part : View V C → View V C
  waiter_part v = Waits fresh

  abbrev pub meeting : View V C → View V C → View V C
  meeting a b = Meets (setter_in a) (waiter_in b)

  -- a seat at a table with empty slots
  abbrev pub is_resting : View V C → Bool
  is_resting Unsplit = true
  is_resting (Sets p) = false
  is_resting (Waits w) = false
  is_resting (Meets p w) = false
  is_resting Over = true
  is_resting Spent = false
