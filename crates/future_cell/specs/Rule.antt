-- The rule of a cell's table: its word, its two slots and the views of its seats, computed from how far the two halves are.
use Rattle.std.specs.Prelude.{◌≡◌, ℕ, Bool, true, false, List, [], ◌∷◌, replicate, Option, Some, None}
use mathlib.Core.Option.{some, none}
use mathlib.Core.Option as maybe
use Rattle.atomic_table.specs.Table.{State}
use Rattle.atomic_table.specs.Seated.{TableId}
use Rattle.future_cell.specs.declared.stage.Item.{Item}
use Rattle.future_cell.specs.declared.stage.Item.TheVariants.{Value, Callback}
use Rattle.future_cell.specs.declared.stage.SetterStage.{SetterStage}
use Rattle.future_cell.specs.declared.stage.SetterStage.TheVariants.{Unset, Filling, Running, Finished}
use Rattle.future_cell.specs.declared.stage.Known.{Known}
use Rattle.future_cell.specs.declared.stage.Known.TheVariants.{Unseen, Taking, Taken}
use Rattle.future_cell.specs.declared.stage.CallbackStage.{CallbackStage}
use Rattle.future_cell.specs.declared.stage.CallbackStage.TheVariants.{Unregistered, Laying, Lies, Refused, Returned}
use Rattle.future_cell.specs.declared.stage.WaiterStage.{WaiterStage}
use Rattle.future_cell.specs.declared.stage.View.{View}
use Rattle.future_cell.specs.declared.stage.View.TheVariants.{Unsplit, Sets, Waits, Meets, Over, Spent}

-- a table of one word and two slots
abbrev pub IsSized : TableId → Type 0
IsSized z = (z.words ≡ 1) × (z.slots ≡ 2)

abbrev pub Slot : Type 0 → Type 0 → Type 0
Slot V C = Option (Item V C)

-- a slot that is at home, with what it holds, or one that is out with a seat
abbrev pub Home : Type 0 → Type 0 → Type 0
Home V C = maybe.Option (Slot V C)

-- Which seats there are: one, the two halves, the two halves joined in one, or only seats at a table with empty slots
pub data Phase (V C : Type 0) : Type 0 where
  unsplit : Phase V C
  shared : SetterStage V → WaiterStage V C → Phase V C
  joined : SetterStage V → WaiterStage V C → Phase V C
  over : ℕ → Phase V C

module _ {C : Type 0} where
  -- whether the callback was parked
  abbrev pub is_parked : CallbackStage C → Bool
  is_parked Unregistered = false
  is_parked Laying = false
  is_parked (Lies c) = true
  is_parked Refused = false
  is_parked Returned = false

  -- whether the value was there when the callback came
  abbrev pub is_refused : CallbackStage C → Bool
  is_refused Unregistered = false
  is_refused Laying = false
  is_refused (Lies c) = false
  is_refused Refused = true
  is_refused Returned = true

  -- the word before the value is there: 0 empty, 1 parked
  abbrev pub word_before : CallbackStage C → ℕ
  word_before Unregistered = 0
  word_before Laying = 0
  word_before (Lies c) = 1
  word_before Refused = 0
  word_before Returned = 0

module _ {V : Type 0} where
  -- the waiter has no other value than v
  abbrev pub IsKnownAs : V → Known V → Type 0
  IsKnownAs v Unseen = Unit {0}
  IsKnownAs v (Taking w) = w ≡ v
  IsKnownAs v (Taken w) = w ≡ v

  abbrev pub ValuesAgree : SetterStage V → Known V → Type 0
  ValuesAgree Unset known = known ≡ Unseen
  ValuesAgree Filling known = known ≡ Unseen
  ValuesAgree (Running v) known = IsKnownAs v known
  ValuesAgree (Finished v ran) known = IsKnownAs v known

module _ {V C : Type 0} where
  -- the word is 2 once the value is there
  abbrev pub word_of : SetterStage V → CallbackStage C → ℕ
  word_of Unset callback = word_before callback
  word_of Filling callback = word_before callback
  word_of (Running v) callback = 2
  word_of (Finished v ran) callback = 2

  -- slot 0 once the value is there
  abbrev pub value_home : V → Known V → Home V C
  value_home v Unseen = some (Some (Value v))
  value_home v (Taking w) = none
  value_home v (Taken w) = some None

  abbrev pub first_home : SetterStage V → Known V → Home V C
  first_home Unset known = some None
  first_home Filling known = none
  first_home (Running v) known = value_home v known
  first_home (Finished v ran) known = value_home v known

  -- slot 1 before the value is there
  abbrev pub laid_home : CallbackStage C → Home V C
  laid_home Unregistered = some None
  laid_home Laying = none
  laid_home (Lies c) = some (Some (Callback c))
  laid_home Refused = none
  laid_home Returned = some None

  -- slot 1 once a parked callback was taken out
  abbrev pub left_home : CallbackStage C → Home V C
  left_home Unregistered = some None
  left_home Laying = none
  left_home (Lies c) = some None
  left_home Refused = none
  left_home Returned = some None

  abbrev pub second_home : SetterStage V → CallbackStage C → Home V C
  second_home Unset callback = laid_home callback
  second_home Filling callback = laid_home callback
  second_home (Running v) callback = none
  second_home (Finished v ran) callback = left_home callback

  abbrev pub words_of : Phase V C → List ℕ
  words_of unsplit = 0 ∷ []
  words_of (shared p w) = word_of p w.callback ∷ []
  words_of (joined p w) = word_of p w.callback ∷ []
  words_of (over n) = 2 ∷ []

  abbrev pub homes_of : Phase V C → List (Home V C)
  homes_of unsplit = some None ∷ some None ∷ []
  homes_of (shared p w) = first_home p w.known ∷ second_home p w.callback ∷ []
  homes_of (joined p w) = first_home p w.known ∷ second_home p w.callback ∷ []
  homes_of (over n) = some None ∷ some None ∷ []

  abbrev pub views_of : Phase V C → List (View V C)
  views_of unsplit = Unsplit ∷ []
  views_of (shared p w) = Sets p ∷ Waits w ∷ []
  views_of (joined p w) = Meets p w ∷ Spent ∷ []
  views_of (over n) = Over ∷ Spent ∷ replicate n Over

  abbrev pub state_of : Phase V C → State (Slot V C) (View V C)
  state_of phase = record { words = words_of phase; homes = homes_of phase; views = views_of phase }

  -- the setter ran a callback exactly where one was parked; none was refused before the value was there
  abbrev pub CallbacksAgree : SetterStage V → CallbackStage C → Type 0
  CallbacksAgree Unset callback = is_refused callback ≡ false
  CallbacksAgree Filling callback = is_refused callback ≡ false
  CallbacksAgree (Running v) callback = is_parked callback ≡ true
  CallbacksAgree (Finished v ran) callback = ran ≡ is_parked callback

  abbrev pub Agree : SetterStage V → WaiterStage V C → Type 0
  Agree p w = ValuesAgree p w.known × CallbacksAgree p w.callback

  abbrev pub IsSound : Phase V C → Type 0
  IsSound unsplit = Unit {0}
  IsSound (shared p w) = Agree p w
  IsSound (joined p w) = Agree p w
  IsSound (over n) = Unit {0}

  abbrev pub Ruled : State (Slot V C) (View V C) → Type 0
  Ruled s = (phase : Phase V C) × IsSound phase × (s ≡ state_of phase)
