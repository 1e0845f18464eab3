-- What became of a callback.
use Rattle.std.specs.Prelude.{ℕ, Bool, true, false, Option, Some, None}
use Rattle.future_cell.specs.declared.stage.CallbackStage.{CallbackStage}
use Rattle.future_cell.specs.declared.stage.CallbackStage.TheVariants.{Unregistered, Laying, Lies, Refused, Returned}
use Rattle.future_cell.specs.declared.word.TheConstants.{EMPTY, SET}
use Rattle.future_cell.specs.declared.callback.Ready.{Ready}
use Rattle.future_cell.specs.declared.callback.Ready.TheVariants as ready
use Rattle.future_cell.specs.declared.callback.Registered.{Registered}
use Rattle.future_cell.specs.declared.callback.Registered.TheVariants.{No, Parked, RanHere}

-- what `registered` tells after an answer of `on_ready`
abbrev pub registered_by : Ready → Registered
registered_by ready.Parked = Parked
registered_by ready.RanHere = RanHere

-- the word that `on_ready` found: empty where it parked the callback, and set where it ran it
abbrev pub word_found : Ready → ℕ
word_found ready.Parked = EMPTY
word_found ready.RanHere = SET

-- whether the setter ran the callback
abbrev pub was_parked : Registered → Bool
was_parked No = false
was_parked Parked = true
was_parked RanHere = false

-- how many callbacks ran
abbrev pub run_count : Registered → ℕ
run_count No = 0
run_count Parked = 1
run_count RanHere = 1

-- what a waiter that holds no slot has done with a callback
abbrev pub registered_in : {C : Type 0} → CallbackStage C → Option Registered
registered_in Unregistered = Some No
registered_in Laying = None
registered_in (Lies c) = Some Parked
registered_in Refused = None
registered_in Returned = Some RanHere
