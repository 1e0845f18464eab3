-- The words of the public contracts.
use Rattle.std.specs.Prelude.{◌≡◌, ◌≢◌, ℕ, ◌+◌, Bool, Option, Some, None, IfSome}
use Rattle.atomic_table.specs.Seated.{TableId}
use Rattle.future_cell.specs.declared.word.TheConstants.{SET}
use Rattle.future_cell.specs.declared.callback.Registered.{Registered}
use Rattle.future_cell.specs.declared.callback.Registered.TheVariants.{No, RanHere}
use Rattle.future_cell.specs.declared.setter.Setter.{Setter}
use Rattle.future_cell.specs.declared.setter.Receipt.{Receipt}
use Rattle.future_cell.specs.declared.waiter.Waiter.{Waiter}
use Rattle.future_cell.specs.declared.settling.Settled.{Settled}
use Rattle.future_cell.specs.Plays.{setter_in, waiter_in, value_out}
use Rattle.future_cell.specs.Halves.{cell_of, place_of}

module _ {V C : Type 0} where
  -- which cell a setter, a receipt or a waiter belongs to
  abbrev pub setter_cell : Setter V C → TableId
  setter_cell s = cell_of s.half

  abbrev pub receipt_cell : Receipt V C → TableId
  receipt_cell r = cell_of r.half

  abbrev pub waiter_cell : Waiter V C → TableId
  waiter_cell w = cell_of w.half

  -- the value that was set
  abbrev pub value_set : Receipt V C → Option V
  value_set r = value_out (setter_in (place_of r.half).0)

  -- whether the setter ran a callback
  abbrev pub has_run : Receipt V C → Bool
  has_run r = r.ran

  -- the value, once the waiter showed it
  abbrev pub shown : Waiter V C → Option V
  shown w = w.value

  -- what became of the waiter's callback
  abbrev pub registration : Waiter V C → Registered
  registration w = w.registered

  -- how often the waiter looked at the cell's word, and what it found last
  abbrev pub looks : Waiter V C → ℕ
  looks w = (waiter_in (place_of w.half).0).looks

  abbrev pub last_found : Waiter V C → ℕ
  last_found w = (waiter_in (place_of w.half).0).found

  -- the same waiter later: what it showed it still shows
  abbrev pub Peeked : Waiter V C → Waiter V C → Type 0
  Peeked old new =
      (waiter_cell new ≡ waiter_cell old) × (registration new ≡ registration old) × IfSome (shown old) (λ v. shown new ≡ Some v)

  -- No value is shown: the waiter looked once more, and the word that it found did not say that the value is there
  abbrev pub NotYet : Waiter V C → Waiter V C → Type 0
  NotYet old new = (shown new ≡ None) × (looks new ≡ looks old + 1) × (last_found new ≢ SET) × (registration old ≢ RanHere)

  -- the same waiter after it waited: a callback is registered, and what it showed it still shows
  abbrev pub Waited : Waiter V C → Waiter V C → Type 0
  Waited old new = (waiter_cell new ≡ waiter_cell old) × (registration new ≢ No) × IfSome (shown old) (λ v. shown new ≡ Some v)

  -- the same waiter after it waited, or was refused: what it showed it still shows
  abbrev pub Awaited : Waiter V C → Waiter V C → Type 0
  Awaited old new = (waiter_cell new ≡ waiter_cell old) × IfSome (shown old) (λ v. shown new ≡ Some v)

module _ {V : Type 0} where
  -- the value of a settled cell, and how many callbacks ran
  abbrev pub settled_value : Settled V → V
  settled_value s = s.value

  abbrev pub settled_runs : Settled V → ℕ
  settled_runs s = s.ran
