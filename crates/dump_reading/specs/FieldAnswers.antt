-- What reading of a field answers.
use Rattle.std.specs.Prelude.{◌≡◌, ℕ, Result, Ok, Err}
use Rattle.dump_reading.specs.declared.field.FieldFault.{FieldFault}
use Rattle.dump_reading.specs.declared.field.FieldFault.TheVariants as faults

-- a fault is the one that reading gives; only memory may run out besides
abbrev pub Fails : {Y : Type 0} → FieldFault → Result Y ℕ → Type 0
Fails (faults.Bad left) read = read ≡ Err left
Fails faults.NoMemory read = Unit {0}

-- what a function returned, seen by view, is what reading gives, unless memory ran out
abbrev pub Gives : {X Y : Type 0} → (X → Y) → Result X FieldFault → Result Y ℕ → Type 0
Gives view (Ok x) read = read ≡ Ok (view x)
Gives view (Err fault) read = Fails fault read
