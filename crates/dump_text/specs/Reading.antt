-- What reading answers.
use Rattle.std.specs.Prelude.{◌≡◌, Result, Ok, Err}
use Rattle.model_lines.specs.Reading.{Fault, BadLine, TooLong, TooMany}
use Rattle.dump_text.specs.declared.fault.LineFault.{LineFault}
use Rattle.dump_text.specs.declared.fault.LineFault.TheVariants as errors

-- a fault is the one that reading gives, with its line and its place; only memory may run out besides
abbrev pub Fails : {Y : Type 0} → LineFault → Result Y Fault → Type 0
Fails (errors.BadLine line place) read = read ≡ Err (BadLine line place)
Fails (errors.TooLong line) read = read ≡ Err (TooLong line)
Fails (errors.TooMany line) read = read ≡ Err (TooMany line)
Fails errors.NoMemory read = Unit {0}

-- what a function returned, seen by view, is what reading gives, unless memory ran out
abbrev pub Gives : {X Y : Type 0} → (X → Y) → Result X LineFault → Result Y Fault → Type 0
Gives view (Ok x) read = read ≡ Ok (view x)
Gives view (Err e) read = Fails e read
