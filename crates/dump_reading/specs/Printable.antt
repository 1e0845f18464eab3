-- What reading of a printable form answers.
use Rattle.std.specs.Prelude.{◌≡◌, ℕ, ◌<◌, List, ◌++◌, length, take, drop, Option, Result, Ok, Err}
use Rattle.key_bytes.specs.Keys.{IsByteString}
use Rattle.model_lines.specs.Printing.{printed_but, printable_but}
use Rattle.dump_reading.specs.declared.fault.PrintableFault.{PrintableFault}
use Rattle.dump_reading.specs.declared.fault.PrintableFault.TheVariants as faults

-- no byte is spelled at the front
abbrev pub IsUnfit : Option ℕ → List ℕ → Type 0
IsUnfit escaped bytes = (byte : ℕ) (rest : List ℕ) → byte < 256 → bytes ≡ printed_but escaped byte ++ rest → ⊥

-- up to the place stands the printable form of some bytes, and at the place no byte is spelled
pub record IsBadAt (escaped : Option ℕ) (bytes : List ℕ) (place : ℕ) : Type 0 where
  pub before : List ℕ
  pub are_bytes : IsByteString before
  pub spelled : take place bytes ≡ printable_but escaped before
  pub inside : place < length bytes
  pub unfit : IsUnfit escaped (drop place bytes)

abbrev pub IsWantOfMemory : PrintableFault → Type 0
IsWantOfMemory (faults.Bad place) = ⊥
IsWantOfMemory faults.NoMemory = Unit {0}

-- these bytes were read, unless memory ran out
abbrev pub ReadsAs : List ℕ → Result (List ℕ) PrintableFault → Type 0
ReadsAs read (Ok found) = found ≡ read
ReadsAs read (Err fault) = IsWantOfMemory fault

-- a fault is at the place where no byte is spelled; only memory may run out besides
abbrev pub IsFaultOf : Option ℕ → List ℕ → PrintableFault → Type 0
IsFaultOf escaped bytes (faults.Bad place) = IsBadAt escaped bytes place
IsFaultOf escaped bytes faults.NoMemory = Unit {0}

abbrev pub FailsIn : Option ℕ → List ℕ → Result (List ℕ) PrintableFault → Type 0
FailsIn escaped bytes (Ok read) = Unit {0}
FailsIn escaped bytes (Err fault) = IsFaultOf escaped bytes fault

-- reading stopped at the place, unless memory ran out
abbrev pub IsFaultAt : ℕ → PrintableFault → Type 0
IsFaultAt place (faults.Bad found) = found ≡ place
IsFaultAt place faults.NoMemory = Unit {0}

abbrev pub StopsAt : ℕ → Result (List ℕ) PrintableFault → Type 0
StopsAt place (Ok read) = ⊥
StopsAt place (Err fault) = IsFaultAt place fault
