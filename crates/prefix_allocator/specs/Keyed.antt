-- What the keys of counters say.
use Rattle.std.specs.Prelude.{◌≡◌, ℕ, List, Option, Some, None, Result, Ok, Err, ⊤}
use Rattle.model_allocator.specs.Counters.{counter_in}
use Rattle.prefix_allocator.specs.declared.fault.AllocFault.{AllocFault}
use Rattle.prefix_allocator.specs.declared.fault.AllocFault.TheVariants as fault
use Rattle.prefix_allocator.specs.Doing.{start_in}

-- the start that the greatest key of counters says, or that key where it is none of a counter; or memory ran out
abbrev pub Starts : Result ℕ AllocFault → (space : List ℕ) → Option (List ℕ) → Type 0
Starts (Ok start) space greatest = start_in space greatest ≡ Some start
Starts (Err (fault.BadCounter key)) space greatest = (greatest ≡ Some key) × (counter_in space key ≡ None)
Starts (Err fault.NoMemory) space greatest = ⊤
Starts (Err (fault.WindowFull start)) space greatest = ⊥
Starts (Err (fault.Tr code)) space greatest = ⊥
