-- What contracts see of a machine.
use Rattle.std.specs.Prelude.{ℕ, ◌<◌, ◌≤◌, Bool, List, map}
use Rattle.model_machine.specs.declared.State.{State}
use Rattle.model_machine.specs.declared.State.TheVariants as state
use Rattle.model_machine.specs.Machines.{Machine}

-- the machine of the definitions, and whether it ran out of memory, after which it does nothing more
pub record MachineModel : Type 0 where
  pub machine : Machine
  pub is_out_of_memory : Bool

-- the values of pairs, in order
abbrev pub values_of : List (List ℕ × List ℕ) → List (List ℕ)
values_of pairs = map (λ entry. entry.1) pairs

-- a machine that awaits a reply stands at one of its instructions
abbrev pub IsInside : State → ℕ → ℕ → Type 0
IsInside state.Running next count = next ≤ count
IsInside (state.Awaiting awaits) next count = next < count
IsInside (state.Stopped end) next count = next ≤ count
