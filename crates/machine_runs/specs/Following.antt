-- How far an order was followed.
use Rattle.std.specs.Prelude.{◌≡◌, ℕ, ◌+◌, false, List, ◌∷◌, ◌++◌, length, Option, Some, None}
use Rattle.machine_runs.specs.declared.fault.OrderFault.{OrderFault}
use Rattle.machine_runs.specs.declared.fault.OrderFault.TheVariants as order
use Rattle.suspended_machine.specs.declared.suspended.SuspendedMachine.{SuspendedMachine}
use Rattle.machine_runs.specs.Driving.{asks_at}

-- to a place at which the machine that it names asks nothing
pub record Stops (given order : List ℕ) (suspended_machines : List SuspendedMachine) (place machine : ℕ) : Type 0 where
  pub rest : List ℕ
  pub given_is : given ≡ order ++ machine ∷ rest
  pub place_is : place ≡ length order + 1
  pub none : asks_at suspended_machines machine ≡ false

-- to its end, or up to such a place
abbrev pub HasFollowed : Option OrderFault → (given order : List ℕ) → List SuspendedMachine → Type 0
HasFollowed None given its_order suspended_machines = its_order ≡ given
HasFollowed (Some (order.NoRequest place machine)) given its_order suspended_machines = Stops given its_order suspended_machines place machine
HasFollowed (Some order.EndsEarly) given its_order suspended_machines = ⊥
HasFollowed (Some order.NoMemory) given its_order suspended_machines = ⊥
