-- Why the order of a replay can't be followed.
use Rattle.std.specs.Prelude.{◌≡◌, ℕ, ◌+◌, true, false, List, ◌∷◌, ◌++◌, length, Some}
use Rattle.model_commands.specs.declared.args.RunArgs.{RunArgs}
use Rattle.model_machine.specs.Runs.{Run, has_request, run_from, start}
use Rattle.machine_runs.specs.declared.fault.OrderFault.{OrderFault}
use Rattle.machine_runs.specs.declared.fault.OrderFault.TheVariants as order

-- the order goes to a place, and the machine that it names there has no request
pub record LacksRequest (pairs : List (List ℕ × List ℕ)) (arguments : RunArgs) (order : List ℕ) (place machine : ℕ) : Type 0 where
  pub front : List ℕ
  pub rest : List ℕ
  pub order_is : order ≡ front ++ machine ∷ rest
  pub place_is : place ≡ length front + 1
  pub run : Run
  pub runs : run_from front (start pairs arguments) ≡ Some run
  pub none : has_request run machine ≡ false

-- the order goes to its end, and a machine has a request there
pub record StopsShort (pairs : List (List ℕ × List ℕ)) (arguments : RunArgs) (order : List ℕ) : Type 0 where
  pub run : Run
  pub runs : run_from order (start pairs arguments) ≡ Some run
  pub machine : ℕ
  pub asks : has_request run machine ≡ true

-- what a replay over pairs and an order was refused for; want of memory has no cause
abbrev pub IsMisfit : OrderFault → (pairs : List (List ℕ × List ℕ)) → RunArgs → (order : List ℕ) → Type 0
IsMisfit (order.NoRequest place machine) pairs arguments given = LacksRequest pairs arguments given place machine
IsMisfit order.EndsEarly pairs arguments given = StopsShort pairs arguments given
IsMisfit order.NoMemory pairs arguments given = Unit {0}
