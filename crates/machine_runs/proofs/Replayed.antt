-- What an order comes to that a replay was given.
use Rattle.std.proofs.Common.{◌≡◌, ℕ, true, false, List, Option, Some, None, subst, ◌∙◌, arith}
use Rattle.std.specs.Prelude.{is_some, map}
use Rattle.client_core.specs.Stands.{CoreModel}
use Rattle.model_commands.specs.declared.args.RunArgs.{RunArgs}
use Rattle.machine_runs.specs.declared.fault.OrderFault.{OrderFault}
use Rattle.machine_runs.specs.declared.fault.OrderFault.TheVariants as order
use Rattle.suspended_machine.specs.declared.suspended.SuspendedMachine.{SuspendedMachine}
use Rattle.suspended_machine.specs.SuspendedMachines.{progress_of}
use Rattle.machine_runs.specs.Driving.{asks_at, IsFirstAsking, Leads}
use Rattle.machine_runs.specs.Misfits.{IsMisfit, StopsShort}
use Rattle.machine_runs.specs.Following.{HasFollowed}
use Rattle.machine_runs.proofs.SuspendedMachines.{has_is_asks}

-- an order that was followed up to a machine that asks nothing
pub misfit_stopped : (fault : OrderFault) (pairs : List (List ℕ × List ℕ)) (arguments : RunArgs) (core : CoreModel) (words : ℕ → ℕ)
    (suspended_machines : List SuspendedMachine) (followed given : List ℕ) → Leads pairs arguments core words suspended_machines followed
    → HasFollowed (Some fault) given followed suspended_machines → IsMisfit fault pairs arguments given
misfit_stopped (order.NoRequest place machine) pairs arguments core words suspended_machines followed given leads stops = record {
  front = followed;
  rest = stops.rest;
  order_is = stops.given_is;
  place_is = stops.place_is;
  run = record { world = leads.world; machines = map progress_of suspended_machines };
  runs = leads.runs;
  none = has_is_asks leads.world suspended_machines machine ∙ stops.none;
}
misfit_stopped order.EndsEarly pairs arguments core words suspended_machines followed given leads stops = absurd stops
misfit_stopped order.NoMemory pairs arguments core words suspended_machines followed given leads stops = absurd stops

-- an order that was followed to its end, where a machine asks
pub stops_short : (found : Option ℕ) (pairs : List (List ℕ × List ℕ)) (arguments : RunArgs) (core : CoreModel) (words : ℕ → ℕ)
    (suspended_machines : List SuspendedMachine) (followed given : List ℕ) → Leads pairs arguments core words suspended_machines followed → followed ≡ given
    → IsFirstAsking suspended_machines 0 found → is_some found ≡ true → StopsShort pairs arguments given
stops_short None pairs arguments core words suspended_machines followed given leads is first some = absurd cc
stops_short (Some machine) pairs arguments core words suspended_machines followed given leads is first some =
    subst (λ (o : List ℕ). StopsShort pairs arguments o) is (record {
      run = record { world = leads.world; machines = map progress_of suspended_machines };
      runs = leads.runs;
      machine = machine;
      asks = has_is_asks leads.world suspended_machines machine ∙ first.2;
    })

-- where no first machine asks, none does
pub none_asks : (found : Option ℕ) (suspended_machines : List SuspendedMachine) → IsFirstAsking suspended_machines 0 found → is_some found ≡ false
    → (number : ℕ) → asks_at suspended_machines number ≡ false
none_asks None suspended_machines none e number = none number (omega arith)
none_asks (Some machine) suspended_machines first e number = absurd cc
