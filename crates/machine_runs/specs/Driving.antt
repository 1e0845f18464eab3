-- How the core and the machines stand to a run while it goes on.
use Rattle.std.specs.Prelude.{◌≡◌, ◌≢◌, ℕ, ◌<◌, ◌≤◌, ◌⊎◌, Bool, if◌then◌else◌, true, false, List, [], ◌∷◌, ◌++◌, length, map, Option, Some, None, IfSome, MatchOption, is_some, option_and_then, option_to_list, slice_get, slice_set, ⊤}
use Rattle.std.specs.List.{sum_by}
use Rattle.model_commands.specs.declared.args.RunArgs.{RunArgs}
use Rattle.client_core.specs.Stands.{CoreModel, StandsFor}
use Rattle.model_machine.specs.declared.TheConstants.{MACHINES}
use Rattle.model_machine.specs.Worlds.{World, HasWords, begun, instruction_pairs}
use Rattle.version_store.specs.Versions.{at, last_of}
use Rattle.model_machine.specs.Machines.{silent, resumed}
use Rattle.fdb_calls.specs.declared.Reply.{Reply}
use Rattle.fdb_calls.specs.declared.Reply.TheVariants.{NoMemory}
use Rattle.model_machine.specs.Runs.{AreByTurns, at_rest, machine_options, run_from, start, started, started_by, turn_after}
use Rattle.model_machine.specs.Laws.{effort_in}
use Rattle.suspended_machine.specs.declared.suspended.SuspendedMachine.{SuspendedMachine}
use Rattle.suspended_machine.specs.SuspendedMachines.{progress_of, work_left, IsNearer, IsSuspended}
use Rattle.machine_runs.specs.declared.running.Ended.{Ended}
use Rattle.machine_runs.specs.declared.driving.Moved.{Moved}
use Rattle.machine_runs.specs.declared.driving.Moved.TheVariants as moved
use Rattle.machine_runs.specs.declared.driving.Pause.{Pause}
use Rattle.machine_runs.specs.declared.driving.Pause.TheVariants as pause

-- ---- all machines

abbrev pub work_of : List SuspendedMachine → ℕ
work_of suspended_machines = sum_by (λ suspended. work_left suspended.machine.machine) suspended_machines

abbrev pub effort_of : List SuspendedMachine → ℕ
effort_of suspended_machines = sum_by (λ suspended. effort_in suspended.machine.machine) suspended_machines

abbrev pub AreSuspended : List SuspendedMachine → Type 0
AreSuspended suspended_machines = (number : ℕ) (suspended : SuspendedMachine) → slice_get suspended_machines number ≡ Some suspended → IsSuspended suspended

-- whether the machine of a number asks
abbrev pub asks_at : List SuspendedMachine → ℕ → Bool
asks_at suspended_machines number = is_some (option_and_then (λ suspended. suspended.asks) (slice_get suspended_machines number))

-- the first machine, from one on, that asks, if one does
abbrev pub IsFirstAsking : List SuspendedMachine → (from : ℕ) → Option ℕ → Type 0
IsFirstAsking suspended_machines from found = MatchOption found
    ((other : ℕ) → from ≤ other → asks_at suspended_machines other ≡ false)
    (λ number. (number < length suspended_machines) × (from ≤ number) × (asks_at suspended_machines number ≡ true)
    × ((other : ℕ) → from ≤ other → other < number → asks_at suspended_machines other ≡ false))

-- whose turn it is
abbrev pub IsNextInTurn : List SuspendedMachine → (from : ℕ) → Option ℕ → Type 0
IsNextInTurn suspended_machines from None = (other : ℕ) → asks_at suspended_machines other ≡ false
IsNextInTurn suspended_machines from (Some number) = IsFirstAsking suspended_machines from (Some number)
    ⊎ (IsFirstAsking suspended_machines from None × IsFirstAsking suspended_machines 0 (Some number))

-- machine 0 at rest, as it is started over what a core keeps
abbrev pub IsStarted : SuspendedMachine → RunArgs → CoreModel → Type 0
IsStarted suspended arguments core = progress_of suspended ≡ at_rest (silent (started 0 arguments.prefix (machine_options arguments)
    (instruction_pairs arguments.prefix (at core.store (last_of core.store)))))

-- so it is the one machine of each start whose world the core stands for
abbrev pub IsFirst : SuspendedMachine → RunArgs → CoreModel → Type 0
IsFirst suspended arguments core = (pairs : List (List ℕ × List ℕ)) → StandsFor core (begun pairs arguments)
    → (start pairs arguments).machines ≡ progress_of suspended ∷ []

-- machine 0 alone
pub record AreFirst (suspended_machines : List SuspendedMachine) (arguments : RunArgs) (core : CoreModel) : Type 0 where
  pub suspended : SuspendedMachine
  pub alone : suspended_machines ≡ suspended ∷ []
  pub started : IsStarted suspended arguments core
  pub is_suspended : IsSuspended suspended

-- ---- the run so far

-- The order so far leads from the start to a run: the core stands for its world, the random words still to come are that
-- world's, and its machines are these.
pub record Leads (pairs : List (List ℕ × List ℕ)) (arguments : RunArgs) (core : CoreModel) (words : ℕ → ℕ) (suspended_machines : List SuspendedMachine)
    (order : List ℕ) : Type 0 where
  pub world : World
  pub stands : StandsFor core world
  pub has_words : HasWords world words
  pub runs : run_from order (start pairs arguments) ≡ Some (record { world = world; machines = map progress_of suspended_machines })

-- wherever the order led before, it leads now
abbrev pub GoesOn : CoreModel → (ℕ → ℕ) → List SuspendedMachine → List ℕ → CoreModel → (ℕ → ℕ) → List SuspendedMachine → List ℕ → Type 0
GoesOn core words suspended_machines order core_after words_after suspended_machines_after order_after =
    (pairs : List (List ℕ × List ℕ)) (arguments : RunArgs) → Leads pairs arguments core words suspended_machines order
    → Leads pairs arguments core_after words_after suspended_machines_after order_after

-- The requests were taken by turns, and the next turn looks from this number on.
pub record LeadsByTurns (pairs : List (List ℕ × List ℕ)) (arguments : RunArgs) (core : CoreModel) (words : ℕ → ℕ) (suspended_machines : List SuspendedMachine)
    (order : List ℕ) (from : ℕ) : Type 0 where
  pub leads : Leads pairs arguments core words suspended_machines order
  pub turns : AreByTurns pairs arguments order
  pub from_is : turn_after order ≡ from

abbrev pub GoesOnByTurns : CoreModel → (ℕ → ℕ) → List SuspendedMachine → List ℕ → ℕ → CoreModel → (ℕ → ℕ) → List SuspendedMachine → List ℕ → ℕ → Type 0
GoesOnByTurns core words suspended_machines order from core_after words_after suspended_machines_after order_after from_after =
    (pairs : List (List ℕ × List ℕ)) (arguments : RunArgs) → LeadsByTurns pairs arguments core words suspended_machines order from
    → LeadsByTurns pairs arguments core_after words_after suspended_machines_after order_after from_after

-- a run has come to its end: no machine asks
pub record Ends (pairs : List (List ℕ × List ℕ)) (arguments : RunArgs) (ended : Ended) : Type 0 where
  pub words : ℕ → ℕ
  pub leads : Leads pairs arguments ended.core words ended.suspended_machines.items ended.order
  pub is_suspended : AreSuspended ended.suspended_machines.items
  pub none : (number : ℕ) → asks_at ended.suspended_machines.items number ≡ false

-- and its order is that by turns
pub record EndsByTurns (pairs : List (List ℕ × List ℕ)) (arguments : RunArgs) (ended : Ended) : Type 0 where
  pub ends : Ends pairs arguments ended
  pub turns : AreByTurns pairs arguments ended.order

-- a run is at its start: no request was taken, and the one machine is at this suspended machine
pub record IsAtStart (pairs : List (List ℕ × List ℕ)) (arguments : RunArgs) (core : CoreModel) (words : ℕ → ℕ) (suspended : SuspendedMachine) : Type 0 where
  pub stands : StandsFor core (begun pairs arguments)
  pub has_words : HasWords (begun pairs arguments) words
  pub starts : (start pairs arguments).machines ≡ progress_of suspended ∷ []

-- whatever run was at its start has come to its end
abbrev pub EndsFrom : CoreModel → (ℕ → ℕ) → SuspendedMachine → Ended → Type 0
EndsFrom core words suspended ended =
    (pairs : List (List ℕ × List ℕ)) (arguments : RunArgs) → IsAtStart pairs arguments core words suspended → Ends pairs arguments ended

abbrev pub EndsByTurnsFrom : CoreModel → (ℕ → ℕ) → SuspendedMachine → Ended → Type 0
EndsByTurnsFrom core words suspended ended =
    (pairs : List (List ℕ × List ℕ)) (arguments : RunArgs) → IsAtStart pairs arguments core words suspended → EndsByTurns pairs arguments ended

-- what is so between two requests
pub record IsGoing (core : CoreModel) (suspended_machines : List SuspendedMachine) (order : List ℕ) : Type 0 where
  pub is_suspended : AreSuspended suspended_machines
  pub counted : core.applied ≡ length order
  pub started : length core.started ≡ length suspended_machines
  pub few : length suspended_machines ≤ MACHINES

-- The machine of a number used a reply, and the machine that the reply started, under the prefix that was asked for, was added
-- behind the others, if one was started: what came of it.
pub record HasUsed (prefix : Option (List ℕ)) (reply : Reply) (number : ℕ) (before after : List SuspendedMachine) (came : Moved) : Type 0 where
  pub asked : SuspendedMachine
  pub here : slice_get before number ≡ Some asked
  pub memory : reply ≢ NoMemory
  pub used : SuspendedMachine
  pub rests : progress_of used ≡ at_rest (resumed asked.machine.machine reply)
  pub is_suspended : IsSuspended used
  pub asks_on : Bool
  pub nearer : IsNearer asks_on asked.machine.machine used.machine.machine
  pub more : Option SuspendedMachine
  pub started : map progress_of (option_to_list more) ≡ started_by prefix asked.machine.machine.options reply
  pub more_is_suspended : IfSome more IsSuspended
  pub suspended_machines : after ≡ slice_set before number used ++ option_to_list more
  pub came_is : came ≡ (if is_some more then moved.Started else if asks_on then moved.AsksOn else moved.Finished)

-- what came of a request
abbrev pub HasMoved : Moved → (before after : List SuspendedMachine) → Type 0
HasMoved moved.AsksOn before after =
    (length after ≡ length before) × (work_of after ≡ work_of before) × (effort_of after < effort_of before)
HasMoved moved.Finished before after = (length after ≡ length before) × (work_of after < work_of before)
HasMoved moved.Started before after = length before < length after

-- until when requests were taken
abbrev pub HasPaused : Pause → (before after : List SuspendedMachine) → Type 0
HasPaused pause.Finished before after = (length after ≡ length before) × (work_of after < work_of before)
HasPaused pause.Started before after = length before < length after
HasPaused pause.Ended before after = ⊤
