-- A run over an order of requests, and its dump.
use Rattle.std.specs.Prelude.{◌≡◌, ℕ, zero, suc, pos, ◌+◌, ◌-◌, ◌<◌, ◌≤◌, ◌⊎◌, Bool, true, false, if◌then◌else◌, List, [], ◌∷◌, ◌++◌, length, map, flat_map, reverse, Option, Some, None, is_some, option_and_then, option_map, slice_get, slice_set, IsTrue, codes}
use Rattle.std.specs.List.{enumerate_from, list_all}
use Rattle.std.specs.FinMap as finite
use Rattle.model_database.specs.Slices.{Entries}
use Rattle.fdb_calls.specs.declared.Request.{Request}
use Rattle.fdb_calls.specs.declared.Request.TheVariants as request
use Rattle.fdb_calls.specs.declared.Reply.{Reply}
use Rattle.fdb_calls.specs.declared.Reply.TheVariants as reply
use Rattle.model_lines.specs.Printing.{machine_line, item_line, error_line, order_line, pair_line}
use Rattle.model_commands.specs.declared.args.RunArgs.{RunArgs}
use Rattle.model_machine.specs.declared.MachineOptions.{MachineOptions}
use Rattle.model_machine.specs.declared.End.TheVariants as end
use Rattle.model_machine.specs.declared.State.{State}
use Rattle.model_machine.specs.declared.State.TheVariants as state
use Rattle.model_machine.specs.Worlds.{World, Stepped, begun, instruction_pairs, newest, step}
use Rattle.model_machine.specs.Calls.{item_bytes}
use Rattle.model_machine.specs.Directories.{first_directories}
use Rattle.model_machine.specs.Machines.{Machine, Progress, Registers, silent, advance, resumed}

-- ---- coming to rest

abbrev pub is_running : State → Bool
is_running state.Running = true
is_running (state.Awaiting awaits) = false
is_running (state.Stopped end) = false

-- a machine goes on, one instruction after the other, until it asks or has stopped
unfoldable pub rested : ℕ → Progress → Progress
rested zero progress = progress
rested (suc more) progress = if is_running progress.machine.state then rested more (advance progress.machine) else progress

-- each instruction is run once at most, and then the machine ends: so many steps are enough
unfoldable pub at_rest : Progress → Progress
at_rest progress = rested (length progress.machine.instructions - progress.machine.next + 1) progress

-- ---- starting a machine

-- what the instructions of a machine under a prefix work on at first
abbrev pub first_registers : (prefix : List ℕ) → Registers
first_registers prefix = record { name = prefix; last_seen = pos 0; stack = []; errors = []; directories = first_directories }

-- the options that the arguments of a run give to each of its machines
abbrev pub machine_options : RunArgs → MachineOptions
machine_options arguments = record { api = arguments.api; polls = arguments.polls }

-- a machine of a number, as it is started under a prefix with these options: the values of these pairs are its instructions
unfoldable pub started : (number : ℕ) → (prefix : List ℕ) → MachineOptions → Entries → Machine
started number prefix options pairs = record {
  number = number;
  prefix = prefix;
  instructions = map (λ pair. pair.1) pairs;
  next = 0;
  options = options;
  registers = first_registers prefix;
  state = state.Running;
}

-- ---- a run

-- the world, and the machines by their numbers
pub record Run : Type 0 where
  pub world : World
  pub machines : List Progress

-- the run before any request was taken: machine 0 was started
abbrev pub start : List (List ℕ × List ℕ) → RunArgs → Run
start pairs arguments =
    let world = begun pairs arguments in
    let pairs_under = instruction_pairs arguments.prefix (newest world) in
    record { world = world; machines = at_rest (silent (started 0 arguments.prefix (machine_options arguments) pairs_under)) ∷ [] }

-- the prefix under which a request starts a machine, if it starts one
abbrev pub start_prefix : Request → Option (List ℕ)
start_prefix (request.Start prefix) = Some prefix
start_prefix _ = None

-- the machine that was started under a prefix by this reply, at its first request or its end; its options are those of its starter
abbrev pub started_by : (prefix : Option (List ℕ)) → MachineOptions → Reply → List Progress
started_by (Some prefix) options (reply.Started number pairs) = at_rest (silent (started number prefix options pairs)) ∷ []
started_by prefix options reply = []

-- a machine's request was taken: its machine has the reply, and stands at its next request or its end; so does a machine that
-- it started
abbrev pub replied : Run → ℕ → Machine → Request → Stepped → Run
replied run machine_number machine request stepped = record {
  world = stepped.world;
  machines = slice_set run.machines machine_number (at_rest (resumed machine stepped.reply)) ++ started_by (start_prefix request) machine.options stepped.reply;
}

abbrev pub taken : Run → ℕ → Progress → Option Run
taken run machine_number progress =
    option_map (λ request. replied run machine_number progress.machine request (step run.world request)) progress.asks

-- the request of the machine of this number is taken; there is no such run where it has none
unfoldable pub take_place : ℕ → Run → Option Run
take_place machine_number run = option_and_then (λ progress. taken run machine_number progress) (slice_get run.machines machine_number)

-- the run after the requests of an order, a list of machine numbers
unfoldable pub run_from : List ℕ → Run → Option Run
run_from [] run = Some run
run_from (machine_number ∷ order) run = option_and_then (λ next. run_from order next) (take_place machine_number run)

abbrev pub has_stopped : State → Bool
has_stopped state.Running = false
has_stopped (state.Awaiting awaits) = false
has_stopped (state.Stopped end) = true

-- every machine has an end
abbrev pub is_complete : Run → Bool
is_complete run = list_all (λ progress. has_stopped progress.machine.state) run.machines

-- the run of these pairs by these arguments in this order, which is complete
pub record RunsTo (pairs : List (List ℕ × List ℕ)) (arguments : RunArgs) (order : List ℕ) (run : Run) : Type 0 where
  pub runs : run_from order (start pairs arguments) ≡ Some run
  pub complete : IsTrue (is_complete run)

-- ---- turns

-- whether the machine of a number has a next request
abbrev pub has_request : Run → ℕ → Bool
has_request run number = is_some (option_and_then (λ progress. progress.asks) (slice_get run.machines number))

-- the first machine, from one on, that has a next request
pub record IsFirstFrom (from : ℕ) (run : Run) (number : ℕ) : Type 0 where
  pub not_below : from ≤ number
  pub has_one : IsTrue (has_request run number)
  pub first : (other : ℕ) → from ≤ other → other < number → has_request run other ≡ false

-- whose turn it is: the first machine from one on that has a next request, or else the first of all that has one
abbrev pub HasTurn : (from : ℕ) → Run → ℕ → Type 0
HasTurn from run number =
    IsFirstFrom from run number ⊎ (((other : ℕ) → from ≤ other → has_request run other ≡ false) × IsFirstFrom 0 run number)

-- after an order it is the turn of the machine behind its last one; the first turn begins at machine 0
abbrev pub turn_after : List ℕ → ℕ
turn_after [] = 0
turn_after (number ∷ []) = number + 1
turn_after (number ∷ order) = turn_after order

-- requests were taken by turns: at each place of the order stands the machine whose turn it was
abbrev pub AreByTurns : (pairs : List (List ℕ × List ℕ)) → RunArgs → (order : List ℕ) → Type 0
AreByTurns pairs arguments order = (front rest : List ℕ) (number : ℕ) (run : Run) → order ≡ front ++ number ∷ rest
    → run_from front (start pairs arguments) ≡ Some run → HasTurn (turn_after front) run number

-- ---- how a run ends

abbrev pub has_ended : State → Bool
has_ended state.Running = false
has_ended (state.Awaiting awaits) = false
has_ended (state.Stopped end.Ended) = true
has_ended (state.Stopped (end.BadInstruction instruction)) = false
has_ended (state.Stopped (end.Underflow instruction)) = false
has_ended (state.Stopped (end.WaitBound instruction)) = false
has_ended (state.Stopped (end.MachineLimit instruction)) = false

-- the exit status of a complete run: 0 where every machine has ended after its last instruction, else 3
abbrev pub status_of : Run → ℕ
status_of run = if list_all (λ progress. has_ended progress.machine.state) run.machines then 0 else 3

-- ---- the dump

abbrev pub end_line : Machine → State → List ℕ
end_line machine state.Running = []
end_line machine (state.Awaiting awaits) = []
end_line machine (state.Stopped end.Ended) = machine_line machine.number (codes "ended") (length machine.instructions) machine.prefix
end_line machine (state.Stopped (end.BadInstruction instruction)) = machine_line machine.number (codes "bad-instruction") instruction machine.prefix
end_line machine (state.Stopped (end.Underflow instruction)) = machine_line machine.number (codes "underflow") instruction machine.prefix
end_line machine (state.Stopped (end.WaitBound instruction)) = machine_line machine.number (codes "wait-bound") instruction machine.prefix
end_line machine (state.Stopped (end.MachineLimit instruction)) = machine_line machine.number (codes "machine-limit") instruction machine.prefix

-- a machine's stack, each item with its place, the oldest at 0
abbrev pub stack_lines : Machine → List ℕ
stack_lines machine =
    flat_map (λ (place, item). item_line machine.number place item.instruction (item_bytes item.value)) (enumerate_from 0 (reverse machine.registers.stack))

-- the errors that a machine noted
abbrev pub error_lines : Machine → List ℕ
error_lines machine = flat_map (λ note. error_line machine.number note.instruction note.word) machine.registers.errors

-- how the machines ended, their stacks, their errors, the order, and the map at the last version in the order of its keys
unfoldable pub dump : List ℕ → Run → List ℕ
dump order run =
    flat_map (λ progress. end_line progress.machine progress.machine.state) run.machines
    ++ flat_map (λ progress. stack_lines progress.machine) run.machines
    ++ flat_map (λ progress. error_lines progress.machine) run.machines
    ++ flat_map order_line order
    ++ flat_map (λ entry. pair_line entry.0 entry.1) (finite.entries (newest run.world))
