-- A suspended machine: what it has come to, and what it has left.
use Rattle.std.specs.Prelude.{◌≡◌, ℕ, ◌+◌, ◌-◌, ◌<◌, Bool, true, false, cond, length, Option, Some, None, is_some}
use Rattle.fdb_calls.specs.declared.Request.{Request}
use Rattle.stack_machine.specs.MachineModel.{MachineModel}
use Rattle.stack_machine.specs.declared.machine.Step.{Step}
use Rattle.stack_machine.specs.declared.machine.Step.TheVariants as step
use Rattle.model_machine.specs.Machines.{Machine, Progress}
use Rattle.model_machine.specs.Runs.{is_running, has_stopped}
use Rattle.model_machine.specs.Laws.{HasItsItemIn, effort_in, is_awaiting}
use Rattle.suspended_machine.specs.declared.suspended.SuspendedMachine.{SuspendedMachine}

-- what a machine asks, by the answer of its step
abbrev pub asked_by : Step → Option Request
asked_by (step.Ask request) = Some request
asked_by step.Again = None
asked_by (step.Stopped end) = None

-- a machine, and what it asks, if it asks something
abbrev pub with_asked : Machine → Option Request → Progress
with_asked machine asks = record { machine = machine; asks = asks }

abbrev pub progress_of : SuspendedMachine → Progress
progress_of suspended = with_asked suspended.machine.machine suspended.asks

-- The machine is at rest: it awaits a reply exactly where it asks, standing at one of its instructions, with an item that
-- waits where it polls for one; else it has stopped.
pub record IsSuspended (suspended : SuspendedMachine) : Type 0 where
  pub ready : suspended.machine.is_out_of_memory ≡ false
  pub rests : is_running suspended.machine.machine.state ≡ false
  pub awaits : is_awaiting suspended.machine.machine.state ≡ is_some suspended.asks
  pub item : HasItsItemIn suspended.machine.machine
  pub inside : is_awaiting suspended.machine.machine.state ≡ true → suspended.machine.machine.next < length suspended.machine.machine.instructions

-- The machine awaits the reply to something that it asked, and was at rest when it asked.
pub record Awaits (machine : MachineModel) : Type 0 where
  pub asked : Request
  pub is_suspended : IsSuspended (record { machine = machine; asks = Some asked })

-- how many instructions a machine has left, and one step to end
abbrev pub work_left : Machine → ℕ
work_left machine = cond (has_stopped machine.state) 0 (length machine.instructions - machine.next + 1)

-- a machine that used a reply asks on within the same instruction, and has less to poll for and to log; or it has fewer
-- instructions left
abbrev pub IsNearer : (asks_on : Bool) → (before after : Machine) → Type 0
IsNearer true before after = (work_left after ≡ work_left before) × (effort_in after < effort_in before)
IsNearer false before after = work_left after < work_left before
