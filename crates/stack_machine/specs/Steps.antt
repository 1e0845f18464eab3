-- What a step answers, and the machine that it leaves.
use Rattle.std.specs.Prelude.{◌≡◌, ◌≢◌, Bool, true, false, Option, Some, None, ⊤}
use Rattle.fdb_calls.specs.declared.Request.{Request}
use Rattle.fdb_calls.specs.declared.Reply.{Reply}
use Rattle.fdb_calls.specs.declared.Reply.TheVariants as reply
use Rattle.model_machine.specs.declared.State.{State}
use Rattle.model_machine.specs.declared.State.TheVariants as state
use Rattle.model_machine.specs.Machines.{Machine, Progress, advance, resumed}
use Rattle.stack_machine.specs.MachineModel.{MachineModel}
use Rattle.stack_machine.specs.declared.machine.Step.{Step}
use Rattle.stack_machine.specs.declared.machine.Step.TheVariants as step

-- a reply is due exactly where the machine awaits one, and it is not that memory ran out
abbrev pub IsDue : State → Option Reply → Type 0
IsDue state.Running None = ⊤
IsDue state.Running (Some given) = ⊥
IsDue (state.Awaiting awaits) None = ⊥
IsDue (state.Awaiting awaits) (Some given) = given ≢ reply.NoMemory
IsDue (state.Stopped end) None = ⊤
IsDue (state.Stopped end) (Some given) = ⊥

-- a machine that ran out of memory may be stepped in any way
abbrev pub MayStep : Bool → State → Option Reply → Type 0
MayStep true state reply = ⊤
MayStep false state reply = IsDue state reply

-- one step: it goes on, or uses the reply
abbrev pub moved : Machine → Option Reply → Progress
moved machine None = advance machine
moved machine (Some reply) = resumed machine reply

abbrev pub answer_in : State → Step
answer_in state.Running = step.Again
answer_in (state.Awaiting awaits) = step.Again
answer_in (state.Stopped end) = step.Stopped end

abbrev pub answer_by : Option Request → State → Step
answer_by (Some request) state = step.Ask request
answer_by None state = answer_in state

-- what a step answers: what the machine asks, or how it stands
abbrev pub answer_of : Progress → Step
answer_of progress = answer_by progress.asks progress.machine.state

-- the step was made, and memory sufficed
pub record Moves (old : MachineModel) (progress : Progress) (answer : Step) (new : MachineModel) : Type 0 where
  pub before : old.is_out_of_memory ≡ false
  pub after : new.is_out_of_memory ≡ false
  pub machine : new.machine ≡ progress.machine
  pub answer_is : answer ≡ answer_of progress
