-- A step answers Again only where an instruction was finished.
use Rattle.std.proofs.Common.{◌≡◌, ◌+◌, Bool, true, false, Option, Some, None, Result, Ok, Err, refl, sym, ap, ◌∙◌}
use Rattle.std.specs.Prelude.{slice_get, IfOk}
use Rattle.fdb_calls.specs.declared.Reply.{Reply}
use Rattle.model_machine.specs.declared.State.{State}
use Rattle.model_machine.specs.declared.State.TheVariants as state
use Rattle.model_machine.specs.Machines.{Machine, Progress, Act, Does, Stops, Asks, silent, acted, next_act, replied_act}
use Rattle.model_machine.specs.Machines.{advance_by, advance, resumed, resumed_by}
use Rattle.stack_machine.specs.MachineModel.{MachineModel}
use Rattle.stack_machine.specs.Steps.{IsDue, MayStep, moved, answer_of, Moves}
use Rattle.stack_machine.specs.declared.machine.Step.{Step}
use Rattle.stack_machine.specs.declared.machine.Step.TheVariants as step

abbrev FinishesAtAgain : Machine → Progress → Type 0
FinishesAtAgain machine progress = answer_of progress ≡ step.Again → progress.machine.next ≡ machine.next + 1

act_again : (machine : Machine) (act : Act) → FinishesAtAgain machine (acted machine act)
act_again machine (Does registers) e = refl
act_again machine (Stops registers end) e = absurd cc
act_again machine (Asks registers request awaits) e = absurd cc

advance_again : (state : State) (machine : Machine) → machine.state ≡ state → IsDue state None
    → FinishesAtAgain machine (advance_by state machine)
advance_again state.Running machine is due e = act_again machine (next_act machine (slice_get machine.instructions machine.next)) e
advance_again (state.Awaiting awaits) machine is due e = absurd due
advance_again (state.Stopped end) machine is due e =
    let stopped : answer_of (silent machine) ≡ step.Stopped end = ap (λ s. answer_of (silent (record machine { state = s }))) is in
    absurd (let k : step.Again ≡ step.Stopped end = sym e ∙ stopped in cc)

resumed_again : (state : State) (machine : Machine) (given : Reply) → IsDue state (Some given)
    → FinishesAtAgain machine (resumed_by state machine given)
resumed_again state.Running machine given due e = absurd due
resumed_again (state.Awaiting awaits) machine given due e =
    act_again machine (replied_act awaits machine given) e
resumed_again (state.Stopped end) machine given due e = absurd due

moved_again : (machine : Machine) (given : Option Reply) → IsDue machine.state given → FinishesAtAgain machine (moved machine given)
unfolding advance resumed
moved_again machine None due e = advance_again machine.state machine refl due e
moved_again machine (Some given) due e = resumed_again machine.state machine given due e

due_of : (out : Bool) (state : State) (given : Option Reply) → out ≡ false → MayStep out state given → IsDue state given
due_of true state given e may = absurd cc
due_of false state given e may = may

-- from what a step ensures where it is Ok
pub step_again : {E : Type 0} (old new : MachineModel) (given : Option Reply) (result : Result Step E)
    → MayStep old.is_out_of_memory old.machine.state given
    → IfOk result (λ answer. Moves old (moved old.machine given) answer new) → result ≡ Ok step.Again
    → new.machine.next ≡ old.machine.next + 1
step_again old new given (Ok answer) may moves e =
    let again : answer ≡ step.Again = cc in
    ap (λ (m : Machine). m.next) moves.machine
    ∙ moved_again old.machine given (due_of old.is_out_of_memory old.machine.state given moves.before may) (sym moves.answer_is ∙ again)
step_again old new given (Err e') may moves e = absurd cc
