-- A reply that no poll awaits is used by what is awaited.
use Rattle.std.proofs.Common.{◌≡◌, ℕ, List, refl, sym, ap, subst, ◌∙◌}
use Rattle.fdb_calls.specs.declared.Reply.{Reply}
use Rattle.model_machine.specs.declared.Awaits.{Awaits}
use Rattle.model_machine.specs.declared.Awaits.TheVariants as awaits
use Rattle.model_machine.specs.declared.State.TheVariants as state
use Rattle.model_machine.specs.declared.Wait.{Wait}
use Rattle.model_machine.specs.Machines.{Machine, Progress, Registers, Act, Does, Stops, Asks, acted, replied_act, resumed, resumed_by, use_of, used}
use Rattle.machine_registers.specs.Acts.{act_with}
use Rattle.machine_registers.specs.declared.act.Act.{Act as Answer}
use Rattle.stack_machine.specs.declared.machine.Step.{Step}
use Rattle.stack_machine.specs.MachineModel.{MachineModel}
use Rattle.stack_machine.specs.Steps.{Moves, answer_of}

-- what an act makes of a machine doesn't depend on the registers that stood before
acted_registers : (machine : Machine) (registers : Registers) (act : Act)
    → acted (record machine { registers = registers }) act ≡ acted machine act
acted_registers machine registers (Does left) = refl
acted_registers machine registers (Stops left end) = refl
acted_registers machine registers (Asks left request awaiting) = refl

-- what came of a reply to what is awaited, done by the machine with the registers that it left, is what the machine makes of the reply
resumed_as : (old : MachineModel) (registers : Registers) (act : Act) (awaiting its : Awaits) (given : Reply) (answer : Step) (new : MachineModel)
    → old.machine.state ≡ state.Awaiting awaiting → awaiting ≡ its → act ≡ replied_act its old.machine given
    → Moves (record old { machine = record old.machine { registers = registers } }) (acted (record old.machine { registers = registers }) act) answer new
    → Moves old (resumed old.machine given) answer new
unfolding resumed
resumed_as old registers act awaiting its given answer new stands exact is moves = record {
  before = moves.before;
  after = moves.after;
  machine = moves.machine ∙ ap (λ (progress : Progress). progress.machine) same;
  answer_is = moves.answer_is ∙ ap answer_of same;
}
  where
    same : acted (record old.machine { registers = registers }) act ≡ resumed_by old.machine.state old.machine given
    same = acted_registers old.machine registers act
        ∙ ap (acted old.machine) (is ∙ sym (ap (λ awaits. replied_act awaits old.machine given) exact))
        ∙ sym (ap (λ its. resumed_by its old.machine given) stands)

plain_act : (awaiting : Awaits) (machine : Machine) (given : Reply)
    → ((wait : Wait) → awaiting ≡ awaits.Stamp wait → ⊥)
    → ((prefix : List ℕ) (wait : Wait) → awaiting ≡ awaits.LoggedStamp prefix wait → ⊥)
    → ((prefix : List ℕ) (polled : ℕ) → awaiting ≡ awaits.Empty prefix polled → ⊥)
    → replied_act awaiting machine given ≡ used machine.next machine.registers (use_of awaiting given)
plain_act (awaits.Stamp wait) machine given polls logs watches = absurd (polls wait refl)
plain_act (awaits.LoggedStamp prefix wait) machine given polls logs watches = absurd (logs prefix wait refl)
plain_act (awaits.Empty prefix polled) machine given polls logs watches = absurd (watches prefix polled refl)
plain_act awaiting machine given polls logs watches = refl

-- what is awaited came to an answer, by a machine with the registers that it left
pub record Came (old left : MachineModel) (awaiting : Awaits) (given : Reply) (answer : Answer) : Type 0 where
  pub registers : Registers
  pub its : Awaits
  pub exact : awaiting ≡ its
  pub stands : left ≡ record old { machine = record old.machine { registers = registers } }
  pub is : act_with registers answer ≡ replied_act its old.machine given

-- what that machine makes of it is what the machine makes of the reply
pub resumed_by_answer : (old left : MachineModel) (awaiting : Awaits) (given : Reply) (its : Answer) (answer : Step) (new : MachineModel)
    → old.machine.state ≡ state.Awaiting awaiting → Came old left awaiting given its
    → Moves left (acted left.machine (act_with left.machine.registers its)) answer new
    → Moves old (resumed old.machine given) answer new
resumed_by_answer old left awaiting given its answer new stands came moves =
    resumed_as old came.registers (act_with came.registers its) awaiting came.its given answer new stands came.exact came.is
    (subst (λ (left : MachineModel). Moves left (acted left.machine (act_with left.machine.registers its)) answer new) came.stands moves)

-- a reply that no poll awaits is used
pub used_plainly : (awaiting : Awaits) (machine : Machine) (given : Reply) (act : Act)
    → ((wait : Wait) → awaiting ≡ awaits.Stamp wait → ⊥)
    → ((prefix : List ℕ) (wait : Wait) → awaiting ≡ awaits.LoggedStamp prefix wait → ⊥)
    → ((prefix : List ℕ) (polled : ℕ) → awaiting ≡ awaits.Empty prefix polled → ⊥)
    → act ≡ used machine.next machine.registers (use_of awaiting given) → act ≡ replied_act awaiting machine given
used_plainly awaiting machine given act polls logs watches is = is ∙ sym (plain_act awaiting machine given polls logs watches)
