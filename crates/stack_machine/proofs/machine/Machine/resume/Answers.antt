use Rattle.std.proofs.Common.{◌≡◌, ◌∙◌, IfOk, Ok, Option, Result, ap, refl, sym, subst}
use Rattle.std.specs.declared.alloc.AllocError.{AllocError}
use Rattle.model_machine.specs.declared.Awaits.TheVariants as awaits
use Rattle.model_machine.specs.declared.Instruction.{Instruction}
use Rattle.model_machine.specs.Machines.{act_of, after_poll, instruction_at, resumed}
use Rattle.stack_machine.specs.MachineModel.{MachineModel}
use Rattle.stack_machine.specs.Steps.{Moves}
use Rattle.machine_registers.specs.declared.act.Act.{Act as Answer}
use Rattle.stack_machine.specs.contracts.machine.Machine as machine
use Rattle.stack_machine.proofs.Replied.{Came, resumed_by_answer, used_plainly}
use Rattle.stack_machine.proofs.machine.Machine.resume.Goals as goal
use Rattle.stack_machine.proofs.machine.Machine.resume.Goals.{in-Stamp+in_ok-instruction-in-Stamp, in-LoggedStamp, in-Empty, in_default}

-- what holds of each answer holds of the one that came
of_answer : (P : Answer → Type 0) (came its : Result Answer AllocError) (answer : Answer) → came ≡ its → came ≡ Ok answer → IfOk its P → P answer
of_answer P came its answer same ok holds = subst (λ (came : Result Answer AllocError). IfOk came P) (sym same ∙ ok) holds

pub returns : goal.returns
returns c =
    let old : MachineModel = machine.the_view c.self.inside in let given = c.args.reply.now in
    let came : Came old c.match-awaits.self c.in-Awaiting.awaits given c.in_ok-act.field-0 =
    elim c.match-awaits.branch [
      | in-Stamp+in_ok-instruction-in-Stamp w ↦ record {
        registers = w.resume_poll-act.new.registers;
        its = _;
        exact = w.in-Stamp.is;
        stands = w.self-is;
        is = of_answer _ _ _ _ w.act-is c.in_ok-act.was w.resume_poll-act.ensures
            ∙ ap (λ (instruction : Option Instruction). after_poll old.machine.options.polls old.machine.next old.machine.registers w.in-Stamp.wait
            (λ registers. act_of old.machine.next registers instruction) awaits.Stamp given)
            (w.in_ok-instruction-in-Stamp.ensures.is ∙ ap (λ (old : MachineModel). instruction_at old.machine) (sym c.self.view_is));
      }
      | in-LoggedStamp w ↦ record {
        registers = w.resume_log-act.new.registers;
        its = _;
        exact = w.in-LoggedStamp.is;
        stands = w.self-is;
        is = of_answer _ _ _ _ w.act-is c.in_ok-act.was w.resume_log-act.ensures;
      }
      | in-Empty w ↦ record {
        registers = w.resume_watch-act.new.registers;
        its = _;
        exact = w.in-Empty.is;
        stands = w.self-is;
        is = of_answer _ _ _ _ w.act-is c.in_ok-act.was w.resume_watch-act.ensures;
      }
      | in_default w ↦ record {
        registers = w.use_reply-act.new.registers;
        its = c.in-Awaiting.awaits;
        exact = refl;
        stands = w.self-is;
        is = used_plainly c.in-Awaiting.awaits old.machine given _ w.in_default.not-Stamp w.in_default.not-LoggedStamp w.in_default.not-Empty
            (of_answer _ _ _ _ w.act-is c.in_ok-act.was w.use_reply-act.ensures);
      }
    ] in
    subst (λ (old : MachineModel). Moves old (resumed old.machine given) c.act.result c.act.new.self) c.self.view_is
    (resumed_by_answer old c.match-awaits.self c.in-Awaiting.awaits given c.in_ok-act.field-0 c.act.result c.act.new.self c.in-Awaiting.is
    came c.act.ensures)
