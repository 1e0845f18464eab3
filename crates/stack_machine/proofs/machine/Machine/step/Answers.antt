use Rattle.stack_machine.proofs.Again.{step_again}
use Rattle.stack_machine.proofs.machine.Machine.step.Goals as goal

pub returns-else-is_err-clause-again : goal.returns-else-is_err-clause-again
returns-else-is_err-clause-again c = step_again c.args.self.now c.move_on-step.new.self _ c.move_on-step.result c.requires c.move_on-step.ensures
