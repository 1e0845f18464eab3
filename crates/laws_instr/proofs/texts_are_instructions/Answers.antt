use Rattle.laws_instr.proofs.MachineNames.{names_are}
use Rattle.laws_instr.proofs.Runs.{machine_takes}
use Rattle.laws_instr.proofs.texts_are_instructions.Goals as goal

pub returns-clause-names : goal.returns-clause-names
returns-clause-names c = names_are

pub returns-clause-instructions : goal.returns-clause-instructions
returns-clause-instructions c = machine_takes
