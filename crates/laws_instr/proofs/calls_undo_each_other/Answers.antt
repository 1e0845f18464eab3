use Rattle.laws_instr.proofs.Runs.{comes_back, sections_come_back}
use Rattle.laws_instr.proofs.calls_undo_each_other.Goals as goal

pub returns-clause-texts : goal.returns-clause-texts
returns-clause-texts c = comes_back

pub returns-clause-sections : goal.returns-clause-sections
returns-clause-sections c = sections_come_back
