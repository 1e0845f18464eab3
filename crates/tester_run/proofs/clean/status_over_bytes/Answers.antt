use Rattle.tester_run.proofs.Tops.{no_rise}
use Rattle.tester_run.proofs.clean.status_over_bytes.Goals as goal

pub returns-clause-read : goal.returns-clause-read
returns-clause-read g c = λ e. no_rise (c.tester-outcome.ensures.read e)

pub returns-clause-write : goal.returns-clause-write
returns-clause-write g c = λ e. no_rise (c.tester-outcome.ensures.write e)
