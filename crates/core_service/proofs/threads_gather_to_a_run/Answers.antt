use Rattle.core_service.proofs.Runs.{gather_to_a_run}
use Rattle.core_service.proofs.threads_gather_to_a_run.Goals as goal

pub returns : goal.returns
returns c = gather_to_a_run
