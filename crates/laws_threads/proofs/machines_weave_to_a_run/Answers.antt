use Rattle.laws_threads.proofs.Weaving.{weave_to_a_run, weave_to_a_whole_run}
use Rattle.laws_threads.proofs.machines_weave_to_a_run.Goals as goal

pub returns-clause-run : goal.returns-clause-run
returns-clause-run c = weave_to_a_run

pub returns-clause-whole : goal.returns-clause-whole
returns-clause-whole c = weave_to_a_whole_run
