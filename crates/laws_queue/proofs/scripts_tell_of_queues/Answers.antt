use Rattle.laws_queue.proofs.Calls.{calls_go_on}
use Rattle.laws_queue.proofs.Runs.{scripts_begin, scripts_kept}
use Rattle.laws_queue.proofs.scripts_tell_of_queues.Goals as goal

pub returns-clause-calls : goal.returns-clause-calls
returns-clause-calls c = calls_go_on

pub returns-clause-begins : goal.returns-clause-begins
returns-clause-begins c = scripts_begin

pub returns-clause-keeps : goal.returns-clause-keeps
returns-clause-keeps c = scripts_kept
