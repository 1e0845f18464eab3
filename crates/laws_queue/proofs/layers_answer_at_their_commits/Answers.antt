use Rattle.laws_queue.proofs.Answered.{calls_at_commit, none_popped}
use Rattle.laws_queue.proofs.layers_answer_at_their_commits.Goals as goal

pub returns-clause-calls : goal.returns-clause-calls
returns-clause-calls c = calls_at_commit

pub returns-clause-none : goal.returns-clause-none
returns-clause-none c = none_popped
