use Rattle.laws_queue.proofs.Counted.{counts_follow, legal_counts_follow, runs_counts_follow}
use Rattle.laws_queue.proofs.Counting.{count_calls_go_on}
use Rattle.laws_queue.proofs.counts_follow_commits.Goals as goal

pub returns-clause-commits : goal.returns-clause-commits
returns-clause-commits c = counts_follow

pub returns-clause-histories : goal.returns-clause-histories
returns-clause-histories c = legal_counts_follow

pub returns-clause-runs : goal.returns-clause-runs
returns-clause-runs c = runs_counts_follow

pub returns-clause-calls : goal.returns-clause-calls
returns-clause-calls c = count_calls_go_on
