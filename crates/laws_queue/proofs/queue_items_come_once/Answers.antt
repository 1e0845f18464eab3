use Rattle.laws_queue.proofs.Commits.{items_once, legal_once}
use Rattle.laws_queue.proofs.Runs.{runs_once}
use Rattle.laws_queue.proofs.queue_items_come_once.Goals as goal

pub returns-clause-commits : goal.returns-clause-commits
returns-clause-commits c = items_once

pub returns-clause-histories : goal.returns-clause-histories
returns-clause-histories c = legal_once

pub returns-clause-runs : goal.returns-clause-runs
returns-clause-runs c = runs_once
