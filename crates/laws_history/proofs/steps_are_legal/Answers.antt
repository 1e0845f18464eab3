use Rattle.laws_history.proofs.Legal.{reached_legal}
use Rattle.laws_history.proofs.Worlds.{begun_reached, step_reached}
use Rattle.laws_history.proofs.steps_are_legal.Goals as goal

pub returns-clause-begins : goal.returns-clause-begins
returns-clause-begins c = begun_reached

pub returns-clause-keeps : goal.returns-clause-keeps
returns-clause-keeps c = step_reached

pub returns-clause-legal : goal.returns-clause-legal
returns-clause-legal c = reached_legal
