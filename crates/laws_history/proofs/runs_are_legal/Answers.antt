use Rattle.laws_history.proofs.Legal.{runs_legal}
use Rattle.laws_history.proofs.runs_are_legal.Goals as goal

pub returns : goal.returns
returns c = runs_legal
