use Rattle.laws_threads.proofs.Turns.{one_order}
use Rattle.laws_threads.proofs.by_turns.turns_are_one.Goals as goal

pub returns : goal.returns
returns c = one_order
