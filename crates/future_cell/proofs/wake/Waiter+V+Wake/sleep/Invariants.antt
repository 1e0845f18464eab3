use Rattle.future_cell.specs.Cells.{Peeked}
use Rattle.future_cell.proofs.wake.Waiter+V+Wake.sleep.Given as goal

abbrev pub invariant-loop : goal.invariant-loop
invariant-loop g l = Peeked l.initial.self l.self
