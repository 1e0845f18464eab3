use Rattle.future_cell.specs.Cells.{Peeked}
use Rattle.future_cell.proofs.wake.Waiter+V+Wake.watch.Given as goal

abbrev pub invariant-loop-looks : goal.invariant-loop-looks
invariant-loop-looks g l = Peeked l.initial.self l.self
