use Rattle.std.specs.List.{All}
use Rattle.machine_threads.proofs.Settling.{IsAnswered}
use Rattle.machine_threads.proofs.closing.settle_all.Given as goal

-- the waiters so far have shown what was set
abbrev pub invariant-loop-receipt : goal.invariant-loop-receipt
invariant-loop-receipt l = All IsAnswered l.yielded
