use Rattle.std.proofs.Common.{◌≡◌, ◌++◌}
use Rattle.generator.specs.Generated.{worker_pairs}
use Rattle.generator.proofs.pairs.add_workers.Given as goal

abbrev pub invariant-loop-before : goal.invariant-loop-before
invariant-loop-before l = l.pairs ≡ l.initial.pairs ++ worker_pairs l.before
