use Rattle.std.proofs.Common.{◌≡◌, ◌++◌}
use Rattle.generator.specs.Generated.{busy_pairs}
use Rattle.generator.proofs.pairs.add_busy_keys.Given as goal

abbrev pub invariant-loop-before : goal.invariant-loop-before
invariant-loop-before l = l.pairs ≡ l.initial.pairs ++ busy_pairs l.before
