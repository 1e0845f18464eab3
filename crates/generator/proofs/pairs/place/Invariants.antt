use Rattle.std.proofs.Common.{◌≡◌, ◌++◌, drop}
use Rattle.generator.specs.Generated.{placed}
use Rattle.generator.proofs.pairs.place.Given as goal

abbrev pub invariant-loop-at : goal.invariant-loop-at
invariant-loop-at l = l.pairs ++ placed l.prefix l.at (drop l.at l.script) ≡ l.initial.pairs ++ placed l.prefix 0 l.script
