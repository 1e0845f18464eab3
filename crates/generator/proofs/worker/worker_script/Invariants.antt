use Rattle.std.proofs.Common.{◌≡◌, ◌++◌, map}
use Rattle.generator.specs.Generated.{packed_instruction, opening, rounds}
use Rattle.generator.proofs.worker.worker_script.Given as goal

abbrev pub invariant-loop-round : goal.invariant-loop-round
invariant-loop-round l = l.script ≡ map packed_instruction (opening l.worker ++ rounds l.worker l.round)
