use Rattle.std.proofs.Common.{◌≡◌, map}
use Rattle.generator.specs.Generated.{packed_instruction, starts}
use Rattle.generator.proofs.worker.main_script.Given as goal

abbrev pub invariant-loop-before : goal.invariant-loop-before
invariant-loop-before l = l.script ≡ map packed_instruction (starts l.before)
