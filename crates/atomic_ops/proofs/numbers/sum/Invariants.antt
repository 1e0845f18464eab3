use Rattle.model_database.specs.Atomics.{fitted}
use Rattle.atomic_ops.proofs.Little.{IsSummed}
use Rattle.atomic_ops.proofs.numbers.sum.Given as goal

abbrev pub invariant-loop-place : goal.invariant-loop-place
invariant-loop-place l = IsSummed (fitted l.old l.operand) l.operand l.place l.carry l.sum.items
