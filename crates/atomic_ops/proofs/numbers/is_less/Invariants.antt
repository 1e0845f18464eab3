use Rattle.std.proofs.Common.{◌≡◌, drop}
use Rattle.model_database.specs.Atomics.{fitted}
use Rattle.atomic_ops.proofs.numbers.is_less.Given as goal

-- the bytes from this place on are the same
abbrev pub invariant-loop-place : goal.invariant-loop-place
invariant-loop-place l = drop l.place (fitted l.old l.operand) ≡ drop l.place l.operand
