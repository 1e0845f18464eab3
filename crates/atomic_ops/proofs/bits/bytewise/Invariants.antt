use Rattle.std.proofs.Common.{◌≡◌, take}
use Rattle.model_database.specs.Atomics.{fitted, bytewise}
use Rattle.atomic_ops.specs.Joinings.{joined}
use Rattle.atomic_ops.proofs.bits.bytewise.Given as goal

-- the bytes so far are joined
abbrev pub invariant-loop-place : goal.invariant-loop-place
invariant-loop-place l = l.bits.items ≡ take l.place (bytewise (joined l.joining) (fitted l.old l.operand) l.operand)
