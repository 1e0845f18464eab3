-- The atomic operations that have one name under every API version.
use Rattle.std.specs.Prelude.{Bool, true, false}
use Rattle.model_database.specs.declared.AtomicOp.{AtomicOp}
use Rattle.model_database.specs.declared.AtomicOp.TheVariants as atomic

abbrev pub is_named : AtomicOp → Bool
is_named atomic.Add = true
is_named atomic.BitOr = true
is_named atomic.BitXor = true
is_named atomic.AppendIfFits = true
is_named atomic.Max = true
is_named atomic.ByteMin = true
is_named atomic.ByteMax = true
is_named atomic.CompareAndClear = true
is_named _ = false
