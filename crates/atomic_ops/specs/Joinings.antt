-- What joins two bytes, for each way to join their bits.
use Rattle.std.specs.Prelude.{ℕ, bit_and, bit_or, bit_xor}
use Rattle.atomic_ops.specs.declared.bits.Joining.{Joining}
use Rattle.atomic_ops.specs.declared.bits.Joining.TheVariants as joining

abbrev pub joined : Joining → ℕ → ℕ → ℕ
joined joining.And = bit_and
joined joining.Or = bit_or
joined joining.Xor = bit_xor
