use Rattle.std.proofs.Common.{◌≡◌, take, reverse}
use Rattle.key_bytes.specs.Numbers.{number_low}
use Rattle.recipe_layers.proofs.keys.few_digits.Given as goal

-- the number of the digits so far
abbrev pub invariant-loop-digit : goal.invariant-loop-digit
invariant-loop-digit l = l.number ≡ number_low (reverse (take l.digit-index l.digits))
