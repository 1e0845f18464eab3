-- Numbers as byte strings.
use Rattle.std.specs.Prelude.{ℕ, ◌+◌, ◌*◌, List, [], ◌∷◌}

-- the number that bytes write, the lowest byte first
unfoldable pub number_low : List ℕ → ℕ
number_low [] = 0
number_low (byte ∷ bytes) = byte + 256 * number_low bytes
