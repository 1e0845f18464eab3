-- Byte strings with no 00, and what may follow the 00 that ends a string.
use Rattle.std.specs.Prelude.{ℕ, ◌≢◌, List, [], ◌∷◌}
use Rattle.std.specs.List.{AllByRecursion}

abbrev pub HasNoZero : List ℕ → Type 0
HasNoZero bytes = AllByRecursion (λ b. b ≢ 0) bytes

-- no FF stands at the front
abbrev pub IsNoEscape : List ℕ → Type 0
IsNoEscape [] = Unit {0}
IsNoEscape (b ∷ bytes) = b ≢ 0xFF
