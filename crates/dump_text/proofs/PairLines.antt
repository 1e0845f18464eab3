-- The line of a pair, part by part.
use Rattle.std.proofs.Common.{◌≡◌, ℕ, List, [], ◌∷◌, ◌++◌, refl, ap}
use Rattle.model_lines.specs.Printing.{separator, printable, pair_line}

in_one : (key value : List ℕ) → (((key ++ 92 ∷ []) ++ 61 ∷ []) ++ value) ++ 10 ∷ [] ≡ (key ++ separator ++ value) ++ 10 ∷ []
in_one [] value = refl
in_one (byte ∷ key) value = ap (λ (x : List ℕ). byte ∷ x) (in_one key value)

-- the parts that are put one behind the other
pub pair_parts : (key value : List ℕ)
    → ((((((75 ∷ []) ++ 32 ∷ []) ++ printable key) ++ 92 ∷ []) ++ 61 ∷ []) ++ printable value) ++ 10 ∷ [] ≡ pair_line key value
unfolding pair_line
pair_parts key value = ap (λ (x : List ℕ). 75 ∷ 32 ∷ x) (in_one (printable key) (printable value))
