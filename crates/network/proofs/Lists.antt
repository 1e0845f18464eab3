-- What holds of each item of a list, and which place a list has twice.
use Rattle.std.proofs.Common.{◌≡◌, ◌≢◌, ℕ, suc, ◌<◌, ◌≤◌, List, [], ◌∷◌, ◌++◌, length, get_or, refl, sym, arith}
use Rattle.std.specs.List.{All, AllPairs}
use mathlib.Core.List.{cons≢nil}
use native.Mathlib.Decide.{dec_le, ℕ_discrete}

pub All-rest : {X : Type 0} (P : X → Type 0) (x : X) (xs : List X) → All P (x ∷ xs) → All P xs
All-rest P x xs all k d h = all (suc k) d (omega (arith, h))

pub All-first : {X : Type 0} (P : X → Type 0) (x : X) (xs : List X) → All P (x ∷ xs) → P x
All-first P x xs all = all 0 x (omega arith)

pub left_nil : {A : Type 0} (a b : List A) → a ++ b ≡ [] → a ≡ []
left_nil [] b e = refl
left_nil (x ∷ a) b e = absurd (cons≢nil e)

-- where no two items have one value, a value stands at one place
pub one_place : {X A : Type 0} (value : X → A) (xs : List X) (i j : ℕ) (d : X) → AllPairs (λ x y. value x ≢ value y) xs
    → i < length xs → j < length xs → value (get_or xs i d) ≡ value (get_or xs j d) → i ≡ j
one_place value xs i j d apart within within' same = decided (ℕ_discrete i j) (dec_le i j)
  where
    decided : Dec (i ≡ j) → Dec (i ≤ j) → i ≡ j
    decided (yes e) le = e
    decided (no n) (yes le) = absurd (apart i j d (omega (arith, le, n)) within' same)
    decided (no n) (no nle) = absurd (apart j i d (omega (arith, nle)) within (sym same))
