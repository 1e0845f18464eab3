-- The old value as wide as the operand.
use Rattle.std.proofs.Common.{◌≡◌, ℕ, zero, suc, ◌-◌, ◌<◌, min, List, [], ◌∷◌, ◌++◌, length, get_or, take, replicate, refl, ap, ◌∙◌, length-take, length-append, arith}
use Rattle.std.proofs.Math.Nat.{min_comm}
use Rattle.std.proofs.lemmas.List.{take-take, take_min, take_all, get_or-replicate, length-replicate}
use Rattle.std.proofs.lemmas.List.Elements.{All-take, All-append, All-replicate}
use Rattle.key_bytes.specs.Keys.{IsByteString}
use Rattle.model_database.specs.Atomics.{fitted}

fitted-nil : (operand : List ℕ) → fitted [] operand ≡ replicate (length operand) 0
unfolding fitted
fitted-nil operand =
    let none : take {A = ℕ} (length operand) [] ≡ [] = take_all (length operand) [] (omega arith) in
    let all : length operand - 0 ≡ length operand = omega arith in
    rw (none, all) refl

fitted-cons : (a b : ℕ) (old operand : List ℕ) → fitted (a ∷ old) (b ∷ operand) ≡ a ∷ fitted old operand
unfolding fitted
fitted-cons a b old operand =
    let less : suc (length operand) - suc (length old) ≡ length operand - length old = omega arith in
    rw less refl

pub length-fitted : (old operand : List ℕ) → length (fitted old operand) ≡ length operand
unfolding fitted
length-fitted old operand = simp (length-append, length-take, length-replicate) (omega arith)

-- a byte of it is the old value's, or 00 behind its end
pub get_or-fitted : (old operand : List ℕ) (i : ℕ) → i < length operand → get_or (fitted old operand) i 0 ≡ get_or old i 0
get_or-fitted [] operand i inside = rw fitted-nil (get_or-replicate (length operand) i 0 0 inside)
get_or-fitted (a ∷ old) [] i inside = absurd (omega arith)
get_or-fitted (a ∷ old) (b ∷ operand) zero inside = rw fitted-cons refl
get_or-fitted (a ∷ old) (b ∷ operand) (suc i) inside = rw fitted-cons (get_or-fitted old operand i (omega arith))

pub fitted-IsByteString : (old operand : List ℕ) → IsByteString old → IsByteString (fitted old operand)
unfolding fitted
fitted-IsByteString old operand bytes =
    All-append (λ b. b < 256) (take (length operand) old) (replicate (length operand - length old) 0)
    (All-take (λ b. b < 256) (length operand) old bytes) (All-replicate (λ b. b < 256) (length operand - length old) 0 (omega arith))

-- the old value cut, and filled from there on
pub cut_filled : (old operand cut : List ℕ) → cut ≡ take (min (length old) (length operand)) old
    → take (length operand) cut ++ replicate (length operand - length cut) 0 ≡ fitted old operand
unfolding fitted
cut_filled old operand cut is =
    let size = length operand in
    let front : take size cut ≡ take size old = ap (take size) (is ∙ rw min_comm (take_min size old)) ∙ take-take size size old (omega arith) in
    let left : size - length cut ≡ size - length old = rw (is, length-take) (omega arith) in
    rw (front, left) refl
