-- Magnitudes by their digits, and the greatest of 128 bits.
use Rattle.std.proofs.Common.{◌≡◌, ℕ, zero, suc, ◌+◌, ◌*◌, ◌^◌, ◌<◌, ◌≤◌, Bool, true, false, List, [], ◌∷◌, ◌++◌, length, take, reverse, refl, ap, ◌∙◌, arith}
use Rattle.std.proofs.Math.Nat.{pow-suc, pow-le-pow_right, mul-le-mul_left}
use Rattle.std.proofs.lemmas.Bool.{eqb-false}
use Rattle.std.proofs.lemmas.List.{reverse-append, length-reverse, length-map, length-take}
use Rattle.fdb_tuple.specs.Tuples.{greatest_magnitude}
use Rattle.fdb_tuple.specs.Spelling.{signed_byte, with_sign}
use Rattle.key_bytes.specs.Numbers.{number_low}
use Rattle.fdb_tuple.specs.Reading.{number_high, leads_with_zero}
use Rattle.fdb_tuple.proofs.ByteLists.{AreBytes, AreBytes-take, AreBytes-with_sign, number_high_below}

number_low-push : (bytes : List ℕ) (b : ℕ) → number_low (bytes ++ b ∷ []) ≡ number_low bytes + 256 ^ length bytes * b
unfolding number_low
number_low-push [] b = omega arith
number_low-push (c ∷ bytes) b = omega (arith, number_low-push bytes b, ap (λ (n : ℕ). n * b) (pow-suc 256 (length bytes)))

number_high-first : (b : ℕ) (bytes : List ℕ) → number_high (b ∷ bytes) ≡ number_high bytes + 256 ^ length bytes * b
number_high-first b bytes =
    ap number_low (reverse-append (b ∷ []) bytes) ∙ number_low-push (reverse bytes) b
    ∙ ap (λ (n : ℕ). number_high bytes + 256 ^ n * b) (length-reverse bytes)

above_zero : (b : ℕ) → (b ≡ 0 → ⊥) → 0 < b
above_zero zero h = absurd (h refl)
above_zero (suc b) h = omega arith

-- more than 16 digits, the first no 0
many_digits : (digits : List ℕ) → leads_with_zero digits ≡ false → 16 < length digits → 256 ^ 16 ≤ number_high digits
many_digits [] e lt = absurd (omega arith)
many_digits (b ∷ digits) e lt =
    let first : 0 < b = above_zero b (eqb-false b 0 e) in
    let many : 16 ≤ length digits = omega arith in
    let power : 256 ^ 16 ≤ 256 ^ length digits = pow-le-pow_right {n = 256} (omega arith) many in
    let product : 256 ^ length digits * 1 ≤ 256 ^ length digits * b = mul-le-mul_left (256 ^ length digits) first in
    omega (arith, number_high-first b digits)

greatest_below : (negative : Bool) → greatest_magnitude negative < 256 ^ 16
greatest_below false = omega arith
greatest_below true = omega arith

pub too_many_digits : (negative : Bool) (bytes : List ℕ) → leads_with_zero (with_sign negative bytes) ≡ false → 16 < length bytes
    → greatest_magnitude negative < number_high (with_sign negative bytes)
too_many_digits negative bytes e lt =
    omega (arith, greatest_below negative, many_digits (with_sign negative bytes) e (omega (arith, length-map bytes (signed_byte negative))))

greatest_above : (negative : Bool) (n : ℕ) → n < 256 ^ 8 → n ≤ greatest_magnitude negative
greatest_above false n lt = omega arith
greatest_above true n lt = omega arith

-- an integer of at most 8 bytes has 128 bits
pub few_digits : (negative : Bool) (size : ℕ) (bytes : List ℕ) → size ≤ 8 → AreBytes bytes
    → number_high (with_sign negative (take size bytes)) ≤ greatest_magnitude negative
few_digits negative size bytes le are =
    greatest_above negative (number_high (with_sign negative (take size bytes)))
    (number_high_below 8 (with_sign negative (take size bytes)) (omega (arith, length-map (take size bytes) (signed_byte negative), length-take size bytes)) (AreBytes-with_sign negative (take size bytes) (AreBytes-take size bytes are)))
