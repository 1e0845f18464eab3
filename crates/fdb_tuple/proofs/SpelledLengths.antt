-- How many bytes spellings have.
use Rattle.std.proofs.Common.{◌≡◌, ◌==◌, ◌<◌, ◌≤◌, ℕ, zero, suc, ◌+◌, Bool, true, false, List, [], ◌∷◌, length, count_by, cond, refl, arith, length-append}
use Rattle.std.proofs.lemmas.Bool.{le-leb, lt-leb, ne_eqb}
use Rattle.std.proofs.lemmas.List.{length-map}
use Rattle.std.proofs.lemmas.List.Sums.{sum_by-cons}
use Rattle.fdb_tuple.specs.Spelling.{escaped, string_spelled, int_code, signed_byte, with_sign, signed_spelled}

abbrev is_zero : ℕ → ℕ
is_zero b = cond (b == 0) 1 0

is_zero-suc : (b : ℕ) → is_zero (suc b) ≡ 0
is_zero-suc b = rw (ne_eqb (suc b) 0 (λ e. omega arith)) refl

length-escaped : (bytes : List ℕ) → length (escaped bytes) ≡ length bytes + count_by (λ b. b == 0) bytes
length-escaped [] = refl
length-escaped (zero ∷ bytes) = omega (arith, length-escaped bytes, sum_by-cons is_zero zero bytes)
length-escaped (suc b ∷ bytes) = omega (arith, length-escaped bytes, sum_by-cons is_zero (suc b) bytes, is_zero-suc b)

pub length-string_spelled : (bytes : List ℕ) → length (string_spelled bytes) ≡ length bytes + count_by (λ b. b == 0) bytes + 1
length-string_spelled bytes = omega (arith, length-append (escaped bytes) (0 ∷ []), length-escaped bytes)

length-int_code_short : (negative : Bool) (size : ℕ) → size ≤ 8 → length (int_code negative size) ≡ 1
length-int_code_short false size le = rw (le-leb size 8 le) refl
length-int_code_short true size le = rw (le-leb size 8 le) refl

length-int_code_long : (negative : Bool) (size : ℕ) → 8 < size → length (int_code negative size) ≡ 2
length-int_code_long false size lt = rw (lt-leb size 8 lt) refl
length-int_code_long true size lt = rw (lt-leb size 8 lt) refl

pub length-short_spelled : (negative : Bool) (bytes : List ℕ) → length bytes ≤ 8 → length (signed_spelled negative bytes) ≡ 1 + length bytes
unfolding signed_spelled
length-short_spelled negative bytes le =
    omega (arith, length-append (int_code negative (length bytes)) (with_sign negative bytes), length-int_code_short negative (length bytes) le, length-map bytes (signed_byte negative))

pub length-long_spelled : (negative : Bool) (bytes : List ℕ) → 8 < length bytes → length (signed_spelled negative bytes) ≡ 2 + length bytes
unfolding signed_spelled
length-long_spelled negative bytes lt =
    omega (arith, length-append (int_code negative (length bytes)) (with_sign negative bytes), length-int_code_long negative (length bytes) lt, length-map bytes (signed_byte negative))
