-- How many least bytes a number of 128 bits has.
use Rattle.std.proofs.Common.{◌≡◌, ℕ, zero, suc, ◌+◌, ◌-◌, ◌*◌, ◌/◌, ◌^◌, ◌<◌, ◌≤◌, Bool, List, ◌++◌, length, map, take, drop, reverse, refl, sym, ap, ◌∙◌, arith}
use Rattle.std.specs.Int.{w128, to_be_bytes, bytes_high_first}
use Rattle.std.specs.Int.Count.{count_leading_zeros, leading_of_zero}
use Rattle.std.proofs.Math.Nat.{pow-suc, pow-le-pow_right}
use Rattle.std.proofs.lemmas.Nat.{leading_top, pow-add}
use Rattle.std.proofs.lemmas.List.{length-reverse, length-map, drop-map, take_all}
use Rattle.fdb_tuple.specs.Spelling.{low_first, least_bytes, signed_byte, with_sign, int_code, signed_spelled}
use Rattle.fdb_tuple.proofs.Digits.{length-low_first_le, length-low_first_ge, high_first_least, drop-high_first}

pow_256 : (k : ℕ) → 256 ^ k ≡ 2 ^ (8 * k)
pow_256 zero = refl
pow_256 (suc k) =
    let eight : 8 * suc k ≡ 8 * k + 8 = omega arith in
    rw (eight, pow-add 2 (8 * k) 8, pow-suc 256 k) (ap (λ (n : ℕ). n * 256) (pow_256 k))

-- between two neighbouring powers of 2
size_between : (j n : ℕ) → j < 128 → 2 ^ j ≤ n → n < 2 ^ suc j → length (low_first 16 n) ≡ suc (j / 8)
size_between j n lt low high =
    let k = j / 8 in
    let under : 2 ^ (8 * k) ≤ 2 ^ j = pow-le-pow_right (omega arith) (omega arith) in
    let over : 2 ^ suc j ≤ 2 ^ (8 * suc k) = pow-le-pow_right (omega arith) (omega arith) in
    let most = length-low_first_le 16 (suc k) n (omega (arith, pow_256 (suc k))) in
    let least = length-low_first_ge 16 k n (omega arith) (omega (arith, pow_256 k)) in
    omega (arith, most, least)

pub zeros_and_size : (n : ℕ) → n < 2 ^ 128 → count_leading_zeros 128 n / 8 + length (least_bytes n) ≡ 16
unfolding least_bytes
zeros_and_size zero lt = rw leading_of_zero (omega (arith, length-reverse (low_first 16 0), length-low_first_le 16 0 0 (omega arith)))
zeros_and_size (suc n) lt =
    let top = leading_top 128 (suc n) (omega arith) lt in
    let size = size_between top.0 (suc n) (omega (arith, top.1)) top.2 top.3 in
    omega (arith, top.1, size, length-reverse (low_first 16 (suc n)))

drop-bytes_high_first : (n most skipped size : ℕ) → skipped + length (low_first most n) ≡ size
    → drop skipped (bytes_high_first size n) ≡ reverse (low_first most n)
drop-bytes_high_first n most skipped size e =
    ap (λ (k : ℕ). drop skipped (bytes_high_first k n)) (sym e)
    ∙ drop-high_first skipped (length (low_first most n)) n
    ∙ high_first_least most n

-- the bytes that are left when the zeros in front are dropped
pub drop-signed_bytes : (negative : Bool) (n skipped : ℕ) → skipped + length (least_bytes n) ≡ 16
    → drop skipped (with_sign negative (to_be_bytes w128 n)) ≡ with_sign negative (least_bytes n)
unfolding least_bytes
drop-signed_bytes negative n skipped e =
    drop-map (signed_byte negative) skipped (to_be_bytes w128 n)
    ∙ ap (map (signed_byte negative)) (drop-bytes_high_first n 16 skipped 16 (omega (arith, length-reverse (low_first 16 n))))

-- the code and the bytes that are left
pub int_written : (negative : Bool) (n skipped : ℕ) (bytes : List ℕ) → skipped + length (least_bytes n) ≡ 16
    → bytes ≡ with_sign negative (to_be_bytes w128 n)
    → int_code negative (16 - skipped) ++ take (16 - skipped) (drop skipped bytes) ≡ signed_spelled negative (least_bytes n)
unfolding signed_spelled
int_written negative n skipped bytes e is =
    let size : 16 - skipped ≡ length (least_bytes n) = omega arith in
    let rest : drop skipped bytes ≡ with_sign negative (least_bytes n) = ap (drop skipped) is ∙ drop-signed_bytes negative n skipped e in
    let whole : take (length (least_bytes n)) (with_sign negative (least_bytes n)) ≡ with_sign negative (least_bytes n) = take_all (length (least_bytes n)) (with_sign negative (least_bytes n)) (omega (arith, length-map (least_bytes n) (signed_byte negative))) in
    rw (size, rest, whole) refl
