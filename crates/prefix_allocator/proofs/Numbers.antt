-- The packed tuples of the numbers in an allocator's keys.
use Rattle.std.proofs.Common.{◌≡◌, ℕ, ◌+◌, ◌-◌, ◌^◌, ◌<◌, ◌≤◌, true, false, cond, List, [], ◌∷◌, ◌++◌, length, take, drop, refl, sym, ap, ◌∙◌, arith, append-nil}
use Rattle.std.specs.Prelude.{nat_le}
use Rattle.std.specs.Int.{w128, to_be_bytes}
use Rattle.std.proofs.lemmas.Bool.{le-leb, le-ltb}
use Rattle.std.proofs.lemmas.List.{length-reverse, take_all}
use Rattle.fdb_tuple.specs.Spelling.{least_bytes, low_first, signed_spelled, int_code, with_sign}
use Rattle.fdb_tuple.proofs.Digits.{length-low_first_le, with_sign-false}
use Rattle.fdb_tuple.proofs.Sizes.{drop-signed_bytes}
use Rattle.model_allocator.specs.Counters.{packed}

pub zero_packed : 20 ∷ [] ≡ packed 0
unfolding least_bytes low_first signed_spelled
zero_packed = refl

pub one_packed : 21 ∷ 1 ∷ [] ≡ packed 1
unfolding least_bytes low_first signed_spelled
one_packed = refl

-- a number of 64 bits has at most 8 least bytes
least_bytes_le : (number : ℕ) → number < 2 ^ 64 → length (least_bytes number) ≤ 8
unfolding least_bytes
least_bytes_le number wide = omega (arith, length-reverse (low_first 16 number), length-low_first_le 16 8 number (omega arith))

-- the code of a number of 64 bits, and of its 16 bytes those behind the zeros
pub number_packed : (number skipped : ℕ) (bytes : List ℕ) → number < 2 ^ 64 → skipped + length (least_bytes number) ≡ 16
    → bytes ≡ to_be_bytes w128 number
    → packed number ≡ (20 + (16 - skipped)) ∷ take (16 - skipped) (drop skipped bytes)
unfolding signed_spelled
number_packed number skipped bytes wide e is =
    let least = least_bytes number in
    let size : 16 - skipped ≡ length least = omega arith in
    let few : nat_le (length least) 8 ≡ true = le-leb (length least) 8 (least_bytes_le number wide) in
    let left : drop skipped bytes ≡ least =
    ap (drop skipped) (is ∙ sym (with_sign-false (to_be_bytes w128 number)))
    ∙ drop-signed_bytes false number skipped e ∙ with_sign-false least in
    ap (λ negative. signed_spelled negative least ++ []) (le-ltb number 0 (omega arith))
    ∙ append-nil (int_code false (length least) ++ with_sign false least)
    ∙ ap (λ few. cond few ((20 + length least) ∷ []) (29 ∷ length least ∷ []) ++ with_sign false least) few
    ∙ rw (size, left, take_all (length least) least (omega arith)) (ap (λ bytes. (20 + length least) ∷ bytes) (with_sign-false least))
