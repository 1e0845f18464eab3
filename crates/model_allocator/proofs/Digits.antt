-- The number that the digits of a key say, one digit after the other.
use Rattle.std.proofs.Common.{◌≡◌, ℕ, ◌+◌, ◌*◌, ◌^◌, ◌<◌, ◌≤◌, false, List, length, get_or, take, reverse, sym, ap, ◌∙◌, arith}
use Rattle.std.proofs.lemmas.List.{length-take}
use Rattle.key_bytes.specs.Numbers.{number_low}
use Rattle.fdb_tuple.proofs.ByteLists.{AreBytes, AreBytes-take, number_high_below, number_more}
use Rattle.fdb_tuple.proofs.Digits.{with_sign-false}

-- up to seven digits there is room for one more
pub digits_fit : (digits : List ℕ) (i : ℕ) → i < length digits → length digits ≤ 8 → AreBytes digits
    → number_low (reverse (take i digits)) < 256 ^ 7
digits_fit digits i lt le bytes =
    number_high_below 7 (take i digits) (omega (arith, length-take i digits)) (AreBytes-take i digits bytes)

-- one more digit
pub digits_more : (digits : List ℕ) (i : ℕ) → i < length digits
    → number_low (reverse (take (i + 1) digits)) ≡ 256 * number_low (reverse (take i digits)) + get_or digits i 0
digits_more digits i lt =
    ap (λ bytes. number_low (reverse bytes)) (sym (with_sign-false (take (i + 1) digits)))
    ∙ number_more false digits i lt
    ∙ ap (λ bytes. 256 * number_low (reverse bytes) + get_or digits i 0) (with_sign-false (take i digits))
