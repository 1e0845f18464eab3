-- How the key of a counter is read.
use Rattle.std.proofs.Common.{◌≡◌, ℕ, ◌+◌, ◌<◌, ◌≤◌, true, false, cond, ◌&&◌, List, [], ◌++◌, length, drop, reverse, Option, Some, None, refl, sym, ap, ◌∙◌, arith}
use Rattle.std.specs.Prelude.{bytes_eq, nat_le, pos}
use Rattle.std.proofs.Math.Bool.{and-false}
use Rattle.std.proofs.lemmas.Bool.{and_from, le-leb, lt-leb}
use Rattle.std.proofs.lemmas.List.{append-nil, length-append, length-drop, length-reverse}
use Rattle.key_bytes.specs.Numbers.{number_low}
use Rattle.fdb_tuple.specs.Spelling.{least_bytes, low_first, int_spelled, signed_spelled}
use Rattle.fdb_tuple.proofs.Digits.{length-low_first_le}
use Rattle.model_allocator.specs.declared.TheConstants.{GREATEST_COUNTER}
use Rattle.model_allocator.specs.Counters.{counter_key, counter_in, counters_prefix}
use Rattle.model_allocator.proofs.Codes.{counter_in_is, number_spelled}

-- ---- the digits of a key

-- those behind the code of a counter's number
abbrev pub digits_in : (space key : List ℕ) → List ℕ
digits_in space key = drop (length (counters_prefix space) + 1) key

-- how long the spelling is of 0, and of a number
zero_length : length (int_spelled (pos 0)) ≡ 1
unfolding least_bytes low_first signed_spelled
zero_length = refl

number_length : (number : ℕ) → number ≤ GREATEST_COUNTER → length (int_spelled (pos number)) ≤ 9
unfolding least_bytes
number_length number small = rw (number_spelled number (omega arith))
    (omega (arith, length-reverse (low_first 16 number), length-low_first_le 16 8 number (omega arith)))

-- a counter's key has at most eight
few_digits : (space : List ℕ) (number : ℕ) → number ≤ GREATEST_COUNTER → length (digits_in space (counter_key space number)) ≤ 8
few_digits space number small =
    let spelled = int_spelled (pos number) ++ [] in
    let key = length-append space (int_spelled (pos 0) ++ spelled) in
    let behind = length-append (int_spelled (pos 0)) spelled in
    let one = ap length (append-nil (int_spelled (pos number))) in
    let prefix = length-append space (int_spelled (pos 0) ++ []) in
    let zero = ap length (append-nil (int_spelled (pos 0))) in
    let left = length-drop (length (counters_prefix space) + 1) (counter_key space number) in
    omega (arith, key, behind, one, prefix, zero, zero_length, left, number_length number small)

-- so a key with more is no counter's
pub many_digits : (space key : List ℕ) → 8 < length (digits_in space key) → None ≡ counter_in space key
many_digits space key many = by (counter_in space key) refl
  where
    by : (counter : Option ℕ) → counter_in space key ≡ counter → None ≡ counter
    by None is = refl
    by (Some number) is = absurd
        (let parts = counter_in_is space key number is in
        let few = few_digits space number parts.1 in
        let same = ap (λ key. length (digits_in space key)) parts.0 in
        omega (arith, few, same, many))

-- ---- the number of a key

-- the number that its digits say
abbrev pub said : (space key : List ℕ) → ℕ
said space key = number_low (reverse (digits_in space key))

-- a key that is that of this number is a counter's, where the number is small enough
pub said_counter : (space key : List ℕ) → bytes_eq key (counter_key space (said space key)) ≡ true → said space key ≤ GREATEST_COUNTER
    → Some (said space key) ≡ counter_in space key
unfolding counter_in
said_counter space key equal small =
    sym (ap (λ b. cond b (Some (said space key)) None) (and_from _ _ equal (le-leb (said space key) GREATEST_COUNTER small)))

-- a key that is another, or that of a greater number, isn't
pub another_key : (space key : List ℕ) → bytes_eq key (counter_key space (said space key)) ≡ false → None ≡ counter_in space key
unfolding counter_in
another_key space key differs =
    sym (ap (λ b. cond (b && nat_le (said space key) GREATEST_COUNTER) (Some (said space key)) None) differs)

pub great_number : (space key : List ℕ) → GREATEST_COUNTER < said space key → None ≡ counter_in space key
unfolding counter_in
great_number space key great =
    let equal = bytes_eq key (counter_key space (said space key)) in
    sym (ap (λ b. cond (equal && b) (Some (said space key)) None) (lt-leb (said space key) GREATEST_COUNTER great)
    ∙ ap (λ b. cond b (Some (said space key)) None) (and-false equal))
