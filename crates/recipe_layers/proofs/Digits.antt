-- How the key of an index is read.
use Rattle.std.proofs.Common.{◌≡◌, ℕ, ◌+◌, ◌<◌, ◌≤◌, true, false, cond, ◌&&◌, List, [], ◌++◌, length, drop, reverse, Option, Some, None, refl, sym, ap, ◌∙◌, arith}
use Rattle.std.specs.Prelude.{bytes_eq, nat_le, pos}
use Rattle.std.proofs.Math.Bool.{and-false}
use Rattle.std.proofs.lemmas.Bool.{and_from, le-leb, lt-leb}
use Rattle.std.proofs.lemmas.List.{append-nil, length-append, length-drop, length-reverse}
use Rattle.key_bytes.specs.Numbers.{number_low}
use Rattle.fdb_tuple.specs.Spelling.{least_bytes, low_first, int_spelled}
use Rattle.fdb_tuple.proofs.Digits.{length-low_first_le}
use Rattle.model_allocator.proofs.Codes.{number_spelled}
use Rattle.model_recipes.specs.declared.TheConstants.{GREATEST_INDEX}
use Rattle.model_recipes.specs.Queues.{index_key, index_in}
use Rattle.model_recipes.proofs.Indexes.{index_in_is}

-- ---- the digits of a key

-- those behind the code of an index
abbrev pub digits_in : (space key : List ℕ) → List ℕ
digits_in space key = drop (length space + 1) key

index_length : (index : ℕ) → index ≤ GREATEST_INDEX → length (int_spelled (pos index)) ≤ 9
unfolding least_bytes
index_length index small = rw (number_spelled index (omega arith))
    (omega (arith, length-reverse (low_first 16 index), length-low_first_le 16 8 index (omega arith)))

-- the key of an index has at most eight
few_digits : (space : List ℕ) (index : ℕ) → index ≤ GREATEST_INDEX → length (digits_in space (index_key space index)) ≤ 8
few_digits space index small =
    let key = length-append space (int_spelled (pos index) ++ []) in
    let one = ap length (append-nil (int_spelled (pos index))) in
    let left = length-drop (length space + 1) (index_key space index) in
    omega (arith, key, one, left, index_length index small)

-- so a key with more is none
pub many_digits : (space key : List ℕ) → 8 < length (digits_in space key) → None ≡ index_in space key
many_digits space key many = by (index_in space key) refl
  where
    by : (index : Option ℕ) → index_in space key ≡ index → None ≡ index
    by None is = refl
    by (Some index) is = absurd
        (let parts = index_in_is space key index is in
        let few = few_digits space index parts.1 in
        let same = ap (λ key. length (digits_in space key)) parts.0 in
        omega (arith, few, same, many))

-- ---- the number of a key

-- the number that its digits say
abbrev pub said : (space key : List ℕ) → ℕ
said space key = number_low (reverse (digits_in space key))

-- a key that is that of this number is an index's, where the number is small enough
pub said_index : (space key : List ℕ) → bytes_eq key (index_key space (said space key)) ≡ true → said space key ≤ GREATEST_INDEX
    → Some (said space key) ≡ index_in space key
unfolding index_in
said_index space key equal small =
    sym (ap (λ b. cond b (Some (said space key)) None) (and_from _ _ equal (le-leb (said space key) GREATEST_INDEX small)))

-- a key that is another, or that of a greater number, isn't
pub another_key : (space key : List ℕ) → bytes_eq key (index_key space (said space key)) ≡ false → None ≡ index_in space key
unfolding index_in
another_key space key differs =
    sym (ap (λ b. cond (b && nat_le (said space key) GREATEST_INDEX) (Some (said space key)) None) differs)

pub great_number : (space key : List ℕ) → GREATEST_INDEX < said space key → None ≡ index_in space key
unfolding index_in
great_number space key great =
    let equal = bytes_eq key (index_key space (said space key)) in
    sym (ap (λ b. cond (equal && b) (Some (said space key)) None) (lt-leb (said space key) GREATEST_INDEX great)
    ∙ ap (λ b. cond b (Some (said space key)) None) (and-false equal))
