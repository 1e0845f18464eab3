-- A number that was read is spelled by the digits that were read, and a number's digits are read as the number.
use Rattle.std.proofs.Common.{◌≡◌, ℕ, zero, suc, ◌+◌, ◌-◌, ◌*◌, ◌/◌, ◌%◌, ◌^◌, ◌<◌, ◌≤◌, Bool, true, false, cond, not, ◌&&◌, ◌==◌, nat_lt, List, [], ◌∷◌, ◌++◌, length, get_or, take, drop, Result, Ok, Err, refl, sym, ap, ◌∙◌, append_assoc, arith}
use Rattle.std.specs.Fmt.{decimal}
use Rattle.std.specs.Int.{IsInRange}
use Rattle.std.specs.List.{prefix_len, list_all}
use Rattle.std.proofs.lemmas.Bool.{and_parts, and_from, ne_eqb, ltb-false, le-ltb}
use Rattle.std.proofs.lemmas.Bool.Decides.{nat_tests}
use Rattle.std.proofs.lemmas.Fmt.{decimal_is_IsNumeral_wide, decimal_step_wide, decimal_by_steps_wide, decimal_digit}
use Rattle.std.proofs.lemmas.List.{take_at, drop_at, take-append-drop, get_or_append_left, get_or-take, append-nil, length-append}
use Rattle.std.proofs.lemmas.List.Folds.{length-prefix_len}
use Rattle.std.proofs.lemmas.Str.Parse.{IsDigitsTest, IsNumeralModel, FoldsDigits, numerals_by_fold}
use Rattle.model_lines.proofs.ReadLines.{guard_ok}
use Rattle.model_input.specs.Orders.{is_digit}
use Rattle.dump_reading.specs.Fields.{value_after, number_at}

-- ---- digits

digit_within : (byte : ℕ) → is_digit byte ≡ true → IsInRange 48 57 byte
digit_within byte e = (grind (arith, nat_tests), grind (arith, nat_tests))

within_digit : (byte : ℕ) → IsInRange 48 57 byte → is_digit byte ≡ true
within_digit byte h =
    let low = h.0 in
    let high = h.1 in
    grind (arith, nat_tests)

abbrev pub AreDigits : List ℕ → Type 0
AreDigits bytes = list_all is_digit bytes ≡ true

tells : IsDigitsTest AreDigits
tells = record {
  empty = refl;
  parts = λ byte rest e. let both = and_parts (is_digit byte) (list_all is_digit rest) e in (digit_within byte both.0, both.1);
  more = λ byte rest h e. and_from (is_digit byte) (list_all is_digit rest) (within_digit byte h) e;
}

folds : FoldsDigits value_after
unfolding value_after
folds = record { empty = λ n. refl; more = λ n byte rest h. refl }

numerals : IsNumeralModel AreDigits (value_after 0)
numerals = numerals_by_fold AreDigits tells value_after folds

-- ---- the digits of a number, and the number of digits

pub digits_of_number : (n : ℕ) → n < 10 ^ 64 → AreDigits (decimal n)
digits_of_number n h = numerals.from (decimal n) (decimal_is_IsNumeral_wide n h).0.1

pub number_of_digits : (n : ℕ) → n < 10 ^ 64 → value_after 0 (decimal n) ≡ n
number_of_digits n h = numerals.same (decimal n) (decimal_is_IsNumeral_wide n h).0.1 ∙ (decimal_is_IsNumeral_wide n h).1

pub some_digits : (n : ℕ) → n < 10 ^ 64 → 0 < length (decimal n)
some_digits n h = (decimal_is_IsNumeral_wide n h).0.0

at_least : (n : ℕ) (digits : List ℕ) → n ≤ value_after n digits
unfolding value_after
at_least n [] = omega arith
at_least n (digit ∷ digits) = omega (arith, at_least (n * 10 + (digit - 48)) digits)

more_digits : (n : ℕ) (digits : List ℕ) → 0 < n → AreDigits digits → value_after n digits < 10 ^ 64
    → decimal (value_after n digits) ≡ decimal n ++ digits
unfolding value_after
more_digits n [] some are small = sym (append-nil (decimal n))
more_digits n (digit ∷ digits) some are small =
    let both = and_parts (is_digit digit) (list_all is_digit digits) are in
    let within = digit_within digit both.0 in
    let low : 48 ≤ digit = within.0 in
    let high : digit ≤ 57 = within.1 in
    let m : ℕ = n * 10 + (digit - 48) in
    let front : m / 10 ≡ n = omega arith in
    let end : 48 + m % 10 ≡ digit = omega arith in
    let step : decimal m ≡ decimal n ++ digit ∷ [] =
    decimal_step_wide m (omega arith) (omega (arith, at_least m digits)) ∙ (λ i. decimal (front i) ++ (end i ∷ [])) in
    more_digits m digits (omega arith) both.1 small ∙ ap (λ (x : List ℕ). x ++ digits) step ∙ append_assoc (decimal n) (digit ∷ []) digits

-- digits without a leading zero are those of their number
pub digits_again : (digits : List ℕ) → AreDigits digits → 0 < length digits → (get_or digits 0 0 ≡ 48 → length digits ≡ 1)
    → value_after 0 digits < 10 ^ 64 → decimal (value_after 0 digits) ≡ digits
unfolding value_after
digits_again [] are some lead small = absurd (omega arith)
digits_again (digit ∷ []) are some lead small =
    let both = and_parts (is_digit digit) true are in
    let within = digit_within digit both.0 in
    let low : 48 ≤ digit = within.0 in
    let high : digit ≤ 57 = within.1 in
    decimal_digit (0 * 10 + (digit - 48)) (omega arith) ∙ ap (λ (x : ℕ). x ∷ []) (omega arith)
digits_again (digit ∷ next ∷ digits) are some lead small =
    let both = and_parts (is_digit digit) (list_all is_digit (next ∷ digits)) are in
    let within = digit_within digit both.0 in
    let low : 48 ≤ digit = within.0 in
    let high : digit ≤ 57 = within.1 in
    let no : digit ≡ 48 → ⊥ = λ z. omega (arith, lead z) in
    let is : 48 + (0 * 10 + (digit - 48)) ≡ digit = omega arith in
    let more : 0 < 0 * 10 + (digit - 48) = omega (arith, no) in
    more_digits (0 * 10 + (digit - 48)) (next ∷ digits) more both.1 small
    ∙ ap (λ (x : List ℕ). x ++ (next ∷ digits)) (decimal_digit (0 * 10 + (digit - 48)) (omega arith) ∙ ap (λ (x : ℕ). x ∷ []) is)

pub first_digit : (n : ℕ) → 0 < n → n < 10 ^ 64 → 48 < get_or (decimal n) 0 0
first_digit n some small = (decimal_by_steps_wide (λ m ds. (0 < length ds) × (0 < m → 48 < get_or ds 0 0)) (λ m l. (omega (arith, decimal_digit m l), λ a. omega (arith, decimal_digit m l)))
    (λ m ds l h. (omega (arith, length-append ds ((48 + m % 10) ∷ [])), λ a. omega (arith, get_or_append_left ds ((48 + m % 10) ∷ []) 0 0 h.0, h.1 (omega arith)))) n small).1 some

-- ---- runs

pub run_passes : (p : ℕ → Bool) (bytes : List ℕ) → list_all p (take (prefix_len p bytes) bytes) ≡ true
run_passes p [] = refl
run_passes p (byte ∷ rest) =
    elim (p byte) as (λ b. p byte ≡ b → list_all p (take (prefix_len p (byte ∷ rest)) (byte ∷ rest)) ≡ true) [
      | true ↦ λ e. let next : 1 + prefix_len p rest ≡ suc (prefix_len p rest) = omega arith in rw (e, next, e) (run_passes p rest)
      | false ↦ λ e. rw e refl
    ] refl

pub run_of : (p : ℕ → Bool) (bytes rest : List ℕ) → list_all p bytes ≡ true → prefix_len p (bytes ++ rest) ≡ length bytes + prefix_len p rest
run_of p [] rest h = omega arith
run_of p (byte ∷ bytes) rest h =
    let both = and_parts (p byte) (list_all p bytes) h in
    let later = run_of p bytes rest both.1 in
    rw both.0 (omega (arith, later))

-- ---- numbers

pub not_zero : (n : ℕ) → (n == 0) ≡ false → 0 < n
not_zero n e = grind (arith, nat_tests)

-- a number without a leading zero
leads : (first len : ℕ) → (first == 48 && not (len == 1)) ≡ false → first ≡ 48 → len ≡ 1
leads first len e h = grind (arith, nat_tests)

pub record IsNumber (most : ℕ) (bytes : List ℕ) (read : ℕ × List ℕ) : Type 0 where
  pub spelled : bytes ≡ decimal read.0 ++ read.1
  pub small : read.0 ≤ most

abbrev found : ℕ × List ℕ → Result (ℕ × List ℕ) ℕ
found read = Ok read

found_is : (x y : ℕ × List ℕ) → found x ≡ found y → x ≡ y
found_is x y e = cc

pub number_was : (most : ℕ) (bytes : List ℕ) (read : ℕ × List ℕ) → most < 10 ^ 64 → number_at most bytes ≡ Ok read → IsNumber most bytes read
unfolding number_at
number_was most bytes read h e =
    let len = prefix_len is_digit bytes in
    let digits = take len bytes in
    let value = value_after 0 digits in
    let third = cond (nat_lt most value) (Err (length bytes)) (found (value, drop len bytes)) in
    let first = guard_ok (len == 0) (length bytes) (cond (get_or bytes 0 0 == 48 && not (len == 1)) (Err (length bytes - 1)) third) read e in
    let second = guard_ok (get_or bytes 0 0 == 48 && not (len == 1)) (length bytes - 1) third read first.1 in
    let last = guard_ok (nat_lt most value) (length bytes) (found (value, drop len bytes)) read second.1 in
    let is = found_is (value, drop len bytes) read last.1 in
    let within = ltb-false most value last.0 in
    let lens = length-prefix_len is_digit bytes in
    let some = not_zero len first.0 in
    let lead = λ (k : get_or digits 0 0 ≡ 48). leads (get_or bytes 0 0) len second.0 (sym (get_or-take len bytes 0 0 some) ∙ k) in
    let spelled = digits_again digits (run_passes is_digit bytes) (omega (arith, lens)) (λ k. omega (arith, lead k, lens)) (omega arith) in
    rw (← is) (record { spelled = sym (take-append-drop len bytes) ∙ ap (λ (x : List ℕ). x ++ drop len bytes) (sym spelled); small = within })

first_of : (n : ℕ) (rest : List ℕ) → n < 10 ^ 64 → (get_or (decimal n ++ rest) 0 0 == 48 && not (length (decimal n) == 1)) ≡ false
first_of zero rest h = rw (decimal_digit 0 (omega arith)) refl
first_of (suc n) rest h =
    let digits = decimal (suc n) in
    let some = some_digits (suc n) h in
    let larger : 48 < get_or (digits ++ rest) 0 0 = omega (arith, first_digit (suc n) (omega arith) h, get_or_append_left digits rest 0 0 some) in
    grind (arith, nat_tests)

pub number_again : (most n : ℕ) (rest : List ℕ) → most < 10 ^ 64 → n ≤ most → prefix_len is_digit rest ≡ 0
    → number_at most (decimal n ++ rest) ≡ Ok (n, rest)
unfolding number_at
number_again most n rest h small ends =
    let fits : n < 10 ^ 64 = omega arith in
    let len : prefix_len is_digit (decimal n ++ rest) ≡ length (decimal n) = omega (arith, run_of is_digit (decimal n) rest (digits_of_number n fits)) in
    let some : (length (decimal n) == 0) ≡ false =
    ne_eqb (length (decimal n)) 0 (λ k. omega (arith, k, some_digits n fits)) in
    let value : value_after 0 (decimal n) ≡ n = number_of_digits n fits in
    rw (
      len,
      some,
      first_of n rest fits,
      take_at (decimal n) rest (length (decimal n)) refl,
      drop_at (decimal n) rest (length (decimal n)) refl,
      value,
      le-ltb most n small,
    ) refl
