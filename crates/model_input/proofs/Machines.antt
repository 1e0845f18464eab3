-- A line of the order that was read is the line of its machine, and the line of a machine is read as this machine.
use Rattle.std.proofs.Common.{◌≡◌, ℕ, ◌+◌, ◌-◌, ◌*◌, ◌/◌, ◌%◌, ◌<◌, ◌≤◌, Bool, true, false, cond, not, ◌||◌, ◌==◌, nat_lt, ◌⊎◌, inl, inr, List, [], ◌∷◌, ◌++◌, length, Result, Ok, Err, refl, sym, ap, ◌∙◌, arith}
use Rattle.std.specs.Fmt.{decimal}
use Rattle.std.proofs.lemmas.Bool.{eqb-true, ltb-false, le-ltb, not-false, cases_lt}
use Rattle.std.proofs.lemmas.Bool.Decides.{nat_tests}
use Rattle.std.proofs.lemmas.Fmt.{decimal_digit, decimal_step, length-decimal-le_succ}
use Rattle.std.proofs.lemmas.List.{length-append}
use Rattle.model_lines.specs.Printing.{order_line}
use Rattle.model_lines.specs.Reading.{Line, Flaw, Bad, Place, lines_of, size_of, input_limit, line_limit}
use Rattle.model_lines.proofs.Lines.{IsFeedless, whole_first}
use Rattle.model_lines.proofs.ReadLines.{guard_ok, neither, was_within, limits_pass}
use Rattle.model_input.specs.Orders.{last_machine, is_digit, whole_number, two_digits, number_at, machine_at, judged_number, read_machine}

-- a test that did not fail
pub choice_ok : {A E : Type 0} (test : Bool) (fault : E) (read : Result A E) (value : A) → cond test read (Err fault) ≡ Ok value
    → (test ≡ true) × (read ≡ Ok value)
choice_ok true fault read value e = (refl, e)
choice_ok false fault read value e = absurd cc

-- ---- digits

digit_within : (byte : ℕ) → is_digit byte ≡ true → (48 ≤ byte) × (byte < 58)
digit_within byte e = (grind (arith, nat_tests), grind (arith, nat_tests))

not_zero : (byte : ℕ) → 48 ≤ byte → (byte == 48) ≡ false → 48 < byte
not_zero byte h e = grind (arith, nat_tests)

digit_is : (n : ℕ) → n < 10 → is_digit (48 + n) ≡ true
digit_is n h = grind (arith, nat_tests)

not_zero_is : (n : ℕ) → 0 < n → (48 + n == 48) ≡ false
not_zero_is n h = grind (arith, nat_tests)

feedless_digit : (n : ℕ) → (48 + n == 10) ≡ false
feedless_digit n = grind (arith, nat_tests)

decimal_tens : (n : ℕ) → 10 ≤ n → n < 100 → decimal n ≡ (48 + n / 10) ∷ (48 + n % 10) ∷ []
decimal_tens n h k = decimal_step n h (omega arith)
    ∙ ap (λ (x : List ℕ). x ++ (48 + n % 10) ∷ []) (decimal_digit (n / 10) (omega arith))

-- ---- a machine that was read

-- the digits of a line are those of the machine, up to the line feed
pub record IsNumber (line : Line) (digits : List ℕ) (machine : ℕ) : Type 0 where
  pub whole : line.is_whole ≡ true
  pub spelled : digits ≡ decimal machine
  pub small : machine ≤ last_machine

whole_was : (line : Line) (number machine : ℕ) → whole_number line number ≡ Ok machine → (line.is_whole ≡ true) × (number ≡ machine)
whole_was line number machine e =
    let parts = choice_ok line.is_whole (Bad (length line.bytes)) (Ok number) machine e in
    (parts.0, cc)

two_were : (line : Line) (number : ℕ) (rest : List ℕ) (machine : ℕ) → two_digits line number rest ≡ Ok machine
    → (rest ≡ []) × (number ≤ last_machine) × (line.is_whole ≡ true) × (number ≡ machine)
two_were line number [] machine e =
    let small = guard_ok (nat_lt last_machine number) (Bad 2) (whole_number line number) machine e in
    let whole = whole_was line number machine small.1 in
    (refl, ltb-false last_machine number small.0, whole.0, whole.1)
two_were line number (byte ∷ rest) machine e =
    let other = guard_ok (nat_lt last_machine number || is_digit byte) (Bad 2) (Err (Bad 4)) machine e in
    absurd cc

number_was : (line : Line) (digits : List ℕ) (machine : ℕ) → number_at line digits ≡ Ok machine → IsNumber line digits machine
number_was line [] machine e = absurd cc
number_was line (digit ∷ []) machine e =
    let test = choice_ok (is_digit digit) (Bad 2) (whole_number line (digit - 48)) machine e in
    let whole = whole_was line (digit - 48) machine test.1 in
    let within = digit_within digit test.0 in
    let is : digit ≡ 48 + machine = omega (arith, within.0, whole.1) in
    record {
      whole = whole.0;
      spelled = ap (λ (x : ℕ). x ∷ []) is ∙ sym (decimal_digit machine (omega (arith, within.1)));
      small = omega (arith, within.1);
    }
number_was line (digit ∷ next ∷ rest) machine e =
    let number = 10 * (digit - 48) + (next - 48) in
    let first = guard_ok (not (is_digit digit)) (Bad 2)
    (cond (digit == 48 || not (is_digit next)) (Err (Bad 3)) (two_digits line number rest)) machine e in
    let second = guard_ok (digit == 48 || not (is_digit next)) (Bad 3) (two_digits line number rest) machine first.1 in
    let tests = neither (digit == 48) (not (is_digit next)) second.0 in
    let high = digit_within digit (not-false (is_digit digit) first.0) in
    let low = digit_within next (not-false (is_digit next) tests.1) in
    let more = not_zero digit high.0 tests.0 in
    let all = two_were line number rest machine second.1 in
    let high_is : digit ≡ 48 + machine / 10 = omega (arith, high.1, low.0, low.1, more, all.3) in
    let low_is : next ≡ 48 + machine % 10 = omega (arith, high.1, low.0, low.1, more, all.3) in
    record {
      whole = all.2;
      spelled = rw all.0 (ap (λ (x : ℕ). x ∷ next ∷ []) high_is ∙ ap (λ (x : ℕ). (48 + machine / 10) ∷ x ∷ []) low_is
          ∙ sym (decimal_tens machine (omega (arith, more, all.3)) (omega (arith, all.1, all.3))));
      small = omega (arith, all.1, all.3);
    }

-- the line of a machine, without its line feed
abbrev pub content : ℕ → List ℕ
content machine = 79 ∷ 32 ∷ decimal machine

-- a line that was read is the line of a machine
pub record IsMachine (line : Line) (bytes : List ℕ) (machine : ℕ) : Type 0 where
  pub whole : line.is_whole ≡ true
  pub spelled : bytes ≡ content machine
  pub small : machine ≤ last_machine

machine_was : (line : Line) (bytes : List ℕ) (machine : ℕ) → machine_at line bytes ≡ Ok machine → IsMachine line bytes machine
unfolding machine_at
machine_was line [] machine e = absurd cc
machine_was line (kind ∷ []) machine e = absurd cc
machine_was line (kind ∷ gap ∷ digits) machine e =
    let first = guard_ok (not (kind == 79)) (Bad 0) (cond (not (gap == 32)) (Err (Bad 1)) (number_at line digits)) machine e in
    let second = guard_ok (not (gap == 32)) (Bad 1) (number_at line digits) machine first.1 in
    let kind_is : kind ≡ 79 = eqb-true kind 79 (not-false (kind == 79) first.0) in
    let gap_is : gap ≡ 32 = eqb-true gap 32 (not-false (gap == 32) second.0) in
    let number = number_was line digits machine second.1 in
    record { whole = number.whole; spelled = rw (kind_is, gap_is, number.spelled) refl; small = number.small }

judged_ok : (number : ℕ) (read : Result ℕ Flaw) (machine : ℕ) → judged_number number read ≡ Ok machine → read ≡ Ok machine
judged_ok number (Ok other) machine e = cc
judged_ok number (Err flaw) machine e = absurd cc

-- a line that was read, within the limits
pub record IsRead (place : Place) (line : Line) (machine : ℕ) : Type 0 where
  pub size : place.bytes + size_of line ≤ input_limit
  pub is : IsMachine line line.bytes machine

pub is_read : (place : Place) (line : Line) (machine : ℕ) → read_machine place line ≡ Ok machine → IsRead place line machine
unfolding read_machine
is_read place line machine e =
    let was = was_within place line (judged_number place.number (machine_at line line.bytes)) machine e in
    let read = judged_ok place.number (machine_at line line.bytes) machine was.1 in
    record { size = was.0.size; is = machine_was line line.bytes machine read }

-- ---- the line of a machine is read

-- the line of a machine as it stands in the rules
abbrev pub line_for : ℕ → Line
line_for machine = record { bytes = content machine; is_whole = true }

small_again : (line : Line) (machine : ℕ) → line.is_whole ≡ true → machine < 10 → number_at line (decimal machine) ≡ Ok machine
small_again line machine whole h =
    let number : 48 + machine - 48 ≡ machine = omega arith in
    rw (decimal_digit machine h, digit_is machine h, whole, number) refl

tens_again : (line : Line) (machine : ℕ) → line.is_whole ≡ true → 10 ≤ machine → machine ≤ last_machine
    → number_at line (decimal machine) ≡ Ok machine
tens_again line machine whole h small =
    let high : machine / 10 < 10 = omega arith in
    let number : 10 * (48 + machine / 10 - 48) + (48 + machine % 10 - 48) ≡ machine = omega arith in
    let test : nat_lt last_machine machine ≡ false = le-ltb last_machine machine small in
    rw (
      decimal_tens machine h (omega arith),
      digit_is (machine / 10) high,
      not_zero_is (machine / 10) (omega arith),
      digit_is (machine % 10) (omega arith),
      number,
      test,
      whole,
    ) refl

number_again : (line : Line) (machine : ℕ) → line.is_whole ≡ true → machine ≤ last_machine → machine < 10 ⊎ 10 ≤ machine
    → number_at line (decimal machine) ≡ Ok machine
number_again line machine whole small (inl h) = small_again line machine whole h
number_again line machine whole small (inr h) = tens_again line machine whole h small

length-decimal : (machine : ℕ) → machine ≤ last_machine → length (decimal machine) ≤ 100
length-decimal machine h = omega (arith, length-decimal-le_succ machine (omega arith))

pub line_again : (place : Place) (machine : ℕ) → machine ≤ last_machine → place.bytes + size_of (line_for machine) ≤ input_limit
    → read_machine place (line_for machine) ≡ Ok machine
unfolding read_machine machine_at
line_again place machine small size =
    let line = line_for machine in
    let short : length line.bytes ≤ line_limit = omega (arith, length-decimal machine small) in
    limits_pass place line (judged_number place.number (machine_at line line.bytes))
    (record { size = size; few = λ pair. absurd cc; short = short })
    ∙ rw (number_again line machine refl small (cases_lt machine 10)) refl

-- ---- lines without a line feed in them

feedless_number : (machine : ℕ) → machine ≤ last_machine → machine < 10 ⊎ 10 ≤ machine → IsFeedless (decimal machine)
feedless_number machine small (inl h) = rw (decimal_digit machine h) (feedless_digit machine, tt)
feedless_number machine small (inr h) =
    rw (decimal_tens machine h (omega arith)) (feedless_digit (machine / 10), (feedless_digit (machine % 10), tt))

order_line-is : (machine : ℕ) → order_line machine ≡ content machine ++ 10 ∷ []
unfolding order_line
order_line-is machine = refl

pub stands_as : (line : Line) (machine : ℕ) → IsMachine line line.bytes machine
    → line.bytes ++ cond line.is_whole (10 ∷ []) [] ≡ order_line machine
stands_as line machine h = rw (h.whole, h.spelled) (sym (order_line-is machine))

pub first_again : (machine : ℕ) (rest : List ℕ) → machine ≤ last_machine
    → lines_of (order_line machine ++ rest) ≡ line_for machine ∷ lines_of rest
first_again machine rest h = ap (λ (x : List ℕ). lines_of (x ++ rest)) (order_line-is machine)
    ∙ whole_first (content machine) rest (refl, (refl, feedless_number machine h (cases_lt machine 10)))

pub length-order_line : (machine : ℕ) → length (order_line machine) ≡ size_of (line_for machine)
length-order_line machine = ap length (order_line-is machine) ∙ length-append (content machine) (10 ∷ [])
