-- The place of a bad line of an order.
use Rattle.std.proofs.Common.{◌≡◌, ◌≤◌, ◌<◌, ◌+◌, ◌-◌, ◌*◌, ◌/◌, ◌%◌, ◌⊎◌, inl, inr, ℕ, Bool, true, false, true≢false, cond, not, ◌||◌, nat_lt, ◌==◌, List, [], ◌∷◌, ◌++◌, length, Ok, Err, refl, sym, ap, subst, ◌∙◌, arith}
use Rattle.std.specs.Fmt.{decimal}
use Rattle.std.proofs.lemmas.Bool.{eqb-true, eqb-false, ltb-true, ltb-false, cases_lt}
use Rattle.std.proofs.lemmas.Bool.Decides.{nat_tests}
use Rattle.std.proofs.lemmas.Fmt.{decimal_digit, decimal_step}
use Rattle.model_lines.specs.Printing.{space}
use Rattle.model_lines.specs.Reading.{Line, Bad}
use Rattle.model_input.specs.Orders.{last_machine, is_digit, whole_number, two_digits, number_at, machine_at}
use Rattle.laws_lines.specs.Places.{begins_with_digit, IsOrderFront, NoOrder, OrderKind, OrderGap, OrderMachine, IsLongestFront, AreOrderPlaces}
use Rattle.laws_lines.proofs.Heads.{Heads, no_byte, one_byte, more_bytes, IsHeaded, read_behind, bad, place_of_bad, leaves_nothing, behind_space, line_longest}

heads : (front rest : List ℕ) → IsOrderFront front rest → Heads 79 front
heads front rest (NoOrder is) = no_byte is
heads front rest (OrderKind is) = one_byte is
heads front rest (OrderGap is) = more_bytes [] is
heads front rest (OrderMachine machine small ends is) = more_bytes (decimal machine) is

headed : IsHeaded 79 IsOrderFront
headed = record { nothing = λ rest. NoOrder refl; letter = λ rest. OrderKind refl; heads = heads }

-- ---- the digits of a machine

is_digit_of : (n : ℕ) → n < 10 → is_digit (48 + n) ≡ true
is_digit_of n h = grind (arith, nat_tests)

from_zero : (byte : ℕ) → is_digit byte ≡ true → 48 ≤ byte
from_zero byte e = grind (arith, nat_tests)

to_nine : (byte : ℕ) → is_digit byte ≡ true → byte < 58
to_nine byte e = grind (arith, nat_tests)

-- a number below 100 in digits
one_digit : (byte : ℕ) → is_digit byte ≡ true → byte ∷ [] ≡ decimal (byte - 48)
one_digit byte e =
    let is : byte ≡ 48 + (byte - 48) = omega (arith, from_zero byte e) in
    ap (λ (x : ℕ). x ∷ []) is ∙ sym (decimal_digit (byte - 48) (omega (arith, to_nine byte e)))

tens_and_ones : (n : ℕ) → 10 ≤ n → n < 100 → decimal n ≡ (48 + n / 10) ∷ (48 + n % 10) ∷ []
tens_and_ones n many small = decimal_step n many (omega arith)
    ∙ ap (λ (x : List ℕ). x ++ (48 + n % 10) ∷ []) (decimal_digit (n / 10) (omega arith))

-- the number of two digits
abbrev number_of : ℕ → ℕ → ℕ
number_of high low = 10 * (high - 48) + (low - 48)

-- two digits, the first of which is not a zero
record AreDigits (high low : ℕ) : Type 0 where
  high_is : is_digit high ≡ true
  not_zero : (high == 48) ≡ false
  low_is : is_digit low ≡ true

both_digits : (high low : ℕ) → AreDigits high low → high ∷ low ∷ [] ≡ decimal (number_of high low)
both_digits high low h =
    let n = number_of high low in
    let more : 48 < high = omega (arith, from_zero high h.high_is, eqb-false high 48 h.not_zero) in
    let high_top = to_nine high h.high_is in
    let low_least = from_zero low h.low_is in
    let low_top = to_nine low h.low_is in
    let high_is : high ≡ 48 + n / 10 = omega (arith, more, high_top, low_least, low_top) in
    let low_is : low ≡ 48 + n % 10 = omega (arith, more, high_top, low_least, low_top) in
    ap (λ (x : ℕ). x ∷ low ∷ []) high_is ∙ ap (λ (x : ℕ). (48 + n / 10) ∷ x ∷ []) low_is
    ∙ sym (tens_and_ones n (omega (arith, more)) (omega (arith, high_top, low_top)))

-- ---- machines at the front of bytes

-- how the digits of a machine stand before what is behind them
data Stands (machine : ℕ) (bytes behind : List ℕ) : Type 0 where
  by_one : (small : machine < 10) (size : length (decimal machine) ≡ 1) (is : bytes ≡ (48 + machine) ∷ behind) → Stands machine bytes behind
  by_two : (many : 10 ≤ machine) (small : machine ≤ last_machine) (size : length (decimal machine) ≡ 2)
      (is : bytes ≡ (48 + machine / 10) ∷ (48 + machine % 10) ∷ behind) → Stands machine bytes behind

stands : (machine : ℕ) (bytes behind : List ℕ) → machine ≤ last_machine → bytes ≡ decimal machine ++ behind → Stands machine bytes behind
stands machine bytes behind small parts = by_size (cases_lt machine 10)
  where
    by_size : machine < 10 ⊎ 10 ≤ machine → Stands machine bytes behind
    by_size (inl h) =
        let digits = decimal_digit machine h in
        by_one h (ap length digits) (parts ∙ ap (λ (x : List ℕ). x ++ behind) digits)
    by_size (inr h) =
        let digits = tens_and_ones machine h (omega arith) in
        by_two h small (ap length digits) (parts ∙ ap (λ (x : List ℕ). x ++ behind) digits)

-- no digit belongs to the machine but its own
abbrev Ends : ℕ → List ℕ → Type 0
Ends machine behind = (machine ≡ 0) ⊎ (begins_with_digit behind ≡ false)

-- no machine at the front of these bytes has more digits
abbrev AtMost : ℕ → List ℕ → Type 0
AtMost n bytes = (machine : ℕ) (behind : List ℕ) → Ends machine behind → Stands machine bytes behind → length (decimal machine) ≤ n

none_without_digit : (byte : ℕ) (bytes : List ℕ) → is_digit byte ≡ false → AtMost 0 (byte ∷ bytes)
none_without_digit byte bytes e machine behind ends (by_one small size is) =
    let same : byte ≡ 48 + machine = cc in
    absurd (true≢false (sym (is_digit_of machine small) ∙ ap is_digit (sym same) ∙ e))
none_without_digit byte bytes e machine behind ends (by_two many small size is) =
    let same : byte ≡ 48 + machine / 10 = cc in
    absurd (true≢false (sym (is_digit_of (machine / 10) (omega arith)) ∙ ap is_digit (sym same) ∙ e))

one_at_most : (byte next : ℕ) (bytes : List ℕ) → (byte ≡ 48) ⊎ (is_digit next ≡ false) → AtMost 1 (byte ∷ next ∷ bytes)
one_at_most byte next bytes h machine behind ends (by_one small size is) = omega (arith, size)
one_at_most byte next bytes (inl zero_is) machine behind ends (by_two many small size is) =
    let same : byte ≡ 48 + machine / 10 = cc in
    absurd (omega arith)
one_at_most byte next bytes (inr e) machine behind ends (by_two many small size is) =
    let same : next ≡ 48 + machine % 10 = cc in
    absurd (true≢false (sym (is_digit_of (machine % 10) (omega arith)) ∙ ap is_digit (sym same) ∙ e))

two_at_most : (bytes : List ℕ) → AtMost 2 bytes
two_at_most bytes machine behind ends (by_one small size is) = omega (arith, size)
two_at_most bytes machine behind ends (by_two many small size is) = omega (arith, size)

-- two digits that are past the last machine, or stand before a digit, are no machine's, nor is the first of them
none_past_last : (high low : ℕ) (rest : List ℕ) → AreDigits high low → (last_machine < number_of high low) ⊎ (begins_with_digit rest ≡ true)
    → AtMost 0 (high ∷ low ∷ rest)
none_past_last high low rest digits past machine behind (inl zero_is) (by_one small size is) =
    let same : high ≡ 48 + machine = cc in
    absurd (eqb-false high 48 digits.not_zero (omega arith))
none_past_last high low rest digits past machine behind (inr e) (by_one small size is) =
    let same : low ∷ rest ≡ behind = cc in
    absurd (true≢false (sym digits.low_is ∙ ap begins_with_digit same ∙ e))
none_past_last high low rest digits (inl more) machine behind ends (by_two many small size is) =
    let high_is : high ≡ 48 + machine / 10 = cc in
    let low_is : low ≡ 48 + machine % 10 = cc in
    absurd (omega arith)
none_past_last high low rest digits (inr more) machine behind (inl zero_is) (by_two many small size is) = absurd (omega arith)
none_past_last high low rest digits (inr more) machine behind (inr e) (by_two many small size is) =
    let same : rest ≡ behind = cc in
    absurd (true≢false (sym more ∙ ap begins_with_digit same ∙ e))

-- ---- where reading stopped

-- the last front ends in these digits
digits_last : (bytes front rest : List ℕ) → bytes ≡ front ++ rest → IsOrderFront (79 ∷ space ∷ front) rest → AtMost (length front) bytes
    → IsLongestFront IsOrderFront (79 ∷ space ∷ bytes) (2 + length front)
digits_last bytes front rest parts is_front most = record {
  front = 79 ∷ space ∷ front;
  rest = rest;
  parts = ap (λ (x : List ℕ). 79 ∷ space ∷ x) parts;
  place_is = omega arith;
  is_front = is_front;
  longest = short;
}
  where
    short : (other behind : List ℕ) → 79 ∷ space ∷ bytes ≡ other ++ behind → IsOrderFront other behind → length other ≤ 2 + length front
    short other behind its_parts (NoOrder is) = omega (arith, ap length is)
    short other behind its_parts (OrderKind is) = omega (arith, ap length is)
    short other behind its_parts (OrderGap is) = omega (arith, ap length is)
    short other behind its_parts (OrderMachine machine small ends is) =
        let at = stands machine bytes behind small (behind_space 79 bytes (decimal machine) other behind its_parts is) in
        omega (arith, ap length is, most machine behind ends at)

-- ---- the place that reading gives

whole_place : (line : Line) (number place : ℕ) → whole_number line number ≡ Err (Bad place) → length line.bytes ≡ place
whole_place line number place =
    elim line.is_whole as (λ b. cond b (Ok number) (Err (Bad (length line.bytes))) ≡ Err (Bad place) → length line.bytes ≡ place) [
      | true ↦ λ e. absurd cc
      | false ↦ λ e. place_of_bad ℕ (length line.bytes) place e
    ]

-- a line that lacks its line feed alone
feed_missing : (line : Line) (digits : List ℕ) (number place : ℕ) → line.bytes ≡ 79 ∷ space ∷ digits → number ≤ last_machine
    → digits ≡ decimal number → whole_number line number ≡ Err (Bad place) → IsLongestFront IsOrderFront (79 ∷ space ∷ digits) place
feed_missing line digits number place bytes small is e =
    subst (IsLongestFront IsOrderFront (79 ∷ space ∷ digits)) (sym (ap length bytes) ∙ whole_place line number place e)
    (leaves_nothing IsOrderFront (79 ∷ space ∷ digits)
    (OrderMachine number small (inr refl) (ap (λ (x : List ℕ). 79 ∷ space ∷ x) is)))

-- no digit stands behind the space, or none that a machine may have
no_machine : (bytes : List ℕ) (place : ℕ) → AtMost 0 bytes → bad ℕ 2 ≡ bad ℕ place
    → IsLongestFront IsOrderFront (79 ∷ space ∷ bytes) place
no_machine bytes place most e =
    subst (IsLongestFront IsOrderFront (79 ∷ space ∷ bytes)) (place_of_bad ℕ 2 place e) (digits_last bytes [] bytes refl (OrderGap refl) most)

two_digits_place : (line : Line) (high low place : ℕ) (rest : List ℕ) → line.bytes ≡ 79 ∷ space ∷ high ∷ low ∷ rest → AreDigits high low
    → two_digits line (number_of high low) rest ≡ Err (Bad place) → IsLongestFront IsOrderFront (79 ∷ space ∷ high ∷ low ∷ rest) place
two_digits_place line high low place [] bytes digits e =
    elim (nat_lt last_machine (number_of high low)) as (λ b. nat_lt last_machine (number_of high low) ≡ b
    → cond b (Err (Bad 2)) (whole_number line (number_of high low)) ≡ Err (Bad place)
    → IsLongestFront IsOrderFront (79 ∷ space ∷ high ∷ low ∷ []) place) [
      | true ↦ λ t f.
          no_machine (high ∷ low ∷ []) place
          (none_past_last high low [] digits (inl (ltb-true last_machine (number_of high low) t))) f
      | false ↦ λ t f.
          feed_missing line (high ∷ low ∷ []) (number_of high low) place bytes (ltb-false last_machine (number_of high low) t)
          (both_digits high low digits) f
    ] refl e
two_digits_place line high low place (byte ∷ rest) bytes digits e =
    by_tests (nat_lt last_machine (number_of high low)) refl (is_digit byte) refl e
  where
    by_tests : (past : Bool) → nat_lt last_machine (number_of high low) ≡ past → (digit : Bool) → is_digit byte ≡ digit
        → cond (past || digit) (bad ℕ 2) (bad ℕ 4) ≡ bad ℕ place
        → IsLongestFront IsOrderFront (79 ∷ space ∷ high ∷ low ∷ byte ∷ rest) place
    by_tests true p digit d f =
        no_machine (high ∷ low ∷ byte ∷ rest) place
        (none_past_last high low (byte ∷ rest) digits (inl (ltb-true last_machine (number_of high low) p))) f
    by_tests false p true d f = no_machine (high ∷ low ∷ byte ∷ rest) place (none_past_last high low (byte ∷ rest) digits (inr d)) f
    by_tests false p false d f =
        subst (IsLongestFront IsOrderFront (79 ∷ space ∷ high ∷ low ∷ byte ∷ rest)) (place_of_bad ℕ 4 place f)
        (digits_last (high ∷ low ∷ byte ∷ rest) (high ∷ low ∷ []) (byte ∷ rest) refl
        (OrderMachine (number_of high low) (ltb-false last_machine (number_of high low) p) (inr d)
        (ap (λ (x : List ℕ). 79 ∷ space ∷ x) (both_digits high low digits)))
        (two_at_most (high ∷ low ∷ byte ∷ rest)))

-- the first digit ends the number, as it is a zero or no digit stands behind it
one_digit_place : (byte next place : ℕ) (rest : List ℕ) → is_digit byte ≡ true → (byte ≡ 48) ⊎ (is_digit next ≡ false)
    → bad ℕ 3 ≡ bad ℕ place → IsLongestFront IsOrderFront (79 ∷ space ∷ byte ∷ next ∷ rest) place
one_digit_place byte next place rest digit ends e =
    subst (IsLongestFront IsOrderFront (79 ∷ space ∷ byte ∷ next ∷ rest)) (place_of_bad ℕ 3 place e)
    (digits_last (byte ∷ next ∷ rest) (byte ∷ []) (next ∷ rest) refl
    (OrderMachine (byte - 48) (omega (arith, to_nine byte digit)) (its_ends ends)
    (ap (λ (x : List ℕ). 79 ∷ space ∷ x) (one_digit byte digit)))
    (one_at_most byte next rest ends))
  where
    its_ends : (byte ≡ 48) ⊎ (is_digit next ≡ false) → Ends (byte - 48) (next ∷ rest)
    its_ends (inl zero_is) = inl (omega arith)
    its_ends (inr none) = inr none

number_place : (line : Line) (digits : List ℕ) (place : ℕ) → line.bytes ≡ 79 ∷ space ∷ digits → number_at line digits ≡ Err (Bad place)
    → IsLongestFront IsOrderFront (79 ∷ space ∷ digits) place
number_place line [] place bytes e =
    subst (IsLongestFront IsOrderFront (79 ∷ space ∷ [])) (place_of_bad ℕ 2 place e)
    (leaves_nothing IsOrderFront (79 ∷ space ∷ []) (OrderGap refl))
number_place line (byte ∷ []) place bytes e =
    elim (is_digit byte) as (λ b. is_digit byte ≡ b → cond b (whole_number line (byte - 48)) (Err (Bad 2)) ≡ Err (Bad place)
    → IsLongestFront IsOrderFront (79 ∷ space ∷ byte ∷ []) place) [
      | true ↦ λ t f. feed_missing line (byte ∷ []) (byte - 48) place bytes (omega (arith, to_nine byte t)) (one_digit byte t) f
      | false ↦ λ t f. no_machine (byte ∷ []) place (none_without_digit byte [] t) f
    ] refl e
number_place line (byte ∷ next ∷ rest) place bytes e =
    elim (is_digit byte) as (λ b. is_digit byte ≡ b
    → cond (not b) (Err (Bad 2)) (cond (byte == 48 || not (is_digit next)) (Err (Bad 3)) (two_digits line (number_of byte next) rest)) ≡ Err (Bad place)
    → IsLongestFront IsOrderFront (79 ∷ space ∷ byte ∷ next ∷ rest) place) [
      | true ↦ λ t f. by_next t (byte == 48) refl (is_digit next) refl f
      | false ↦ λ t f. no_machine (byte ∷ next ∷ rest) place (none_without_digit byte (next ∷ rest) t) f
    ] refl e
  where
    by_next : is_digit byte ≡ true → (zero_byte : Bool) → (byte == 48) ≡ zero_byte → (digit : Bool) → is_digit next ≡ digit
        → cond (zero_byte || not digit) (Err (Bad 3)) (two_digits line (number_of byte next) rest) ≡ Err (Bad place)
        → IsLongestFront IsOrderFront (79 ∷ space ∷ byte ∷ next ∷ rest) place
    by_next t true z digit d f = one_digit_place byte next place rest t (inl (eqb-true byte 48 z)) f
    by_next t false z false d f = one_digit_place byte next place rest t (inr d) f
    by_next t false z true d f =
        two_digits_place line byte next place rest bytes (record { high_is = t; not_zero = z; low_is = d }) f

-- how a line of an order is read, as its letter and its number
read_as : (line : Line) (bytes : List ℕ) → machine_at line bytes ≡ read_behind 79 (number_at line) bytes
unfolding machine_at
read_as line [] = refl
read_as line (kind ∷ []) = refl
read_as line (kind ∷ gap ∷ digits) = refl

pub order_places : AreOrderPlaces
order_places line place e =
    line_longest IsOrderFront 79 (number_at line) line.bytes place headed
    (λ digits its_place bytes f.
    subst (λ (x : List ℕ). IsLongestFront IsOrderFront x its_place) (sym bytes) (number_place line digits its_place bytes f))
    (sym (read_as line line.bytes) ∙ e)
