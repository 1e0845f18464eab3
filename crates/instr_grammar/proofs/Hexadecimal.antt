-- Bytes by their hexadecimal digits: what was read is spelled so, and what is spelled is read.
use Rattle.std.proofs.Common.{◌≡◌, ℕ, zero, suc, ◌+◌, ◌-◌, ◌*◌, ◌/◌, ◌%◌, ◌<◌, ◌≤◌, Bool, true, false, not, cond, ltb, List, [], ◌∷◌, ◌++◌, length, take, Result, Ok, Err, refl, sym, ap, ◌∙◌, append_assoc, arith}
use Rattle.std.proofs.lemmas.Bool.{ltb-true, lt-ltb}
use Rattle.std.proofs.lemmas.Bool.Decides.{nat_tests}
use Rattle.std.proofs.lemmas.List.{append-nil, take_all}
use Rattle.model_lines.specs.Printing.{hexadecimal_digit}
use Rattle.model_lines.specs.Reading.{digit_of}
use Rattle.dump_reading.specs.declared.field.FieldFault.{FieldFault}
use Rattle.dump_reading.specs.declared.field.FieldFault.TheVariants as faults
use Rattle.dump_reading.specs.FieldAnswers.{Fails}
use Rattle.dump_reading.specs.Fields.{◌>>=◌}
use Rattle.instr_grammar.specs.Texts.{two_digits, in_hexadecimal}
use Rattle.instr_grammar.specs.Reading.{digits_at, with_bytes, hexadecimal_at}
use Rattle.instr_grammar.proofs.Runs.{AreBytes}

abbrev pub BytesRead : Type 0
BytesRead = Result (List ℕ × List ℕ) ℕ

-- ---- steps of the loop

with_nothing : (read : BytesRead) → with_bytes [] read ≡ read
with_nothing (Ok read) = refl
with_nothing (Err left) = refl

joined : (front more : List ℕ) (read : BytesRead) → with_bytes front (with_bytes more read) ≡ with_bytes (front ++ more) read
joined front more (Ok read) = ap (λ (x : List ℕ). Ok (x, read.1)) (sym (append_assoc front more read.0))
joined front more (Err left) = refl

pub hex_begins : (most : ℕ) (bytes read : List ℕ) → with_bytes (take 0 read) (hexadecimal_at (most - 0) bytes) ≡ hexadecimal_at most bytes
hex_begins most bytes read =
    let whole : most - 0 ≡ most = omega arith in
    with_nothing (hexadecimal_at (most - 0) bytes) ∙ ap (λ (n : ℕ). hexadecimal_at n bytes) whole

step : (most i : ℕ) (left : List ℕ) → i < most
    → hexadecimal_at (most - i) left ≡ (digits_at left >>= (λ first. with_bytes (first.0 ∷ []) (hexadecimal_at (most - (i + 1)) first.1)))
unfolding hexadecimal_at
step most i left h = let one_less : most - i ≡ suc (most - (i + 1)) = omega arith in rw one_less refl

pub hex_goes_on : (most i : ℕ) (front left rest : List ℕ) (byte : ℕ) (total : BytesRead) → i < most → digits_at left ≡ Ok (byte, rest)
    → with_bytes front (hexadecimal_at (most - i) left) ≡ total → with_bytes (front ++ byte ∷ []) (hexadecimal_at (most - (i + 1)) rest) ≡ total
hex_goes_on most i front left rest byte total h e so_far =
    let here = step most i left h ∙ rw e refl in
    sym (joined front (byte ∷ []) (hexadecimal_at (most - (i + 1)) rest)) ∙ ap (with_bytes front) (sym here) ∙ so_far

pub hex_fails : (most i : ℕ) (front left : List ℕ) (fault : FieldFault) (total : BytesRead) → i < most → Fails fault (digits_at left)
    → with_bytes front (hexadecimal_at (most - i) left) ≡ total → Fails fault total
hex_fails most i front left (faults.Bad place) total h e so_far =
    let here : hexadecimal_at (most - i) left ≡ Err place = step most i left h ∙ rw e refl in
    sym so_far ∙ ap (with_bytes front) here
hex_fails most i front left faults.NoMemory total h e so_far = tt

pub hex_ends : (most i : ℕ) (read left : List ℕ) (total : BytesRead) → most ≤ i → length read ≡ most
    → with_bytes (take i read) (hexadecimal_at (most - i) left) ≡ total → total ≡ Ok (read, left)
unfolding hexadecimal_at
hex_ends most i read left total h len so_far =
    let none : most - i ≡ 0 = omega arith in
    let here : with_bytes (take i read) (hexadecimal_at (most - i) left) ≡ Ok (take i read ++ [], left) = rw none refl in
    sym so_far ∙ here ∙ ap (λ (x : List ℕ). Ok (x, left)) (append-nil (take i read) ∙ take_all i read (omega (arith, len)))

-- ---- digits

digit_again : (n : ℕ) → n < 16 → digit_of (hexadecimal_digit n) ≡ n
digit_again n h = grind (arith, nat_tests)

digit_was : (byte : ℕ) → digit_of byte < 16 → hexadecimal_digit (digit_of byte) ≡ byte
digit_was byte h = grind (arith, nat_tests)

pub digits_again : (byte : ℕ) (rest : List ℕ) → byte < 256 → digits_at (two_digits byte ++ rest) ≡ Ok (byte, rest)
unfolding digits_at
digits_again byte rest h =
    let high : byte / 16 < 16 = omega arith in
    let low : byte % 16 < 16 = omega arith in
    let whole : 16 * (byte / 16) + byte % 16 ≡ byte = omega arith in
    rw (digit_again (byte / 16) high, digit_again (byte % 16) low, lt-ltb (byte / 16) 16 high, lt-ltb (byte % 16) 16 low, whole) refl

pub hexadecimal_again : (bytes rest : List ℕ) → AreBytes bytes → hexadecimal_at (length bytes) (in_hexadecimal bytes ++ rest) ≡ Ok (bytes, rest)
unfolding hexadecimal_at in_hexadecimal
hexadecimal_again [] rest h = refl
hexadecimal_again (byte ∷ bytes) rest h =
    rw (digits_again byte (in_hexadecimal bytes ++ rest) h.0) (ap (with_bytes (byte ∷ [])) (hexadecimal_again bytes rest h.1))

-- what reading of so many bytes says of the bytes at whose front it read
abbrev pub SpelledIn : ℕ → List ℕ → BytesRead → Type 0
SpelledIn count bytes (Err left) = Unit {0}
SpelledIn count bytes (Ok read) = (bytes ≡ in_hexadecimal read.0 ++ read.1) × AreBytes read.0 × (length read.0 ≡ count)

abbrev Spelled : List ℕ → Result (ℕ × List ℕ) ℕ → Type 0
Spelled bytes (Err left) = Unit {0}
Spelled bytes (Ok read) = (bytes ≡ two_digits read.0 ++ read.1) × (read.0 < 256)

digits_spelled : (high low : ℕ) (rest : List ℕ) (h l : Bool) → ltb (digit_of high) 16 ≡ h → ltb (digit_of low) 16 ≡ l
    → Spelled (high ∷ low ∷ rest) (cond (not h) (Err (length (high ∷ low ∷ rest))) (cond (not l) (Err (length (low ∷ rest))) (Ok (16 * digit_of high + digit_of low, rest))))
digits_spelled high low rest false l e f = tt
digits_spelled high low rest true false e f = tt
digits_spelled high low rest true true e f =
    let h : digit_of high < 16 = ltb-true (digit_of high) 16 e in
    let l : digit_of low < 16 = ltb-true (digit_of low) 16 f in
    let byte = 16 * digit_of high + digit_of low in
    let high_is : byte / 16 ≡ digit_of high = omega arith in
    let low_is : byte % 16 ≡ digit_of low = omega arith in
    (rw (high_is, low_is, digit_was high h, digit_was low l) refl, omega arith)

one_spelled : (high : ℕ) (h : Bool) → Spelled (high ∷ []) (cond h (Err 0) (Err 1))
one_spelled high true = tt
one_spelled high false = tt

digits_were : (bytes : List ℕ) → Spelled bytes (digits_at bytes)
unfolding digits_at
digits_were [] = tt
digits_were (high ∷ []) = one_spelled high (ltb (digit_of high) 16)
digits_were (high ∷ low ∷ rest) = digits_spelled high low rest (ltb (digit_of high) 16) (ltb (digit_of low) 16) refl refl

more_were : (count : ℕ) (bytes : List ℕ) (byte : ℕ) (rest : List ℕ) (later : BytesRead) → bytes ≡ two_digits byte ++ rest → byte < 256
    → SpelledIn count rest later → SpelledIn (suc count) bytes (with_bytes (byte ∷ []) later)
unfolding in_hexadecimal
more_were count bytes byte rest (Err left) e h is = tt
more_were count bytes byte rest (Ok read) e h is =
    (e ∙ ap (λ (x : List ℕ). two_digits byte ++ x) is.0 ∙ sym (append_assoc (two_digits byte) (in_hexadecimal read.0) read.1), (h, is.1), ap suc is.2)

first_were : (count : ℕ) (bytes : List ℕ) (first : Result (ℕ × List ℕ) ℕ) → Spelled bytes first → ((rest : List ℕ) → SpelledIn count rest (hexadecimal_at count rest))
    → SpelledIn (suc count) bytes (first >>= (λ one. with_bytes (one.0 ∷ []) (hexadecimal_at count one.1)))
first_were count bytes (Err left) is more = tt
first_were count bytes (Ok one) is more = more_were count bytes one.0 one.1 (hexadecimal_at count one.1) is.0 is.1 (more one.1)

pub hexadecimal_were : (count : ℕ) (bytes : List ℕ) → SpelledIn count bytes (hexadecimal_at count bytes)
unfolding hexadecimal_at in_hexadecimal
hexadecimal_were zero bytes = (refl, tt, refl)
hexadecimal_were (suc count) bytes = first_were count bytes (digits_at bytes) (digits_were bytes) (λ rest. hexadecimal_were count rest)
