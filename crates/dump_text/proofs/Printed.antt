-- What is printed is read as it was, and what is read was printed so.
use Rattle.std.proofs.Common.{◌≡◌, ℕ, zero, suc, ◌+◌, ◌*◌, ◌/◌, ◌%◌, ◌<◌, Bool, true, false, cond, not, ◌&&◌, ◌==◌, ltb, List, [], ◌∷◌, ◌++◌, length, refl, sym, ap, ◌∙◌, append_assoc, arith}
use Rattle.std.specs.List.{AllByRecursion}
use Rattle.std.proofs.lemmas.Bool.{eqb-true, ltb-true, lt-ltb, not-true}
use Rattle.std.proofs.lemmas.Bool.Decides.{nat_tests}
use Rattle.model_lines.specs.Printing.{is_plain, backslash, separator, printed, printable, hexadecimal_digit}
use Rattle.model_lines.specs.Reading.{Piece, Nothing, Spelled, Separator, Unfit, piece_at, hexadecimal_piece, escaped_piece, digit_of, behind, read_on, ReadText, text_of, Stop, AtEnd, AtSeparator, AtFault}
use Rattle.dump_text.specs.Texts.{with_front}
use Rattle.dump_text.proofs.Pieces.{text_spelled, text_read_on, Shorter, piece_shorter}

-- ---- digits

digit_again : (n : ℕ) → n < 16 → digit_of (hexadecimal_digit n) ≡ n
digit_again n h = grind (arith, nat_tests)

digit_was : (byte : ℕ) → digit_of byte < 16 → hexadecimal_digit (digit_of byte) ≡ byte
digit_was byte h = grind (arith, nat_tests)

-- ---- a byte that was printed is read again

spelled_hexadecimal : (byte : ℕ) (rest : List ℕ) → byte < 256 → is_plain byte ≡ false → (byte == backslash) ≡ false
    → hexadecimal_piece (hexadecimal_digit (byte / 16) ∷ hexadecimal_digit (byte % 16) ∷ rest) ≡ Spelled byte rest
spelled_hexadecimal byte rest h p b =
    let high : byte / 16 < 16 = omega arith in
    let low : byte % 16 < 16 = omega arith in
    let whole : 16 * (byte / 16) + byte % 16 ≡ byte = omega arith in
    let high_test : ltb (byte / 16) 16 ≡ true = lt-ltb (byte / 16) 16 high in
    let low_test : ltb (byte % 16) 16 ≡ true = lt-ltb (byte % 16) 16 low in
    rw (digit_again (byte / 16) high, digit_again (byte % 16) low, whole, high_test, low_test, p, b) refl

pub piece_printed : (byte : ℕ) (rest : List ℕ) → byte < 256 → piece_at (printed byte ++ rest) ≡ Spelled byte rest
unfolding piece_at
piece_printed byte rest h =
    elim (is_plain byte) as (λ p. is_plain byte ≡ p → piece_at (printed byte ++ rest) ≡ Spelled byte rest) [
      | true ↦ λ p. rw (p, p) refl
      | false ↦ λ p.
          elim (byte == backslash) as (λ b. (byte == backslash) ≡ b → piece_at (printed byte ++ rest) ≡ Spelled byte rest) [
            | true ↦ λ b. let is : byte ≡ backslash = eqb-true byte backslash b in rw is refl
            | false ↦ λ b. rw (p, b) (spelled_hexadecimal byte rest h p b)
          ] refl
    ] refl

pub text_printed : (bytes rest : List ℕ) → AllByRecursion (λ b. b < 256) bytes
    → text_of (printable bytes ++ rest) ≡ with_front bytes (text_of rest)
unfolding printable
text_printed [] rest h = refl
text_printed (byte ∷ bytes) rest h =
    let regrouped : printable (byte ∷ bytes) ++ rest ≡ printed byte ++ (printable bytes ++ rest) =
    append_assoc (printed byte) (printable bytes) rest in
    ap text_of regrouped
    ∙ text_spelled (printed byte ++ (printable bytes ++ rest)) (printable bytes ++ rest) byte
    (piece_printed byte (printable bytes ++ rest) h.0)
    ∙ ap (with_front (byte ∷ [])) (text_printed bytes rest h.1)

-- ---- a byte that was read was printed so

-- what a piece says of the bytes that it begins
abbrev pub Spells : List ℕ → Piece → Type 0
Spells bytes Nothing = bytes ≡ []
Spells bytes (Spelled byte rest) = (bytes ≡ printed byte ++ rest) × (byte < 256)
Spells bytes (Separator rest) = bytes ≡ separator ++ rest
Spells bytes Unfit = Unit {0}

spells_cond : (bytes : List ℕ) (test : Bool) (p q : Piece) → (test ≡ true → Spells bytes p) → (test ≡ false → Spells bytes q)
    → Spells bytes (cond test p q)
spells_cond bytes true p q h k = h refl
spells_cond bytes false p q h k = k refl

both_true : (a b : Bool) → (a && b) ≡ true → (a ≡ true) × (b ≡ true)
both_true true b e = (refl, e)
both_true false b e = absurd cc

spells_plain : (byte : ℕ) (rest : List ℕ) → is_plain byte ≡ true → Spells (byte ∷ rest) (Spelled byte rest)
spells_plain byte rest e =
    let low = both_true (not (ltb byte 32) && ltb byte 127) (not (byte == backslash)) e in
    let less : byte < 127 = ltb-true byte 127 (both_true (not (ltb byte 32)) (ltb byte 127) low.0).1 in
    (rw e refl, omega arith)

spelled_by : (high low : ℕ) (rest : List ℕ) → digit_of high < 16 → digit_of low < 16
    → is_plain (16 * digit_of high + digit_of low) ≡ false → (16 * digit_of high + digit_of low == backslash) ≡ false
    → backslash ∷ 120 ∷ high ∷ low ∷ rest ≡ printed (16 * digit_of high + digit_of low) ++ rest
spelled_by high low rest h l p b =
    let high_is : (16 * digit_of high + digit_of low) / 16 ≡ digit_of high = omega arith in
    let low_is : (16 * digit_of high + digit_of low) % 16 ≡ digit_of low = omega arith in
    rw (p, b, high_is, low_is, digit_was high h, digit_was low l) refl

spells_hexadecimal : (high low : ℕ) (rest : List ℕ) → Spells (backslash ∷ 120 ∷ high ∷ low ∷ rest) (hexadecimal_piece (high ∷ low ∷ rest))
spells_hexadecimal high low rest =
    let byte = 16 * digit_of high + digit_of low in
    spells_cond (backslash ∷ 120 ∷ high ∷ low ∷ rest)
    (ltb (digit_of high) 16 && ltb (digit_of low) 16 && not (is_plain byte) && not (byte == backslash)) (Spelled byte rest) Unfit
    (λ e.
    let other = both_true (ltb (digit_of high) 16 && ltb (digit_of low) 16 && not (is_plain byte)) (not (byte == backslash)) e in
    let plain = both_true (ltb (digit_of high) 16 && ltb (digit_of low) 16) (not (is_plain byte)) other.0 in
    let digits = both_true (ltb (digit_of high) 16) (ltb (digit_of low) 16) plain.0 in
    let h : digit_of high < 16 = ltb-true (digit_of high) 16 digits.0 in
    let l : digit_of low < 16 = ltb-true (digit_of low) 16 digits.1 in
    (spelled_by high low rest h l (not-true (is_plain byte) plain.1) (not-true (byte == backslash) other.1), omega arith))
    (λ e. tt)

spells_hexadecimals : (bytes : List ℕ) → Spells (backslash ∷ 120 ∷ bytes) (hexadecimal_piece bytes)
spells_hexadecimals [] = tt
spells_hexadecimals (high ∷ []) = tt
spells_hexadecimals (high ∷ low ∷ rest) = spells_hexadecimal high low rest

spells_escaped : (bytes : List ℕ) → Spells (backslash ∷ bytes) (escaped_piece bytes)
spells_escaped [] = tt
spells_escaped (byte ∷ rest) =
    let whole = backslash ∷ byte ∷ rest in
    let hexadecimal = cond (byte == 120) (hexadecimal_piece rest) Unfit in
    let separated = cond (byte == 61) (Separator rest) hexadecimal in
    spells_cond whole (byte == backslash) (Spelled backslash rest) separated
    (λ e. (rw (eqb-true byte backslash e) refl, omega arith))
    (λ e. spells_cond whole (byte == 61) (Separator rest) hexadecimal
    (λ f. rw (eqb-true byte 61 f) refl)
    (λ f. spells_cond whole (byte == 120) (hexadecimal_piece rest) Unfit
    (λ g. rw (eqb-true byte 120 g) (spells_hexadecimals rest))
    (λ g. tt)))

pub piece_spells : (bytes : List ℕ) → Spells bytes (piece_at bytes)
unfolding piece_at
piece_spells [] = refl
piece_spells (byte ∷ rest) =
    let escaped = cond (byte == backslash) (escaped_piece rest) Unfit in
    spells_cond (byte ∷ rest) (is_plain byte) (Spelled byte rest) escaped (spells_plain byte rest)
    (λ p. spells_cond (byte ∷ rest) (byte == backslash) (escaped_piece rest) Unfit
    (λ b. rw (eqb-true byte backslash b) (spells_escaped rest))
    (λ b. tt))

-- ---- a text that was read was printed so

-- what stands behind the bytes that were read
abbrev pub ending : Stop → List ℕ → List ℕ
ending AtEnd left = []
ending AtSeparator left = separator ++ left
ending AtFault left = left

pub record IsSpelled (bytes : List ℕ) (text : ReadText) : Type 0 where
  pub parts : bytes ≡ printable text.bytes ++ ending text.stop text.left
  pub small : AllByRecursion (λ b. b < 256) text.bytes

read_on_spelled : (bytes : List ℕ) (p : Piece) (text : ReadText) → Spells bytes p
    → (length (behind p) < length bytes → IsSpelled (behind p) text) → Shorter (length bytes) p → IsSpelled bytes (read_on bytes p text)
unfolding printable
read_on_spelled bytes Nothing text h k s = record { parts = h; small = tt }
read_on_spelled bytes (Spelled byte rest) text h k s =
    let later = k s in
    record {
      parts = h.0 ∙ ap (λ (x : List ℕ). printed byte ++ x) later.parts
          ∙ sym (append_assoc (printed byte) (printable text.bytes) (ending text.stop text.left));
      small = (h.1, later.small);
    }
read_on_spelled bytes (Separator rest) text h k s = record { parts = h; small = tt }
read_on_spelled bytes Unfit text h k s = record { parts = refl; small = tt }

text_spells : (n : ℕ) (bytes : List ℕ) → length bytes < n → IsSpelled bytes (text_of bytes)
text_spells zero bytes h = absurd (omega arith)
text_spells (suc n) bytes h =
    let more = λ (l : length (behind (piece_at bytes)) < length bytes). text_spells n (behind (piece_at bytes)) (omega arith) in
    rw (text_read_on bytes) (read_on_spelled bytes (piece_at bytes) (text_of (behind (piece_at bytes))) (piece_spells bytes) more (piece_shorter bytes))

pub text_was : (bytes : List ℕ) → IsSpelled bytes (text_of bytes)
text_was bytes = text_spells (suc (length bytes)) bytes (omega arith)
