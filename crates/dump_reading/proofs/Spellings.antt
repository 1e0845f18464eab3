-- A byte that was read was spelled so, and a byte that is spelled is read.
use Rattle.std.proofs.Common.{◌≡◌, ℕ, ◌+◌, ◌*◌, ◌/◌, ◌%◌, ◌<◌, Bool, true, false, cond, not, ◌&&◌, ◌==◌, ltb, List, [], ◌∷◌, ◌++◌, length, Option, Some, None, refl, sym, ap, ◌∙◌, arith}
use Rattle.std.proofs.lemmas.Bool.{eqb-true, ltb-true, lt-ltb, and_parts}
use Rattle.std.proofs.lemmas.Bool.Decides.{nat_tests}
use Rattle.model_lines.specs.Printing.{is_plain, backslash, in_digits, printed_but, hexadecimal_digit}
use Rattle.model_lines.specs.Reading.{digit_of}
use Rattle.dump_reading.specs.Spellings.{is_by_digits, digits_at, escape_at, byte_at, Front, spelled}

-- ---- the spelling of a byte, by whether it has digits

-- a byte that stands for itself or is the backslash
abbrev shortly : ℕ → List ℕ
shortly byte = cond (byte == backslash) (backslash ∷ backslash ∷ []) (byte ∷ [])

plain_choice : (byte : ℕ) → printed_but None byte ≡ cond (is_by_digits None byte) (in_digits byte) (shortly byte)
plain_choice byte =
    elim (byte == backslash) as (λ b. (byte == backslash) ≡ b → printed_but None byte ≡ cond (is_by_digits None byte) (in_digits byte) (shortly byte)) [
      | true ↦ λ b. rw (eqb-true byte backslash b) refl
      | false ↦ λ b.
          elim (is_plain byte) as (λ p. is_plain byte ≡ p → printed_but None byte ≡ cond (is_by_digits None byte) (in_digits byte) (shortly byte)) [
            | true ↦ λ p. rw (p, b) refl
            | false ↦ λ p. rw (p, b) refl
          ] refl
    ] refl

by_choice : (escaped : Option ℕ) (byte : ℕ) → printed_but escaped byte ≡ cond (is_by_digits escaped byte) (in_digits byte) (shortly byte)
by_choice None byte = plain_choice byte
by_choice (Some escaped) byte =
    elim (byte == escaped) as (λ e. (byte == escaped) ≡ e → printed_but (Some escaped) byte ≡ cond (is_by_digits (Some escaped) byte) (in_digits byte) (shortly byte)) [
      | true ↦ λ e. rw e refl
      | false ↦ λ e. rw e (plain_choice byte)
    ] refl

by_its_digits : (escaped : Option ℕ) (byte : ℕ) → is_by_digits escaped byte ≡ true → printed_but escaped byte ≡ in_digits byte
by_its_digits escaped byte e = by_choice escaped byte ∙ rw e refl

by_itself : (escaped : Option ℕ) (byte : ℕ) → is_by_digits escaped byte ≡ false → printed_but escaped byte ≡ shortly byte
by_itself escaped byte e = by_choice escaped byte ∙ rw e refl

-- a spelling has a byte at least
pub length-spelling : (escaped : Option ℕ) (byte : ℕ) → 0 < length (printed_but escaped byte)
length-spelling escaped byte = rw (by_choice escaped byte)
    (of_choice (is_by_digits escaped byte) (byte == backslash))
  where
    of_choice : (d b : Bool) → 0 < length (cond d (in_digits byte) (cond b (backslash ∷ backslash ∷ []) (byte ∷ [])))
    of_choice true b = omega arith
    of_choice false true = omega arith
    of_choice false false = omega arith

-- ---- digits

digit_again : (n : ℕ) → n < 16 → digit_of (hexadecimal_digit n) ≡ n
digit_again n h = grind (arith, nat_tests)

digit_was : (byte : ℕ) → digit_of byte < 16 → hexadecimal_digit (digit_of byte) ≡ byte
digit_was byte h = grind (arith, nat_tests)

-- ---- a byte that was read was spelled so

-- what a reading says of the bytes at whose front it read
abbrev pub Spells : Option ℕ → List ℕ → Option Front → Type 0
Spells escaped bytes None = Unit {0}
Spells escaped bytes (Some front) = (bytes ≡ printed_but escaped front.0 ++ front.1) × (front.0 < 256)

spells_cond : (escaped : Option ℕ) (bytes : List ℕ) (test : Bool) (p q : Option Front) → (test ≡ true → Spells escaped bytes p)
    → (test ≡ false → Spells escaped bytes q) → Spells escaped bytes (cond test p q)
spells_cond escaped bytes true p q h k = h refl
spells_cond escaped bytes false p q h k = k refl

digits_spell : (escaped : Option ℕ) (high low : ℕ) (rest : List ℕ)
    → Spells escaped (backslash ∷ 120 ∷ high ∷ low ∷ rest) (digits_at escaped (high ∷ low ∷ rest))
digits_spell escaped high low rest =
    let byte = 16 * digit_of high + digit_of low in
    let whole = backslash ∷ 120 ∷ high ∷ low ∷ rest in
    spells_cond escaped whole (ltb (digit_of high) 16 && ltb (digit_of low) 16 && is_by_digits escaped byte) (spelled byte rest) None
    (λ e.
    let parts = and_parts (ltb (digit_of high) 16 && ltb (digit_of low) 16) (is_by_digits escaped byte) e in
    let tests = and_parts (ltb (digit_of high) 16) (ltb (digit_of low) 16) parts.0 in
    let h : digit_of high < 16 = ltb-true (digit_of high) 16 tests.0 in
    let l : digit_of low < 16 = ltb-true (digit_of low) 16 tests.1 in
    let high_is : byte / 16 ≡ digit_of high = omega arith in
    let low_is : byte % 16 ≡ digit_of low = omega arith in
    let digits_are : in_digits byte ≡ backslash ∷ 120 ∷ high ∷ low ∷ [] = rw (high_is, low_is, digit_was high h, digit_was low l) refl in
    (ap (λ (x : List ℕ). x ++ rest) (sym digits_are ∙ sym (by_its_digits escaped byte parts.1)), omega arith))
    (λ e. tt)

all_digits_spell : (escaped : Option ℕ) (bytes : List ℕ) → Spells escaped (backslash ∷ 120 ∷ bytes) (digits_at escaped bytes)
all_digits_spell escaped [] = tt
all_digits_spell escaped (high ∷ []) = tt
all_digits_spell escaped (high ∷ low ∷ rest) = digits_spell escaped high low rest

not_is : (b : Bool) → not b ≡ true → b ≡ false
not_is true e = absurd cc
not_is false e = refl

escape_spells : (escaped : Option ℕ) (bytes : List ℕ) → Spells escaped (backslash ∷ bytes) (escape_at escaped bytes)
escape_spells escaped [] = tt
escape_spells escaped (byte ∷ rest) =
    let whole = backslash ∷ byte ∷ rest in
    let digits = cond (byte == 120) (digits_at escaped rest) None in
    spells_cond escaped whole (byte == backslash && not (is_by_digits escaped backslash)) (spelled backslash rest) digits
    (λ e.
    let parts = and_parts (byte == backslash) (not (is_by_digits escaped backslash)) e in
    let itself = by_itself escaped backslash (not_is (is_by_digits escaped backslash) parts.1) in
    (rw (eqb-true byte backslash parts.0) (ap (λ (x : List ℕ). x ++ rest) (sym itself)), omega arith))
    (λ e. spells_cond escaped whole (byte == 120) (digits_at escaped rest) None
    (λ f. rw (eqb-true byte 120 f) (all_digits_spell escaped rest))
    (λ f. tt))

plain_spells : (escaped : Option ℕ) (byte : ℕ) (rest : List ℕ) → (byte == backslash) ≡ false
    → (is_plain byte && not (is_by_digits escaped byte)) ≡ true → Spells escaped (byte ∷ rest) (spelled byte rest)
plain_spells escaped byte rest b e =
    let parts = and_parts (is_plain byte) (not (is_by_digits escaped byte)) e in
    let itself = by_itself escaped byte (not_is (is_by_digits escaped byte) parts.1) in
    let one : shortly byte ≡ byte ∷ [] = rw b refl in
    let plain = parts.0 in
    let less : byte < 256 = grind (arith, nat_tests) in
    (ap (λ (x : List ℕ). x ++ rest) (sym one ∙ sym itself), less)

pub byte_spells : (escaped : Option ℕ) (bytes : List ℕ) → Spells escaped bytes (byte_at escaped bytes)
unfolding byte_at
byte_spells escaped [] = tt
byte_spells escaped (byte ∷ rest) =
    let plain = cond (is_plain byte && not (is_by_digits escaped byte)) (spelled byte rest) None in
    spells_cond escaped (byte ∷ rest) (byte == backslash) (escape_at escaped rest) plain
    (λ e. rw (eqb-true byte backslash e) (escape_spells escaped rest))
    (λ e. spells_cond escaped (byte ∷ rest) (is_plain byte && not (is_by_digits escaped byte)) (spelled byte rest) None
    (plain_spells escaped byte rest e)
    (λ f. tt))

-- ---- a byte that is spelled is read

plain_is : (escaped : Option ℕ) (byte : ℕ) → is_by_digits escaped byte ≡ false → (byte == backslash) ≡ false → is_plain byte ≡ true
plain_is None byte e b = grind (arith, nat_tests)
plain_is (Some escaped) byte e b = grind (arith, nat_tests)

digits_again : (escaped : Option ℕ) (byte : ℕ) (rest : List ℕ) → byte < 256 → is_by_digits escaped byte ≡ true
    → digits_at escaped (hexadecimal_digit (byte / 16) ∷ hexadecimal_digit (byte % 16) ∷ rest) ≡ spelled byte rest
digits_again escaped byte rest h e =
    let high : byte / 16 < 16 = omega arith in
    let low : byte % 16 < 16 = omega arith in
    let whole : 16 * (byte / 16) + byte % 16 ≡ byte = omega arith in
    let high_test : ltb (byte / 16) 16 ≡ true = lt-ltb (byte / 16) 16 high in
    let low_test : ltb (byte % 16) 16 ≡ true = lt-ltb (byte % 16) 16 low in
    rw (digit_again (byte / 16) high, digit_again (byte % 16) low, whole, high_test, low_test, e) refl

pub byte_again : (escaped : Option ℕ) (byte : ℕ) (rest : List ℕ) → byte < 256
    → byte_at escaped (printed_but escaped byte ++ rest) ≡ spelled byte rest
unfolding byte_at
byte_again escaped byte rest h =
    elim (is_by_digits escaped byte) as (λ d. is_by_digits escaped byte ≡ d → byte_at escaped (printed_but escaped byte ++ rest) ≡ spelled byte rest) [
      | true ↦ λ d. rw (by_its_digits escaped byte d) (digits_again escaped byte rest h d)
      | false ↦ λ d. rw (by_itself escaped byte d)
          (elim (byte == backslash) as (λ b. (byte == backslash) ≡ b → byte_at escaped (shortly byte ++ rest) ≡ spelled byte rest) [
            | true ↦ λ b. let is = eqb-true byte backslash b in let itself = rw is at d in rw (is, itself) refl
            | false ↦ λ b. let plain = rw b at (plain_is escaped byte d b) in rw (b, b, plain, d) refl
          ] refl)
    ] refl
