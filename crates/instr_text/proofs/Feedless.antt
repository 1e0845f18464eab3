-- No line feed stands in a line of instruction text.
use Rattle.std.proofs.Common.{◌≡◌, ⊎_elim, ℕ, suc, ◌/◌, ◌%◌, ◌^◌, ◌<◌, ◌≤◌, Bool, true, false, ◌==◌, ◌||◌, List, [], ◌∷◌, ◌++◌, Some, pos, negsuc, refl, sym, subst, arith}
use Rattle.std.specs.Prelude.{codes, bytes_eq}
use Rattle.std.specs.Fmt.{decimal}
use Rattle.std.specs.List.{list_all}
use Rattle.std.proofs.lemmas.Bool.{and_parts, le-ltb}
use Rattle.std.proofs.lemmas.Bool.Decides.{nat_tests}
use Rattle.std.proofs.lemmas.Slice.Eq.{bytes_eq-Decides}
use Rattle.model_lines.specs.Printing.{is_plain, backslash, hexadecimal_digit, in_digits, printed, printed_but, printable, printable_but}
use Rattle.model_lines.proofs.Lines.{IsFeedless, IsFeedless-append}
use Rattle.model_input.specs.Orders.{is_digit}
use Rattle.fdb_tuple.specs.Tuples.{Scalar, Null, Bytes, Text, Int, Boolean, Uuid, Stamp, Elements, Empty, Single, Nested, IsScalar, AreElements, greatest_magnitude}
use Rattle.instr_grammar.specs.Names.{names, push, is_among}
use Rattle.instr_grammar.specs.Texts.{quote, opening, closing, gap, in_hexadecimal, quoted, scalar_text, elements_text, Instruction, IsInstruction, Takes}
use Rattle.dump_reading.proofs.Numbers.{digits_of_number}

feedless_by : (p : ℕ → Bool) → ((byte : ℕ) → p byte ≡ true → (byte == 10) ≡ false) → (bytes : List ℕ) → list_all p bytes ≡ true
    → IsFeedless bytes
feedless_by p h [] e = tt
feedless_by p h (byte ∷ bytes) e =
    let both = and_parts (p byte) (list_all p bytes) e in
    (h byte both.0, feedless_by p h bytes both.1)

digit_is_no_feed : (byte : ℕ) → is_digit byte ≡ true → (byte == 10) ≡ false
digit_is_no_feed byte e = grind (arith, nat_tests)

plain_is_no_feed : (byte : ℕ) → is_plain byte ≡ true → (byte == 10) ≡ false
plain_is_no_feed byte e = grind (arith, nat_tests)

hexadecimal_is_no_feed : (n : ℕ) → (hexadecimal_digit n == 10) ≡ false
hexadecimal_is_no_feed n = grind (arith, nat_tests)

feedless_plain : (bytes : List ℕ) → list_all is_plain bytes ≡ true → IsFeedless bytes
feedless_plain bytes e = feedless_by is_plain plain_is_no_feed bytes e

feedless_digits : (byte : ℕ) → IsFeedless (in_digits byte)
feedless_digits byte = (refl, (refl, (hexadecimal_is_no_feed (byte / 16), (hexadecimal_is_no_feed (byte % 16), tt))))

feedless_printed : (byte : ℕ) → IsFeedless (printed byte)
feedless_printed byte =
    elim (is_plain byte) as (λ p. is_plain byte ≡ p → IsFeedless (printed byte)) [
      | true ↦ λ p. rw p (plain_is_no_feed byte p, tt)
      | false ↦ λ p.
          elim (byte == backslash) as (λ b. (byte == backslash) ≡ b → IsFeedless (printed byte)) [
            | true ↦ λ b. rw (p, b) (refl, (refl, tt))
            | false ↦ λ b. rw (p, b) (feedless_digits byte)
          ] refl
    ] refl

feedless_printed_but : (byte : ℕ) → IsFeedless (printed_but (Some quote) byte)
feedless_printed_but byte =
    elim (byte == quote) as (λ b. (byte == quote) ≡ b → IsFeedless (printed_but (Some quote) byte)) [
      | true ↦ λ b. rw b (feedless_digits byte)
      | false ↦ λ b. rw b (feedless_printed byte)
    ] refl

pub feedless_printable : (bytes : List ℕ) → IsFeedless (printable bytes)
unfolding printable
feedless_printable [] = tt
feedless_printable (byte ∷ bytes) = IsFeedless-append (printed byte) (printable bytes) (feedless_printed byte) (feedless_printable bytes)

feedless_printable_but : (bytes : List ℕ) → IsFeedless (printable_but (Some quote) bytes)
unfolding printable_but
feedless_printable_but [] = tt
feedless_printable_but (byte ∷ bytes) =
    IsFeedless-append (printed_but (Some quote) byte) (printable_but (Some quote) bytes) (feedless_printed_but byte) (feedless_printable_but bytes)

feedless_hexadecimal : (bytes : List ℕ) → IsFeedless (in_hexadecimal bytes)
unfolding in_hexadecimal
feedless_hexadecimal [] = tt
feedless_hexadecimal (byte ∷ bytes) =
    (hexadecimal_is_no_feed (byte / 16), (hexadecimal_is_no_feed (byte % 16), feedless_hexadecimal bytes))

feedless_decimal : (n : ℕ) → n < 10 ^ 64 → IsFeedless (decimal n)
feedless_decimal n h = feedless_by is_digit digit_is_no_feed (decimal n) (digits_of_number n h)

feedless_quoted : (bytes : List ℕ) → IsFeedless (quoted bytes)
feedless_quoted bytes = (refl, IsFeedless-append (printable_but (Some quote) bytes) (quote ∷ []) (feedless_printable_but bytes) (refl, tt))

is_small : (n : ℕ) → IsScalar (Int (pos n)) → n ≤ greatest_magnitude false
is_small n h = rw (le-ltb n 0 (omega arith)) at h

is_little : (n : ℕ) → IsScalar (Int (negsuc n)) → suc n ≤ greatest_magnitude true
is_little n h = h

feedless_stamp : (stamp : List ℕ) (user : ℕ) → user < 2 ^ 16 → IsFeedless (codes "stamp:" ++ in_hexadecimal stamp ++ codes "." ++ decimal user)
feedless_stamp stamp user h =
    IsFeedless-append ((codes "stamp:" ++ in_hexadecimal stamp) ++ codes ".") (decimal user)
    (IsFeedless-append (codes "stamp:" ++ in_hexadecimal stamp) (codes ".")
    (IsFeedless-append (codes "stamp:") (in_hexadecimal stamp) (feedless_plain (codes "stamp:") refl) (feedless_hexadecimal stamp)) (refl, tt))
    (feedless_decimal user (omega arith))

feedless_scalar : (scalar : Scalar) → IsScalar scalar → IsFeedless (scalar_text scalar)
unfolding scalar_text
feedless_scalar Null is = feedless_plain (codes "null") refl
feedless_scalar (Bytes bytes) is = (refl, feedless_quoted bytes)
feedless_scalar (Text text) is = (refl, feedless_quoted text)
feedless_scalar (Int (pos n)) is = feedless_decimal n (omega (arith, is_small n is))
feedless_scalar (Int (negsuc n)) is = (refl, feedless_decimal (suc n) (omega (arith, is_little n is)))
feedless_scalar (Boolean false) is = feedless_plain (codes "false") refl
feedless_scalar (Boolean true) is = feedless_plain (codes "true") refl
feedless_scalar (Uuid uuid) is = IsFeedless-append (codes "uuid:") (in_hexadecimal uuid) (feedless_plain (codes "uuid:") refl) (feedless_hexadecimal uuid)
feedless_scalar (Stamp stamp user) is = feedless_stamp stamp user is.2

feedless_gap : (first : Bool) → IsFeedless (gap first)
feedless_gap true = tt
feedless_gap false = (refl, tt)

pub feedless_elements : (first : Bool) (elements : Elements) → AreElements elements → IsFeedless (elements_text first elements)
feedless_elements first Empty are = tt
feedless_elements first (Single scalar rest) are =
    IsFeedless-append (gap first ++ scalar_text scalar) (elements_text false rest)
    (IsFeedless-append (gap first) (scalar_text scalar) (feedless_gap first) (feedless_scalar scalar are.0)) (feedless_elements false rest are.1)
feedless_elements first (Nested inner rest) are =
    IsFeedless-append (gap first ++ opening ∷ elements_text true inner) (closing ∷ elements_text false rest)
    (IsFeedless-append (gap first) (opening ∷ elements_text true inner) (feedless_gap first) (refl, feedless_elements true inner are.0))
    (refl, feedless_elements false rest are.1)

-- ---- names

pub among_passes : (p : List ℕ → Bool) (list : List (List ℕ)) (name : List ℕ) → list_all p list ≡ true → is_among name list ≡ true → p name ≡ true
among_passes p [] name all e = absurd cc
among_passes p (other ∷ others) name all e =
    let both = and_parts (p other) (list_all p others) all in
    elim (bytes_eq other name) as (λ b. bytes_eq other name ≡ b → (b || is_among name others) ≡ true → p name ≡ true) [
      | true ↦ λ same k. subst (λ (n : List ℕ). p n ≡ true) ((bytes_eq-Decides other name).0 same) both.0
      | false ↦ λ same k. among_passes p others name both.1 k
    ] refl e

abbrev is_text : List ℕ → Bool
is_text name = list_all is_plain name

names_are_plain : list_all is_text names ≡ true
unfolding names
names_are_plain = refl

feedless_name : (one : Instruction) → Takes one → IsFeedless one.name
feedless_name one takes = ⊎_elim
    (λ h. subst IsFeedless (sym h.0) (feedless_plain push refl))
    (λ h. feedless_plain one.name (among_passes is_text names one.name names_are_plain h.0)) takes

pub feedless_instruction : (one : Instruction) → IsInstruction one → IsFeedless (one.name ++ elements_text false one.operand)
feedless_instruction one is =
    IsFeedless-append one.name (elements_text false one.operand) (feedless_name one is.takes) (feedless_elements false one.operand is.elements)
