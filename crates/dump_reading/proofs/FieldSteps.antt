-- Words and numbers, a byte at a time, and texts as they are read.
use Rattle.std.proofs.Common.{◌≡◌, ℕ, ◌+◌, ◌-◌, ◌*◌, ◌<◌, ◌≤◌, true, false, ◌==◌, List, [], ◌∷◌, ◌++◌, length, get_or, drop, None, Result, Ok, Err, refl, sym, ap, ◌∙◌, append_assoc, arith}
use Rattle.std.specs.List.{AllByRecursion}
use Rattle.std.proofs.lemmas.List.{append-nil, length-drop, drop_more, drop_all, take-append-drop}
use Rattle.std.proofs.lemmas.List.Elements.{recursion_from_All}
use Rattle.key_bytes.specs.Keys.{IsByteString}
use Rattle.model_lines.specs.Printing.{printable, printed, printable_but}
use Rattle.model_lines.specs.Reading.{Stop, AtEnd, AtSeparator, AtFault, text_of}
use Rattle.dump_text.specs.Texts.{with_front}
use Rattle.dump_text.proofs.Pieces.{text_empty}
use Rattle.dump_text.proofs.Printed.{text_printed, text_was, ending}
use Rattle.dump_reading.specs.Fields.{behind, value_after, text_up_to, text_at}
use Rattle.dump_reading.specs.Printable.{IsUnfit, IsBadAt}

-- ---- words

pub next_matches : (word bytes : List ℕ) (i : ℕ) (total : Result (List ℕ) ℕ) → i < length word → i < length bytes
    → (get_or bytes i 0 == get_or word i 0) ≡ true → behind (drop i word) (drop i bytes) ≡ total
    → behind (drop (i + 1) word) (drop (i + 1) bytes) ≡ total
unfolding behind
next_matches word bytes i total h k e so_far =
    let here : behind (drop i word) (drop i bytes) ≡ behind (drop (i + 1) word) (drop (i + 1) bytes) =
    rw (drop_more word i 0 h, drop_more bytes i 0 k, e) refl in
    sym here ∙ so_far

pub next_differs : (word bytes : List ℕ) (i : ℕ) (total : Result (List ℕ) ℕ) → i < length word → i < length bytes
    → (get_or bytes i 0 == get_or word i 0) ≡ false → behind (drop i word) (drop i bytes) ≡ total → total ≡ Err (length bytes - i)
unfolding behind
next_differs word bytes i total h k e so_far =
    let len : length (get_or bytes i 0 ∷ drop (i + 1) bytes) ≡ length bytes - i = omega (arith, length-drop (i + 1) bytes) in
    let here : behind (drop i word) (drop i bytes) ≡ Err (length (get_or bytes i 0 ∷ drop (i + 1) bytes)) =
    rw (drop_more word i 0 h, drop_more bytes i 0 k, e) refl in
    sym so_far ∙ here ∙ ap (λ (n : ℕ). Err n) len

pub none_is_next : (word bytes : List ℕ) (i : ℕ) (total : Result (List ℕ) ℕ) → i < length word → length bytes ≤ i
    → behind (drop i word) (drop i bytes) ≡ total → total ≡ Err (length bytes - i)
unfolding behind
none_is_next word bytes i total h k so_far =
    let none : length bytes - i ≡ 0 = omega arith in
    let here : behind (drop i word) (drop i bytes) ≡ Err 0 = rw (drop_more word i 0 h, drop_all i bytes k) refl in
    sym so_far ∙ here ∙ ap (λ (n : ℕ). Err n) (sym none)

pub word_ends : (word bytes : List ℕ) (i : ℕ) (total : Result (List ℕ) ℕ) → length word ≤ i
    → behind (drop i word) (drop i bytes) ≡ total → total ≡ Ok (drop i bytes)
unfolding behind
word_ends word bytes i total h so_far =
    let here : behind (drop i word) (drop i bytes) ≡ Ok (drop i bytes) = rw (drop_all i word h) refl in
    sym so_far ∙ here

-- ---- numbers

pub value_grows : (number : ℕ) (digits : List ℕ) → number ≤ value_after number digits
unfolding value_after
value_grows number [] = omega arith
value_grows number (digit ∷ digits) = omega (arith, value_grows (number * 10 + (digit - 48)) digits)

pub next_digit : (number : ℕ) (digits : List ℕ) (i : ℕ) → i < length digits
    → value_after number (drop i digits) ≡ value_after (number * 10 + (get_or digits i 0 - 48)) (drop (i + 1) digits)
unfolding value_after
next_digit number digits i h = rw (drop_more digits i 0 h) refl

pub no_digit : (number : ℕ) (digits : List ℕ) (i : ℕ) → length digits ≤ i → value_after number (drop i digits) ≡ number
unfolding value_after
no_digit number digits i h = rw (drop_all i digits h) refl

-- ---- texts

as_printed : (bytes : List ℕ) → printable_but None bytes ≡ printable bytes
unfolding printable_but printable
as_printed bytes = refl

pub text_again : (bytes : List ℕ) → IsByteString bytes → text_at (printable bytes) ≡ Ok bytes
unfolding text_at
text_again bytes h =
    let all : text_of (printable bytes) ≡ record { bytes = bytes; stop = AtEnd; left = [] } =
    ap text_of (sym (append-nil (printable bytes))) ∙ text_printed bytes [] (recursion_from_All (λ b. b < 256) bytes h)
    ∙ ap (with_front bytes) text_empty
    ∙ ap (λ (x : List ℕ). record { bytes = x; stop = AtEnd; left = [] }) (append-nil bytes) in
    rw all refl

pub text_read : (bytes read : List ℕ) → bytes ≡ printable_but None read → IsByteString read → text_at bytes ≡ Ok read
text_read bytes read e h = ap text_at (e ∙ as_printed read) ∙ text_again read h

-- where no byte is spelled reading stops
nothing_read : (front rest bytes left : List ℕ) (stop : Stop) → AllByRecursion (λ b. b < 256) bytes
    → rest ≡ printable bytes ++ ending stop left → 0 < length rest → IsUnfit None rest
    → text_up_to stop (record { bytes = front; stop = stop; left = left }) ≡ Err (length rest)
unfolding printable
nothing_read front rest (byte ∷ bytes) left stop small e some unfit =
    absurd (unfit byte (printable bytes ++ ending stop left) small.0 (e ∙ append_assoc (printed byte) (printable bytes) (ending stop left)))
nothing_read front rest [] left AtEnd small e some unfit = absurd (omega (arith, ap length e))
nothing_read front rest [] left AtSeparator small e some unfit =
    let len : length left + 2 ≡ length rest = omega (arith, ap length e) in
    ap (λ (n : ℕ). Err n) len
nothing_read front rest [] left AtFault small e some unfit = ap (λ (n : ℕ). Err n) (sym (ap length e))

pub text_bad : (bytes : List ℕ) (place : ℕ) → IsBadAt None bytes place → text_at bytes ≡ Err (length bytes - place)
unfolding text_at
text_bad bytes place bad =
    let rest = drop place bytes in
    let text = text_of rest in
    let was = text_was rest in
    let parts : bytes ≡ printable bad.before ++ rest =
    sym (take-append-drop place bytes) ∙ ap (λ (x : List ℕ). x ++ rest) (bad.spelled ∙ as_printed bad.before) in
    let read : text_of bytes ≡ with_front bad.before text =
    ap text_of parts ∙ text_printed bad.before rest (recursion_from_All (λ b. b < 256) bad.before bad.are_bytes) in
    let inside = bad.inside in
    let len = length-drop place bytes in
    rw read (nothing_read (bad.before ++ text.bytes) rest text.bytes text.left text.stop was.small was.parts (omega (arith, len)) bad.unfit
    ∙ ap (λ (n : ℕ). Err n) len)
