-- The line of a lawful value is read as this value.
use Rattle.std.proofs.Common.{◌≡◌, ℕ, ◌/◌, ◌%◌, ◌^◌, ◌<◌, ◌≤◌, Bool, true, false, ◌==◌, List, [], ◌∷◌, ◌++◌, length, Result, Ok, Err, refl, sym, ap, ◌∙◌, arith}
use Rattle.std.specs.Fmt.{decimal}
use Rattle.std.specs.List.{list_all}
use Rattle.std.proofs.lemmas.Bool.{and_parts}
use Rattle.std.proofs.lemmas.Bool.Decides.{nat_tests}
use Rattle.std.proofs.lemmas.List.{append-nil, length-append}
use Rattle.model_lines.specs.Printing.{is_plain, backslash, hexadecimal_digit, printed, printable, separator}
use Rattle.model_lines.specs.Reading.{Entry, Fault, start, size_of, pair_at, joined, lines_of, line_limit}
use Rattle.model_lines.specs.Reading as reading
use Rattle.model_lines.proofs.Lines.{IsFeedless, IsFeedless-append, whole_first}
use Rattle.model_lines.proofs.ReadLines as pairs
use Rattle.model_input.specs.Orders.{is_digit, last_machine}
use Rattle.dump_text.specs.declared.line.EndWord.{EndWord}
use Rattle.dump_text.specs.declared.line.EndWord.TheVariants as ends
use Rattle.dump_text.specs.declared.line.Line.{Line}
use Rattle.dump_text.specs.declared.line.Line.TheVariants as line
use Rattle.dump_text.specs.Ends.{word_of}
use Rattle.dump_text.specs.Lines.{line_of}
use Rattle.dump_text.proofs.Laws.{lines_again}
use Rattle.dump_reading.specs.Dumps.{machine_fields, item_fields, error_fields, order_fields, value_at, IsLawful, IsDumpLine, greatest_machine, greatest_number}
use Rattle.dump_reading.specs.Fields.{number_field, is_word}
use Rattle.dump_reading.proofs.FieldLaws.{spaced, number_field_again, end_field_again, word_field_again, text_field_again}
use Rattle.dump_reading.proofs.LineLaws.{content, line_of-is}
use Rattle.dump_reading.proofs.Numbers.{digits_of_number}

-- ---- lines without a line feed in them

feedless_by : (p : ℕ → Bool) → ((byte : ℕ) → p byte ≡ true → (byte == 10) ≡ false) → (bytes : List ℕ) → list_all p bytes ≡ true
    → IsFeedless bytes
feedless_by p h [] e = tt
feedless_by p h (byte ∷ bytes) e =
    let both = and_parts (p byte) (list_all p bytes) e in
    (h byte both.0, feedless_by p h bytes both.1)

digit_is_no_feed : (byte : ℕ) → is_digit byte ≡ true → (byte == 10) ≡ false
digit_is_no_feed byte e = grind (arith, nat_tests)

letter_is_no_feed : (byte : ℕ) → is_word byte ≡ true → (byte == 10) ≡ false
letter_is_no_feed byte e = grind (arith, nat_tests)

plain_is_no_feed : (byte : ℕ) → is_plain byte ≡ true → (byte == 10) ≡ false
plain_is_no_feed byte e = grind (arith, nat_tests)

hexadecimal_is_no_feed : (n : ℕ) → (hexadecimal_digit n == 10) ≡ false
hexadecimal_is_no_feed n = grind (arith, nat_tests)

feedless_decimal : (most n : ℕ) → n ≤ most → most < 2 ^ 64 → IsFeedless (decimal n)
feedless_decimal most n h k = feedless_by is_digit digit_is_no_feed (decimal n) (digits_of_number n (omega arith))

feedless_end : (end : EndWord) → IsFeedless (word_of end)
feedless_end ends.Ended = feedless_by is_plain plain_is_no_feed (word_of ends.Ended) refl
feedless_end ends.BadInstruction = feedless_by is_plain plain_is_no_feed (word_of ends.BadInstruction) refl
feedless_end ends.Underflow = feedless_by is_plain plain_is_no_feed (word_of ends.Underflow) refl
feedless_end ends.WaitBound = feedless_by is_plain plain_is_no_feed (word_of ends.WaitBound) refl
feedless_end ends.MachineLimit = feedless_by is_plain plain_is_no_feed (word_of ends.MachineLimit) refl

feedless_printed : (byte : ℕ) → IsFeedless (printed byte)
feedless_printed byte =
    elim (is_plain byte) as (λ p. is_plain byte ≡ p → IsFeedless (printed byte)) [
      | true ↦ λ p. rw p (plain_is_no_feed byte p, tt)
      | false ↦ λ p.
          elim (byte == backslash) as (λ b. (byte == backslash) ≡ b → IsFeedless (printed byte)) [
            | true ↦ λ b. rw (p, b) (refl, (refl, tt))
            | false ↦ λ b. rw (p, b) (refl, (refl, (hexadecimal_is_no_feed (byte / 16), (hexadecimal_is_no_feed (byte % 16), tt))))
          ] refl
    ] refl

feedless_printable : (bytes : List ℕ) → IsFeedless (printable bytes)
unfolding printable
feedless_printable [] = tt
feedless_printable (byte ∷ bytes) = IsFeedless-append (printed byte) (printable bytes) (feedless_printed byte) (feedless_printable bytes)

-- a field and what stands behind the space after it
feedless_field : (field rest : List ℕ) → IsFeedless field → IsFeedless rest → IsFeedless (field ++ spaced rest)
feedless_field field rest h k = IsFeedless-append field (spaced rest) h (refl, k)

feedless_content : (value : Line) → IsLawful value → IsFeedless (content value)
feedless_content (line.M machine end number prefix) h =
    let text = feedless_printable prefix in
    let numbered = feedless_field (decimal number) (printable prefix) (feedless_decimal greatest_number number h.1 (omega arith)) text in
    let ended = feedless_field (word_of end) (decimal number ++ spaced (printable prefix)) (feedless_end end) numbered in (
      refl,
      (
        refl,
        feedless_field (decimal machine) (word_of end ++ spaced (decimal number ++ spaced (printable prefix)))
            (feedless_decimal greatest_machine machine h.0 (omega arith)) ended,
      ),
    )
feedless_content (line.S machine place instruction packed) h =
    let text = feedless_printable packed in
    let numbered = feedless_field (decimal instruction) (printable packed) (feedless_decimal greatest_number instruction h.2 (omega arith)) text in
    let placed = feedless_field (decimal place) (decimal instruction ++ spaced (printable packed)) (feedless_decimal greatest_number place h.1 (omega arith)) numbered in (
      refl,
      (
        refl,
        feedless_field (decimal machine) (decimal place ++ spaced (decimal instruction ++ spaced (printable packed)))
            (feedless_decimal greatest_machine machine h.0 (omega arith)) placed,
      ),
    )
feedless_content (line.E machine instruction word) h =
    let letters = feedless_by is_word letter_is_no_feed word h.2.letters in
    let numbered = feedless_field (decimal instruction) word (feedless_decimal greatest_number instruction h.1 (omega arith)) letters in
    (refl, (refl, feedless_field (decimal machine) (decimal instruction ++ spaced word) (feedless_decimal greatest_machine machine h.0 (omega arith)) numbered))
feedless_content (line.O machine) h = (refl, (refl, feedless_decimal last_machine machine h (omega arith)))
feedless_content (line.K key value) h =
    let front = IsFeedless-append (printable key) separator (feedless_printable key) (refl, (refl, tt)) in
    (refl, (refl, IsFeedless-append (printable key ++ separator) (printable value) front (feedless_printable value)))

-- the line of a value as it stands in the rules
abbrev pub line_for : Line → reading.Line
line_for value = record { bytes = content value; is_whole = true }

pub first_again : (value : Line) (rest : List ℕ) → IsLawful value → lines_of (line_of value ++ rest) ≡ line_for value ∷ lines_of rest
first_again value rest h = ap (λ (x : List ℕ). lines_of (x ++ rest)) (line_of-is value)
    ∙ whole_first (content value) rest (feedless_content value h)

pub length-line : (value : Line) → length (line_of value) ≡ size_of (line_for value)
length-line value = ap length (line_of-is value) ∙ length-append (content value) (10 ∷ [])

-- ---- the fields of a line are read

machine_again : (machine : ℕ) (end : EndWord) (number : ℕ) (prefix : List ℕ) → IsLawful (line.M machine end number prefix)
    → machine_fields (spaced (decimal machine ++ spaced (word_of end ++ spaced (decimal number ++ spaced (printable prefix)))))
    ≡ Ok (line.M machine end number prefix)
unfolding machine_fields
machine_again machine end number prefix h =
    rw (
      number_field_again greatest_machine machine (spaced (word_of end ++ spaced (decimal number ++ spaced (printable prefix)))) (omega arith) h.0 refl,
      end_field_again end (spaced (decimal number ++ spaced (printable prefix))),
      number_field_again greatest_number number (spaced (printable prefix)) (omega arith) h.1 refl,
      text_field_again prefix h.2,
    ) refl

item_again : (machine place instruction : ℕ) (packed : List ℕ) → IsLawful (line.S machine place instruction packed)
    → item_fields (spaced (decimal machine ++ spaced (decimal place ++ spaced (decimal instruction ++ spaced (printable packed)))))
    ≡ Ok (line.S machine place instruction packed)
unfolding item_fields
item_again machine place instruction packed h =
    rw (
      number_field_again greatest_machine machine (spaced (decimal place ++ spaced (decimal instruction ++ spaced (printable packed)))) (omega arith) h.0 refl,
      number_field_again greatest_number place (spaced (decimal instruction ++ spaced (printable packed))) (omega arith) h.1 refl,
      number_field_again greatest_number instruction (spaced (printable packed)) (omega arith) h.2 refl,
      text_field_again packed h.3,
    ) refl

error_again : (machine instruction : ℕ) (word : List ℕ) → IsLawful (line.E machine instruction word)
    → error_fields (spaced (decimal machine ++ spaced (decimal instruction ++ spaced word))) ≡ Ok (line.E machine instruction word)
unfolding error_fields
error_again machine instruction word h =
    rw (
      number_field_again greatest_machine machine (spaced (decimal instruction ++ spaced word)) (omega arith) h.0 refl,
      number_field_again greatest_number instruction (spaced word) (omega arith) h.1 refl,
      word_field_again word h.2,
    ) refl

order_again : (machine : ℕ) → machine ≤ last_machine → order_fields (spaced (decimal machine)) ≡ Ok (line.O machine)
unfolding order_fields
order_again machine h =
    let field : number_field last_machine (spaced (decimal machine)) ≡ Ok (machine, []) =
    ap (λ (x : List ℕ). number_field last_machine (spaced x)) (sym (append-nil (decimal machine)))
    ∙ number_field_again last_machine machine [] (omega arith) h refl in
    rw field refl

first_of_one : (first : Result Entry Fault) (rest : Result (List Entry) Fault) (entry : Entry) → joined first rest ≡ Ok (entry ∷ [])
    → first ≡ Ok entry
first_of_one (Err fault) rest entry e = absurd cc
first_of_one (Ok other) (Err fault) entry e = absurd cc
first_of_one (Ok other) (Ok others) entry e = cc

one_read : (its_line : reading.Line) (lines : List reading.Line) (entry : Entry) → reading.read_lines start (its_line ∷ lines) ≡ Ok (entry ∷ [])
    → reading.read_line start its_line ≡ Ok entry
unfolding reading.read_lines
one_read its_line lines entry e =
    first_of_one (reading.read_line start its_line) (reading.read_lines (reading.next_place start its_line) lines) entry e

pair_again : (key value : List ℕ) → IsDumpLine (line.K key value)
    → pair_at (line_for (line.K key value)) (content (line.K key value)) ≡ Ok (key, value)
pair_again key value h =
    let pair = line.K key value in
    let entry : Entry = (key, value) in
    let short = h.short in
    let read = lines_again start (entry ∷ []) (h.lawful, tt) (omega arith) (omega (arith, length-append (line_of pair) [])) in
    let one : reading.read_lines start (line_for pair ∷ lines_of []) ≡ Ok (entry ∷ []) =
    ap (reading.read_lines start) (sym (first_again pair [] h.lawful)) ∙ read in
    (pairs.is_read start (line_for pair) entry (one_read (line_for pair) (lines_of []) entry one)).read

pub value_again : (value : Line) → IsDumpLine value → value_at (line_for value) (content value) ≡ Ok value
unfolding value_at
value_again (line.M machine end number prefix) h = rw (machine_again machine end number prefix h.lawful) refl
value_again (line.S machine place instruction packed) h = rw (item_again machine place instruction packed h.lawful) refl
value_again (line.E machine instruction word) h = rw (error_again machine instruction word h.lawful) refl
value_again (line.O machine) h = rw (order_again machine h.lawful) refl
value_again (line.K key value) h = rw (pair_again key value h) refl
