-- Lines that were read are the lines of their pairs, and the lines of pairs are read as these pairs.
use Rattle.std.proofs.Common.{◌≡◌, ℕ, ◌+◌, ◌*◌, ◌/◌, ◌%◌, ◌<◌, ◌≤◌, Bool, true, false, cond, not, ◌||◌, ◌==◌, nat_lt, List, [], ◌∷◌, ◌++◌, length, flat_map, Result, Ok, Err, refl, sym, ap, subst, ◌∙◌, append_assoc, arith}
use Rattle.std.specs.List.{AllByRecursion}
use Rattle.std.proofs.lemmas.Bool.{eqb-true, ltb-false, le-ltb, not-false}
use Rattle.std.proofs.lemmas.Bool.Decides.{nat_tests}
use Rattle.std.proofs.lemmas.List.{append-nil, length-append}
use Rattle.std.proofs.lemmas.List.Elements.{All-from_recursion, recursion_from_All}
use Rattle.key_bytes.specs.Keys.{IsByteString, key_lt, top}
use Rattle.model_database.specs.declared.TheConstants.{KEY_LIMIT, VALUE_LIMIT}
use Rattle.model_lines.specs.Inputs.{pair_lines, IsSmall}
use Rattle.model_lines.specs.Printing.{separator, printed, printable, hexadecimal_digit, is_plain, backslash, pair_line}
use Rattle.model_lines.specs.Reading.{ReadText, text_of, Stop, AtEnd, AtSeparator, AtFault, Line, Flaw, Bad, Long, Entry, pair_within, value_at, key_at, fields_at, pair_at, judged, lines_of, with_first, size_of, Fault, Place, next_place, read_line, read_lines, joined, input_limit, pairs_limit, line_limit}
use Rattle.dump_text.specs.Texts.{with_front}
use Rattle.dump_text.proofs.Pieces.{text_empty, text_parted}
use Rattle.dump_text.proofs.Printed.{ending, text_was, text_printed}
use Rattle.model_lines.proofs.Lines.{IsFeedless, IsFeedless-append, whole_first}
use Rattle.model_lines.proofs.ReadLines.{guard_ok, neither, limits_pass, is_read}
use Rattle.model_input.proofs.Machines.{choice_ok}

-- ---- a pair that was read

abbrev pub found : Entry → Result Entry Flaw
found entry = Ok entry

ok_is : (x y : Entry) → found x ≡ found y → x ≡ y
ok_is x y e = cc

within_was : (key value : List ℕ) (entry : Entry) → pair_within key value ≡ Ok entry
    → (length key ≤ KEY_LIMIT) × (length value ≤ VALUE_LIMIT) × ((key, value) ≡ entry)
within_was key value entry e =
    let all = guard_ok (nat_lt KEY_LIMIT (length key) || nat_lt VALUE_LIMIT (length value)) Long (found (key, value)) entry e in
    let limits = neither (nat_lt KEY_LIMIT (length key)) (nat_lt VALUE_LIMIT (length value)) all.0 in
    (ltb-false KEY_LIMIT (length key) limits.0, ltb-false VALUE_LIMIT (length value) limits.1, ok_is (key, value) entry all.1)

value_was : (line : Line) (key : List ℕ) (stop : Stop) (value : ReadText) (entry : Entry) → value_at line key stop value ≡ Ok entry
    → (stop ≡ AtEnd) × (line.is_whole ≡ true) × (pair_within key value.bytes ≡ Ok entry)
value_was line key AtEnd value entry e =
    let parts = choice_ok line.is_whole (Bad (length line.bytes)) (pair_within key value.bytes) entry e in
    (refl, parts.0, parts.1)
value_was line key AtSeparator value entry e = absurd cc
value_was line key AtFault value entry e = absurd cc

key_was : (line : Line) (stop : Stop) (key : ReadText) (entry : Entry) → key_at line stop key ≡ Ok entry
    → (stop ≡ AtSeparator) × (value_at line key.bytes (text_of key.left).stop (text_of key.left) ≡ Ok entry)
key_was line AtEnd key entry e = absurd cc
key_was line AtSeparator key entry e = (refl, e)
key_was line AtFault key entry e = absurd cc

-- the line of a pair, without its line feed
abbrev pub content : Entry → List ℕ
content entry = 75 ∷ 32 ∷ (printable entry.0 ++ separator ++ printable entry.1)

-- a line that was read is whole, and is the line of its pair
pub record IsPair (line : Line) (bytes : List ℕ) (entry : Entry) : Type 0 where
  pub whole : line.is_whole ≡ true
  pub spelled : bytes ≡ content entry
  pub small : IsSmall entry

fields_were : (line : Line) (fields : List ℕ) (entry : Entry) → fields_at line (text_of fields) ≡ Ok entry
    → IsPair line (75 ∷ 32 ∷ fields) entry
fields_were line fields entry e =
    let key = text_of fields in
    let value = text_of key.left in
    let below = choice_ok (key_lt key.bytes top) (Bad 2) (key_at line key.stop key) entry e in
    let of_key = key_was line key.stop key entry below.1 in
    let of_value = value_was line key.bytes value.stop value entry of_key.1 in
    let within = within_was key.bytes value.bytes entry of_value.2 in
    let first : fields ≡ printable key.bytes ++ (separator ++ key.left) = (text_was fields).parts
    ∙ ap (λ (x : Stop). printable key.bytes ++ ending x key.left) of_key.0 in
    let second : key.left ≡ printable value.bytes = (text_was key.left).parts
    ∙ ap (λ (x : Stop). printable value.bytes ++ ending x value.left) of_value.0 ∙ append-nil (printable value.bytes) in
    let all : fields ≡ printable key.bytes ++ separator ++ printable value.bytes = first
    ∙ ap (λ (x : List ℕ). printable key.bytes ++ (separator ++ x)) second
    ∙ sym (append_assoc (printable key.bytes) separator (printable value.bytes)) in
    subst (IsPair line (75 ∷ 32 ∷ fields)) within.2 (record {
      whole = of_value.1;
      spelled = ap (λ (x : List ℕ). 75 ∷ 32 ∷ x) all;
      small = record {
        key = All-from_recursion (λ b. b < 256) key.bytes (text_was fields).small;
        value = All-from_recursion (λ b. b < 256) value.bytes (text_was key.left).small;
        below_top = below.0;
        key_len = within.0;
        value_len = within.1;
      };
    })

pair_was : (line : Line) (bytes : List ℕ) (entry : Entry) → pair_at line bytes ≡ Ok entry → IsPair line bytes entry
unfolding pair_at
pair_was line [] entry e = absurd cc
pair_was line (kind ∷ []) entry e = absurd cc
pair_was line (kind ∷ gap ∷ fields) entry e =
    let first = guard_ok (not (kind == 75)) (Bad 0) (cond (not (gap == 32)) (Err (Bad 1)) (fields_at line (text_of fields))) entry e in
    let second = guard_ok (not (gap == 32)) (Bad 1) (fields_at line (text_of fields)) entry first.1 in
    let kind_is : kind ≡ 75 = eqb-true kind 75 (not-false (kind == 75) first.0) in
    let gap_is : gap ≡ 32 = eqb-true gap 32 (not-false (gap == 32) second.0) in
    rw (kind_is, gap_is) (fields_were line fields entry second.1)

-- ---- the lines that were read

-- a line as it stands in the input
abbrev pub standing : Line → List ℕ
standing line = line.bytes ++ cond line.is_whole (10 ∷ []) []

stands_with_first : (byte : ℕ) (lines : List Line) (bytes : List ℕ) → flat_map standing lines ≡ bytes
    → flat_map standing (with_first byte lines) ≡ byte ∷ bytes
stands_with_first byte [] bytes e = ap (λ (x : List ℕ). byte ∷ x) e
stands_with_first byte (line ∷ lines) bytes e = ap (λ (x : List ℕ). byte ∷ x) e

pub lines_stand : (bytes : List ℕ) → flat_map standing (lines_of bytes) ≡ bytes
unfolding lines_of
lines_stand [] = refl
lines_stand (byte ∷ bytes) =
    elim (byte == 10) as (λ b. (byte == 10) ≡ b → flat_map standing (lines_of (byte ∷ bytes)) ≡ byte ∷ bytes) [
      | true ↦ λ e. rw (e, eqb-true byte 10 e) (ap (λ (x : List ℕ). 10 ∷ x) (lines_stand bytes))
      | false ↦ λ e. rw e (stands_with_first byte (lines_of bytes) bytes (lines_stand bytes))
    ] refl

joined_ok : (first : Result Entry Fault) (rest : Result (List Entry) Fault) (pairs : List Entry) → joined first rest ≡ Ok pairs
    → (entry : Entry) × ((entries : List Entry) × ((first ≡ Ok entry) × (rest ≡ Ok entries) × (entry ∷ entries ≡ pairs)))
joined_ok (Err fault) rest pairs e = absurd cc
joined_ok (Ok entry) (Err fault) pairs e = absurd cc
joined_ok (Ok entry) (Ok entries) pairs e = (entry, (entries, (refl, refl, cc)))

-- lines that were read from a place on are the lines of their pairs, within the limits
pub record WereRead (place : Place) (lines : List Line) (pairs : List Entry) : Type 0 where
  pub spelled : flat_map standing lines ≡ pair_lines pairs
  pub small : AllByRecursion IsSmall pairs
  pub count : place.pairs + length pairs ≤ pairs_limit
  pub size : place.bytes + length (flat_map standing lines) ≤ input_limit

stands_as : (line : Line) (entry : Entry) → IsPair line line.bytes entry → standing line ≡ pair_line entry.0 entry.1
unfolding pair_line
stands_as line entry h = rw (h.whole, h.spelled) refl

length-feed : (is_whole : Bool) → length {A = ℕ} (cond is_whole (10 ∷ []) []) ≡ cond is_whole 1 0
length-feed true = refl
length-feed false = refl

pub length-standing : (line : Line) → length (standing line) ≡ size_of line
length-standing line = length-append line.bytes (cond line.is_whole (10 ∷ []) [])
    ∙ ap (λ (n : ℕ). length line.bytes + n) (length-feed line.is_whole)

pub lines_were : (place : Place) (lines : List Line) (pairs : List Entry) → place.pairs ≤ pairs_limit → place.bytes ≤ input_limit
    → read_lines place lines ≡ Ok pairs → WereRead place lines pairs
unfolding read_lines
lines_were place [] pairs few size e =
    let none : [] ≡ pairs = cc in
    subst (WereRead place []) none (record { spelled = refl; small = tt; count = omega arith; size = omega arith })
lines_were place (line ∷ lines) pairs few size e =
    let parts = joined_ok (read_line place line) (read_lines (next_place place line) lines) pairs e in
    let entry = parts.0 in
    let entries = parts.1.0 in
    let read = is_read place line entry parts.1.1.0 in
    let pair = pair_was line line.bytes entry read.read in
    let one_more : (next_place place line).pairs ≡ place.pairs + 1 = rw read.pair refl in
    let later = lines_were (next_place place line) lines entries (omega (arith, read.few)) (omega (arith, read.size)) parts.1.1.1 in
    let stands = stands_as line entry pair in
    subst (WereRead place (line ∷ lines)) parts.1.1.2 (record {
      spelled = ap (λ (x : List ℕ). x ++ flat_map standing lines) stands
          ∙ ap (λ (x : List ℕ). pair_line entry.0 entry.1 ++ x) later.spelled;
      small = (pair.small, later.small);
      count = omega (arith, later.count, one_more);
      size = omega (arith, later.size, length-append (standing line) (flat_map standing lines), length-standing line);
    })

-- ---- the lines of pairs are read

length-printed : (byte : ℕ) → length (printed byte) ≤ 4
length-printed byte =
    elim (is_plain byte) as (λ p. is_plain byte ≡ p → length (printed byte) ≤ 4) [
      | true ↦ λ p. rw p (omega arith)
      | false ↦ λ p.
          elim (byte == backslash) as (λ b. (byte == backslash) ≡ b → length (printed byte) ≤ 4) [
            | true ↦ λ b. rw (p, b) (omega arith)
            | false ↦ λ b. rw (p, b) (omega arith)
          ] refl
    ] refl

length-printable : (bytes : List ℕ) → length (printable bytes) ≤ 4 * length bytes
unfolding printable
length-printable [] = omega arith
length-printable (byte ∷ bytes) = omega (arith, length-append (printed byte) (printable bytes), length-printed byte, length-printable bytes)

length-content : (entry : Entry) → length entry.0 ≤ KEY_LIMIT → length entry.1 ≤ VALUE_LIMIT → length (content entry) ≤ line_limit
length-content entry h k =
    let key = printable entry.0 in
    let value = printable entry.1 in
    let parts = length-append (key ++ separator) value in
    omega (arith, parts, length-append key separator, length-printable entry.0, length-printable entry.1)

text_again : (bytes : List ℕ) → IsByteString bytes → text_of (printable bytes) ≡ record { bytes = bytes; stop = AtEnd; left = [] }
text_again bytes h =
    ap text_of (sym (append-nil (printable bytes))) ∙ text_printed bytes [] (recursion_from_All (λ b. b < 256) bytes h)
    ∙ ap (with_front bytes) text_empty
    ∙ ap (λ (x : List ℕ). record { bytes = x; stop = AtEnd; left = [] }) (append-nil bytes)

key_again : (key rest : List ℕ) → IsByteString key
    → text_of (printable key ++ separator ++ rest) ≡ record { bytes = key; stop = AtSeparator; left = rest }
key_again key rest h =
    ap text_of (append_assoc (printable key) separator rest)
    ∙ text_printed key (separator ++ rest) (recursion_from_All (λ b. b < 256) key h) ∙ ap (with_front key) (text_parted rest)
    ∙ ap (λ (x : List ℕ). record { bytes = x; stop = AtSeparator; left = rest }) (append-nil key)

pair_again : (line : Line) (entry : Entry) → line.is_whole ≡ true → IsSmall entry → pair_at line (content entry) ≡ Ok entry
unfolding pair_at
pair_again line entry whole small =
    let key_test : nat_lt KEY_LIMIT (length entry.0) ≡ false = le-ltb KEY_LIMIT (length entry.0) small.key_len in
    let value_test : nat_lt VALUE_LIMIT (length entry.1) ≡ false = le-ltb VALUE_LIMIT (length entry.1) small.value_len in
    rw (key_again entry.0 (printable entry.1) small.key, small.below_top, text_again entry.1 small.value, whole, key_test, value_test) refl

-- ---- lines without a line feed in them

feedless_digit : (n : ℕ) → (hexadecimal_digit n == 10) ≡ false
feedless_digit n = grind (arith, nat_tests)

feedless_plain : (byte : ℕ) → is_plain byte ≡ true → (byte == 10) ≡ false
feedless_plain byte e = grind (arith, nat_tests)

feedless_printed : (byte : ℕ) → IsFeedless (printed byte)
feedless_printed byte =
    elim (is_plain byte) as (λ p. is_plain byte ≡ p → IsFeedless (printed byte)) [
      | true ↦ λ p. rw p (feedless_plain byte p, tt)
      | false ↦ λ p.
          elim (byte == backslash) as (λ b. (byte == backslash) ≡ b → IsFeedless (printed byte)) [
            | true ↦ λ b. rw (p, b) (refl, (refl, tt))
            | false ↦ λ b. rw (p, b) (refl, (refl, (feedless_digit (byte / 16), (feedless_digit (byte % 16), tt))))
          ] refl
    ] refl

feedless_printable : (bytes : List ℕ) → IsFeedless (printable bytes)
unfolding printable
feedless_printable [] = tt
feedless_printable (byte ∷ bytes) = IsFeedless-append (printed byte) (printable bytes) (feedless_printed byte) (feedless_printable bytes)

feedless_content : (entry : Entry) → IsFeedless (content entry)
feedless_content entry =
    let key = printable entry.0 in
    let front = IsFeedless-append key separator (feedless_printable entry.0) (refl, (refl, tt)) in
    (refl, (refl, IsFeedless-append (key ++ separator) (printable entry.1) front (feedless_printable entry.1)))

-- the line of a pair as it stands in the rules
abbrev pub line_for : Entry → Line
line_for entry = record { bytes = content entry; is_whole = true }

pair_line-is : (entry : Entry) → pair_line entry.0 entry.1 ≡ content entry ++ 10 ∷ []
unfolding pair_line
pair_line-is entry = refl

line_again : (place : Place) (entry : Entry) → IsSmall entry → place.pairs < pairs_limit
    → place.bytes + size_of (line_for entry) ≤ input_limit → read_line place (line_for entry) ≡ Ok entry
unfolding read_line
line_again place entry small few size =
    let line = line_for entry in
    let short = length-content entry small.key_len small.value_len in
    limits_pass place line (judged place.number (pair_at line line.bytes)) (record { size = size; few = λ pair. few; short = short })
    ∙ ap (judged place.number) (pair_again line entry refl small)

first_again : (entry : Entry) (rest : List ℕ) → lines_of (pair_line entry.0 entry.1 ++ rest) ≡ line_for entry ∷ lines_of rest
first_again entry rest = ap (λ (x : List ℕ). lines_of (x ++ rest)) (pair_line-is entry)
    ∙ whole_first (content entry) rest (feedless_content entry)

pub lines_again : (place : Place) (pairs : List Entry) → AllByRecursion IsSmall pairs → place.pairs + length pairs ≤ pairs_limit
    → place.bytes + length (pair_lines pairs) ≤ input_limit
    → read_lines place (lines_of (pair_lines pairs)) ≡ Ok pairs
unfolding read_lines lines_of
lines_again place [] small few size = refl
lines_again place (entry ∷ entries) small few size =
    let rest = pair_lines entries in
    let line = line_for entry in
    let lens : length (pair_line entry.0 entry.1 ++ rest) ≡ size_of line + length rest =
    length-append (pair_line entry.0 entry.1) rest
    ∙ ap (λ (n : ℕ). n + length rest) (ap length (pair_line-is entry) ∙ length-append (content entry) (10 ∷ [])) in
    let read = line_again place entry small.0 (omega arith) (omega (arith, lens)) in
    let later = lines_again (next_place place line) entries small.1 (omega arith) (omega (arith, lens)) in
    rw (first_again entry rest, read, later) refl
