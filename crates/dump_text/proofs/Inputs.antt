-- An input, a line at a time.
use Rattle.std.proofs.Common.{◌≡◌, ℕ, zero, suc, ◌+◌, ◌-◌, ◌<◌, ◌≤◌, true, false, cond, ◌==◌, List, [], ◌∷◌, ◌++◌, length, take, drop, get_or, Result, Ok, Err, refl, sym, ap, ◌∙◌, append_assoc, arith}
use Rattle.std.proofs.lemmas.List.{append-nil, length_push, nil_from_length}
use Rattle.std.proofs.lemmas.Bool.{false_from_ne_true}
use Rattle.model_lines.specs.Reading.{Entry, Fault, BadLine, TooLong, TooMany, Line, Place, lines_of, joined, read_line, read_lines, next_place, is_pair, size_of}
use Rattle.model_lines.proofs.ReadLines.{is_read}
use Rattle.dump_text.specs.declared.fault.LineFault.{LineFault}
use Rattle.dump_text.specs.declared.fault.LineFault.TheVariants as errors
use Rattle.dump_text.specs.Places.{place_at}
use Rattle.dump_text.specs.Reading.{Fails}

-- the first fault decides
pub fault_decides : {A B : Type 0} (e : LineFault) (through : Result A Fault → Result B Fault)
    → ((fault : Fault) → through (Err fault) ≡ Err fault) → (first : Result A Fault) (total : Result B Fault) → Fails e first
    → through first ≡ total → Fails e total
fault_decides (errors.BadLine line place) through decides first total h so_far = sym so_far ∙ ap through h ∙ decides (BadLine line place)
fault_decides (errors.TooLong line) through decides first total h so_far = sym so_far ∙ ap through h ∙ decides (TooLong line)
fault_decides (errors.TooMany line) through decides first total h so_far = sym so_far ∙ ap through h ∙ decides (TooMany line)
fault_decides errors.NoMemory through decides first total h so_far = tt

-- what was read before, and what is still read
abbrev pub before : List Entry → Result (List Entry) Fault → Result (List Entry) Fault
before front (Ok entries) = Ok (front ++ entries)
before front (Err fault) = Err fault

before_joined : (front : List Entry) (entry : Entry) (rest : Result (List Entry) Fault)
    → before front (joined (Ok entry) rest) ≡ before (front ++ entry ∷ []) rest
before_joined front entry (Ok entries) = ap (λ (x : List Entry). Ok x) (sym (append_assoc front (entry ∷ []) entries))
before_joined front entry (Err fault) = refl

pub read_goes_on : (front : List Entry) (entry : Entry) (place : Place) (line : Line) (lines : List Line) → read_line place line ≡ Ok entry
    → before front (read_lines place (line ∷ lines)) ≡ before (front ++ entry ∷ []) (read_lines (next_place place line) lines)
unfolding read_lines
read_goes_on front entry place line lines e = rw e (before_joined front entry (read_lines (next_place place line) lines))

read_is_done : (front : List Entry) (place : Place) (total : Result (List Entry) Fault) → before front (read_lines place []) ≡ total
    → total ≡ Ok front
unfolding read_lines
read_is_done front place total so_far = sym so_far ∙ ap (λ (x : List Entry). Ok x) (append-nil front)

pub before_nothing : (read : Result (List Entry) Fault) → before [] read ≡ read
before_nothing (Ok entries) = refl
before_nothing (Err fault) = refl

-- nothing is left to read
pub all_read : (left : List ℕ) (front : List Entry) (place : Place) (total : Result (List Entry) Fault) → length left ≡ 0
    → before front (read_lines place (lines_of left)) ≡ total → total ≡ Ok front
unfolding lines_of
all_read left front place total e so_far =
    let nothing = nil_from_length left e in
    read_is_done front place total (rw nothing at so_far)

-- ---- the first line

abbrev IsLineFeed : List ℕ → ℕ → Type 0
IsLineFeed bytes k = (get_or bytes k 0 == 10) ≡ true

pub whole_line : (n : ℕ) (bytes : List ℕ) → n < length bytes → ((k : ℕ) → k < n → IsLineFeed bytes k → ⊥) → IsLineFeed bytes n
    → lines_of bytes ≡ record { bytes = take n bytes; is_whole = true } ∷ lines_of (drop (suc n) bytes)
unfolding lines_of
whole_line n [] h none e = absurd (omega arith)
whole_line zero (byte ∷ rest) h none e = rw e refl
whole_line (suc n) (byte ∷ rest) h none e =
    let other : (byte == 10) ≡ false = false_from_ne_true (byte == 10) (none 0 (omega arith)) in
    let later = whole_line n rest (omega arith) (λ k l. none (suc k) (omega arith)) e in
    rw (other, later) refl

pub last_line : (bytes : List ℕ) → 0 < length bytes → ((k : ℕ) → k < length bytes → IsLineFeed bytes k → ⊥)
    → lines_of bytes ≡ record { bytes = bytes; is_whole = false } ∷ lines_of []
unfolding lines_of
last_line [] h none = absurd (omega arith)
last_line (byte ∷ []) h none =
    let other : (byte == 10) ≡ false = false_from_ne_true (byte == 10) (none 0 (omega arith)) in
    rw other refl
last_line (byte ∷ next ∷ rest) h none =
    let other : (byte == 10) ≡ false = false_from_ne_true (byte == 10) (none 0 (omega arith)) in
    let later = last_line (next ∷ rest) (omega arith) (λ k l. none (suc k) (omega arith)) in
    rw (other, later) refl

-- ---- a line of the input, and what is left behind it

pub line_goes_on : (number : ℕ) (bytes left rest : List ℕ) (front : List Entry) (entry : Entry) (line : Line)
    (total : Result (List Entry) Fault)
    → lines_of left ≡ line ∷ lines_of rest → size_of line + length rest ≡ length left → length left ≤ length bytes
    → read_line (place_at number bytes left front) line ≡ Ok entry
    → before front (read_lines (place_at number bytes left front) (lines_of left)) ≡ total
    → before (front ++ entry ∷ []) (read_lines (place_at (number + 1) bytes rest (front ++ entry ∷ [])) (lines_of rest)) ≡ total
line_goes_on number bytes left rest front entry line total e size within read so_far =
    let place = place_at number bytes left front in
    let paired = (is_read place line entry read).pair in
    let bytes_are : length bytes - length rest ≡ place.bytes + size_of line = omega arith in
    let pairs_are : length (front ++ entry ∷ []) ≡ place.pairs + cond (is_pair line.bytes) 1 0 =
    rw (paired, length_push front entry) refl in
    let places_are : place_at (number + 1) bytes rest (front ++ entry ∷ []) ≡ next_place place line = rw (bytes_are, pairs_are) refl in
    let one = read_goes_on front entry place line (lines_of rest) read in
    rw places_are (sym one ∙ rw e at so_far)

pub line_ends : (fault : LineFault) (place : Place) (left rest : List ℕ) (front : List Entry) (line : Line)
    (total : Result (List Entry) Fault)
    → lines_of left ≡ line ∷ lines_of rest → Fails fault (read_line place line) → before front (read_lines place (lines_of left)) ≡ total
    → Fails fault total
unfolding read_lines
line_ends fault place left rest front line total e h so_far =
    fault_decides fault (λ first. before front (joined first (read_lines (next_place place line) (lines_of rest)))) (λ f. refl)
    (read_line place line) total h (rw e at so_far)
