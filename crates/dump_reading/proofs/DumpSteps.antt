-- A dump, a line at a time.
use Rattle.std.proofs.Common.{◌≡◌, ℕ, List, [], ◌∷◌, ◌++◌, length, Result, Ok, Err, refl, sym, ap, ◌∙◌, append_assoc}
use Rattle.std.proofs.lemmas.List.{append-nil, nil_from_length}
use Rattle.model_lines.specs.Reading.{Flaw, Fault, Place, next_place, size_of, lines_of, input_limit}
use Rattle.model_lines.specs.Reading as reading
use Rattle.model_lines.proofs.ReadLines.{IsWithin, was_within}
use Rattle.dump_text.specs.declared.fault.LineFault.{LineFault}
use Rattle.dump_text.specs.declared.line.Line.{Line}
use Rattle.dump_text.specs.Reading.{Fails}
use Rattle.dump_text.proofs.Inputs.{fault_decides}
use Rattle.dump_reading.specs.Dumps.{ranked, judged, read_line, with_line, read_lines, rank_of}

judged_ok : (number : ℕ) (read : Result Line Flaw) (value : Line) → judged number read ≡ Ok value → read ≡ Ok value
judged_ok number (Ok other) value e = cc
judged_ok number (Err flaw) value e = absurd cc

-- a line that was read is within the limits
pub is_read : (rank : ℕ) (place : Place) (line : reading.Line) (value : Line) → read_line rank place line ≡ Ok value
    → IsWithin place line × (ranked rank line ≡ Ok value)
unfolding read_line
is_read rank place line value e =
    let was = was_within place line (judged place.number (ranked rank line)) value e in
    (was.0, judged_ok place.number (ranked rank line) value was.1)

-- what was read before, and what is still read
abbrev pub before : List Line → Result (List Line) Fault → Result (List Line) Fault
before front (Ok values) = Ok (front ++ values)
before front (Err fault) = Err fault

pub before_nothing : (read : Result (List Line) Fault) → before [] read ≡ read
before_nothing (Ok values) = refl
before_nothing (Err fault) = refl

before_line : (front : List Line) (value : Line) (rest : Result (List Line) Fault)
    → before front (with_line (Ok value) rest) ≡ before (front ++ value ∷ []) rest
before_line front value (Ok values) = ap (λ (x : List Line). Ok x) (sym (append_assoc front (value ∷ []) values))
before_line front value (Err fault) = refl

pub line_goes_on : (rank : ℕ) (place : Place) (left rest : List ℕ) (front : List Line) (value : Line) (line : reading.Line)
    (total : Result (List Line) Fault)
    → lines_of left ≡ line ∷ lines_of rest → read_line rank place line ≡ Ok value
    → before front (read_lines rank place (lines_of left)) ≡ total
    → before (front ++ value ∷ []) (read_lines (rank_of line.bytes) (next_place place line) (lines_of rest)) ≡ total
unfolding read_lines
line_goes_on rank place left rest front value line total e read so_far =
    let later = read_lines (rank_of line.bytes) (next_place place line) (lines_of rest) in
    let one : before front (read_lines rank place (lines_of left)) ≡ before front (with_line (Ok value) later) = rw (e, read) refl in
    sym (before_line front value later) ∙ sym one ∙ so_far

pub line_ends : (fault : LineFault) (rank : ℕ) (place : Place) (left rest : List ℕ) (front : List Line) (line : reading.Line)
    (total : Result (List Line) Fault)
    → lines_of left ≡ line ∷ lines_of rest → Fails fault (read_line rank place line)
    → before front (read_lines rank place (lines_of left)) ≡ total → Fails fault total
unfolding read_lines
line_ends fault rank place left rest front line total e h so_far =
    fault_decides fault (λ first. before front (with_line first (read_lines (rank_of line.bytes) (next_place place line) (lines_of rest)))) (λ f. refl)
    (read_line rank place line) total h (rw e at so_far)

-- nothing is left to read
pub all_read : (rank : ℕ) (place : Place) (left : List ℕ) (front : List Line) (total : Result (List Line) Fault) → length left ≡ 0
    → before front (read_lines rank place (lines_of left)) ≡ total → total ≡ Ok front
unfolding read_lines lines_of
all_read rank place left front total e so_far =
    let nothing = nil_from_length left e in
    sym (rw nothing at so_far) ∙ ap (λ (x : List Line). Ok x) (append-nil front)
