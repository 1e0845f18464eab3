-- A text, a line at a time.
use Rattle.std.proofs.Common.{◌≡◌, ℕ, ◌-◌, true, false, List, [], ◌∷◌, ◌++◌, length, Result, Ok, Err, refl, sym, ap, ◌∙◌, append_assoc}
use Rattle.std.proofs.lemmas.List.{append-nil, nil_from_length}
use Rattle.model_lines.specs.Reading.{Entry, Fault, BadLine, Line, lines_of}
use Rattle.dump_text.specs.declared.fault.LineFault.{LineFault}
use Rattle.dump_text.specs.Reading.{Fails}
use Rattle.dump_text.proofs.Inputs.{fault_decides}
use Rattle.instr_grammar.specs.Lines.{Place, Said, is_waiting, read_line, read_lines, next_place, pairs_of, with_pairs, read_on}
use Rattle.instr_text.specs.declared.sections.Sections.{Sections}
use Rattle.instr_text.specs.Standing.{IsAt}

-- where the program stands, with the pairs that it has read
pub record Stands (sections : Sections) (number : ℕ) (text left : List ℕ) (pairs : List Entry) (total : Result (List Entry) Fault) : Type 0 where
  pub place : Place
  pub is_at : IsAt sections place
  pub number_is : number ≡ place.number
  pub bytes : length text - length left ≡ place.bytes
  pub all : with_pairs pairs (read_lines place (lines_of left)) ≡ total

pub nothing_read : (read : Result (List Entry) Fault) → with_pairs [] read ≡ read
nothing_read (Ok pairs) = refl
nothing_read (Err fault) = refl

joined : (front more : List Entry) (read : Result (List Entry) Fault) → with_pairs front (with_pairs more read) ≡ with_pairs (front ++ more) read
joined front more (Ok others) = ap (λ (x : List Entry). Ok x) (sym (append_assoc front more others))
joined front more (Err fault) = refl

pub line_goes_on : (place : Place) (left rest : List ℕ) (front : List Entry) (said : Said) (line : Line) (total : Result (List Entry) Fault)
    → lines_of left ≡ line ∷ lines_of rest → read_line place line ≡ Ok said → with_pairs front (read_lines place (lines_of left)) ≡ total
    → with_pairs (front ++ pairs_of place said) (read_lines (next_place place line said) (lines_of rest)) ≡ total
unfolding read_lines
line_goes_on place left rest front said line total e read so_far =
    let later = read_lines (next_place place line said) (lines_of rest) in
    let one : with_pairs front (read_lines place (lines_of left)) ≡ with_pairs front (with_pairs (pairs_of place said) later) = rw (e, read) refl in
    sym (joined front (pairs_of place said) later) ∙ sym one ∙ so_far

pub line_ends : (fault : LineFault) (place : Place) (left rest : List ℕ) (front : List Entry) (line : Line) (total : Result (List Entry) Fault)
    → lines_of left ≡ line ∷ lines_of rest → Fails fault (read_line place line) → with_pairs front (read_lines place (lines_of left)) ≡ total
    → Fails fault total
unfolding read_lines
line_ends fault place left rest front line total e h so_far =
    fault_decides fault (λ first. with_pairs front (read_on place line (λ next. read_lines next (lines_of rest)) first)) (λ f. refl)
    (read_line place line) total h (rw e at so_far)

-- nothing is left to read
pub all_read : (place : Place) (left : List ℕ) (front : List Entry) (total : Result (List Entry) Fault) → length left ≡ 0 → is_waiting place ≡ false
    → with_pairs front (read_lines place (lines_of left)) ≡ total → total ≡ Ok front
unfolding read_lines lines_of
all_read place left front total e ready so_far =
    let nothing = nil_from_length left e in
    sym (rw (nothing, ready) at so_far) ∙ ap (λ (x : List Entry). Ok x) (append-nil front)

pub all_read_waiting : (place : Place) (left : List ℕ) (front : List Entry) (total : Result (List Entry) Fault) → length left ≡ 0 → is_waiting place ≡ true
    → with_pairs front (read_lines place (lines_of left)) ≡ total → total ≡ Err (BadLine place.number 0)
unfolding read_lines lines_of
all_read_waiting place left front total e waiting so_far =
    let nothing = nil_from_length left e in
    sym (rw (nothing, waiting) at so_far)
