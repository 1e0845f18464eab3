-- An input of a replay, a line of the order at a time.
use Rattle.std.proofs.Common.{◌≡◌, ℕ, ◌+◌, ◌-◌, ◌≤◌, true, false, ◌==◌, List, [], ◌∷◌, ◌++◌, length, Result, Ok, Err, refl, sym, ap, subst, ◌∙◌, append_assoc, arith}
use Rattle.std.proofs.lemmas.Bool.{eqb-true}
use Rattle.std.proofs.lemmas.List.{append-nil}
use Rattle.model_lines.specs.Reading.{Entry, Fault, Line, Place, start, with_first, lines_of, read_lines, next_place, is_pair, size_of}
use Rattle.model_input.specs.declared.input.Form.TheVariants as form
use Rattle.model_input.specs.declared.input.Input.{Input}
use Rattle.model_input.specs.Orders.{is_of_order, read_machine}
use Rattle.model_input.specs.Forms.{without_order, with_machine, read_replay, input_of}
use Rattle.model_input.proofs.Machines.{is_read}
use Rattle.dump_text.specs.declared.fault.LineFault.{LineFault}
use Rattle.dump_text.specs.Places.{place_at}
use Rattle.dump_text.specs.Reading.{Fails}
use Rattle.dump_text.proofs.Inputs.{fault_decides}

-- ---- the first byte tells which lines are left

first_with : (byte : ℕ) (place : Place) (lines : List Line) → (byte == 79) ≡ false
    → read_replay place (with_first byte lines) ≡ without_order (read_lines place (with_first byte lines))
unfolding read_replay
first_with byte place [] e = rw e refl
first_with byte place (line ∷ lines) e = rw e refl

-- from a line on that isn't of the order, all are of pairs
pub replay_ends : (place : Place) (left : List ℕ) → is_of_order left ≡ false
    → read_replay place (lines_of left) ≡ without_order (read_lines place (lines_of left))
unfolding read_replay read_lines lines_of
replay_ends place [] e = refl
replay_ends place (byte ∷ bytes) e =
    elim (byte == 10) as (λ b. (byte == 10) ≡ b
    → read_replay place (lines_of (byte ∷ bytes)) ≡ without_order (read_lines place (lines_of (byte ∷ bytes)))) [
      | true ↦ λ f. rw f refl
      | false ↦ λ f. rw f (first_with byte place (lines_of bytes) e)
    ] refl

-- what the first of lines says of their first byte
abbrev FirstIsOfOrder : List Line → Type 0
FirstIsOfOrder [] = ⊥
FirstIsOfOrder (line ∷ lines) = is_of_order line.bytes ≡ true

first_is : (byte : ℕ) (lines : List Line) → (byte == 79) ≡ true → FirstIsOfOrder (with_first byte lines)
first_is byte [] e = e
first_is byte (line ∷ lines) e = e

first_line_is : (left : List ℕ) → is_of_order left ≡ true → FirstIsOfOrder (lines_of left)
unfolding lines_of
first_line_is [] e = absurd cc
first_line_is (byte ∷ bytes) e =
    let is : byte ≡ 79 = eqb-true byte 79 e in
    rw is (first_is 79 (lines_of bytes) refl)

-- ---- a line of the order, and what is left behind it

-- what was read before, and what is still read
abbrev pub before : List ℕ → Result Input Fault → Result Input Fault
before front (Ok input) = Ok (record { order = front ++ input.order; pairs = input.pairs })
before front (Err fault) = Err fault

before_machine : (front : List ℕ) (machine : ℕ) (rest : Result Input Fault)
    → before front (with_machine (Ok machine) rest) ≡ before (front ++ machine ∷ []) rest
before_machine front machine (Ok input) =
    ap (λ (x : List ℕ). Ok (record { order = x; pairs = input.pairs })) (sym (append_assoc front (machine ∷ []) input.order))
before_machine front machine (Err fault) = refl

-- reading at a line of the order
replay_at : (place : Place) (left rest : List ℕ) (line : Line) → is_of_order left ≡ true → lines_of left ≡ line ∷ lines_of rest
    → read_replay place (lines_of left) ≡ with_machine (read_machine place line) (read_replay (next_place place line) (lines_of rest))
unfolding read_replay
replay_at place left rest line e f =
    let first : is_of_order line.bytes ≡ true = subst FirstIsOfOrder f (first_line_is left e) in
    rw (f, first) refl

pub machine_goes_on : (number : ℕ) (bytes left rest front : List ℕ) (machine : ℕ) (line : Line) (total : Result Input Fault)
    → is_of_order left ≡ true → lines_of left ≡ line ∷ lines_of rest → size_of line + length rest ≡ length left
    → length left ≤ length bytes → read_machine (place_at number bytes left []) line ≡ Ok machine
    → before front (read_replay (place_at number bytes left []) (lines_of left)) ≡ total
    → before (front ++ machine ∷ []) (read_replay (place_at (number + 1) bytes rest []) (lines_of rest)) ≡ total
machine_goes_on number bytes left rest front machine line total o e size within read so_far =
    let place = place_at number bytes left [] in
    let spelled = (is_read place line machine read).is.spelled in
    let unpaired : is_pair line.bytes ≡ false = rw spelled refl in
    let bytes_are : length bytes - length rest ≡ place.bytes + size_of line = omega arith in
    let places_are : place_at (number + 1) bytes rest [] ≡ next_place place line = rw (bytes_are, unpaired) refl in
    let one : read_replay place (lines_of left) ≡ with_machine (Ok machine) (read_replay (next_place place line) (lines_of rest)) =
    replay_at place left rest line o e ∙ ap (λ x. with_machine x (read_replay (next_place place line) (lines_of rest))) read in
    rw places_are (sym (before_machine front machine (read_replay (next_place place line) (lines_of rest)))
    ∙ ap (before front) (sym one) ∙ so_far)

pub machine_ends : (fault : LineFault) (place : Place) (left rest front : List ℕ) (line : Line) (total : Result Input Fault)
    → is_of_order left ≡ true → lines_of left ≡ line ∷ lines_of rest → Fails fault (read_machine place line)
    → before front (read_replay place (lines_of left)) ≡ total → Fails fault total
machine_ends fault place left rest front line total o e h so_far =
    fault_decides fault (λ first. before front (with_machine first (read_replay (next_place place line) (lines_of rest)))) (λ f. refl)
    (read_machine place line) total h (ap (before front) (sym (replay_at place left rest line o e)) ∙ so_far)

-- ---- the pairs behind the order

pub pairs_follow : (place : Place) (left front : List ℕ) (pairs : List Entry) (total : Result Input Fault) → is_of_order left ≡ false
    → read_lines place (lines_of left) ≡ Ok pairs → before front (read_replay place (lines_of left)) ≡ total
    → total ≡ Ok (record { order = front; pairs = pairs })
pairs_follow place left front pairs total o e so_far =
    sym so_far ∙ ap (before front) (replay_ends place left o ∙ ap without_order e)
    ∙ ap (λ (x : List ℕ). Ok (record { order = x; pairs = pairs })) (append-nil front)

pub pairs_end : (fault : LineFault) (place : Place) (left front : List ℕ) (total : Result Input Fault) → is_of_order left ≡ false
    → Fails fault (read_lines place (lines_of left)) → before front (read_replay place (lines_of left)) ≡ total → Fails fault total
pairs_end fault place left front total o h so_far =
    fault_decides fault (λ read. before front (without_order read)) (λ f. refl) (read_lines place (lines_of left)) total h
    (ap (before front) (sym (replay_ends place left o)) ∙ so_far)

-- ---- pairs alone, from the start on

start_is : (bytes : List ℕ) → place_at 1 bytes bytes [] ≡ start
start_is bytes =
    let none : length bytes - length bytes ≡ 0 = omega arith in
    rw none refl

pub run_is : (bytes : List ℕ) (pairs : List Entry) → read_lines (place_at 1 bytes bytes []) (lines_of bytes) ≡ Ok pairs
    → input_of form.Run bytes ≡ Ok (record { order = []; pairs = pairs })
unfolding input_of
run_is bytes pairs e = ap without_order (ap (λ (x : Place). read_lines x (lines_of bytes)) (sym (start_is bytes)) ∙ e)

pub run_fails : (fault : LineFault) (bytes : List ℕ) → Fails fault (read_lines (place_at 1 bytes bytes []) (lines_of bytes))
    → Fails fault (input_of form.Run bytes)
unfolding input_of
run_fails fault bytes h =
    let read = read_lines start (lines_of bytes) in
    fault_decides fault without_order (λ f. refl) read (without_order read) (rw (start_is bytes) at h) refl
