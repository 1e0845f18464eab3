-- An input that is longer than its limit is refused, and its first bytes past the limit decide how.
use Rattle.std.proofs.Common.{◌≡◌, ℕ, suc, ◌+◌, ◌<◌, true, false, List, ◌∷◌, ◌++◌, length, Result, Ok, Err, refl, sym, ap, ◌∙◌, arith}
use Rattle.std.specs.Prelude.{IsErr}
use Rattle.std.proofs.lemmas.Bool.{lt-ltb}
use Rattle.model_lines.specs.Reading.{Line, Entry, Fault, Place, start, size_of, next_place, read_line, read_lines, joined, input_limit, TooMany}
use Rattle.model_lines.proofs.Lines.{Begins}
use Rattle.model_lines.proofs.Limits.{past_is_too_many, Alike, LaterAlike, alike_past}
use Rattle.model_lines.proofs.ReadLines as pairs
use Rattle.model_input.specs.declared.input.Form.{Form}
use Rattle.model_input.specs.declared.input.Form.TheVariants as form
use Rattle.model_input.specs.declared.input.Input.{Input}
use Rattle.model_input.specs.Orders.{is_of_order, read_machine}
use Rattle.model_input.specs.Forms.{without_order, with_machine, read_replay, read_input, input_of}
use Rattle.model_input.proofs.Machines.{is_read}

-- ---- a line past the limit decides

past_in_an_order : (place : Place) (line : Line) (rest : Result Input Fault) → input_limit < place.bytes + size_of line
    → with_machine (read_machine place line) rest ≡ Err (TooMany place.number)
unfolding read_machine
past_in_an_order place line rest past = rw (lt-ltb input_limit (place.bytes + size_of line) past) refl

past_in_each_form : (its_form : Form) (place : Place) (bytes : List ℕ) (lines : List Line) → Begins bytes lines
    → input_limit < place.bytes + length bytes → read_input its_form place lines ≡ Err (TooMany place.number)
unfolding read_replay
past_in_each_form form.Run place bytes lines h past = ap without_order (past_is_too_many place bytes lines h past)
past_in_each_form form.Replay place bytes lines h past =
    let others = h.others in
    let run : without_order (read_lines place (h.line ∷ others)) ≡ Err (TooMany place.number) =
    ap (λ (x : List Line). without_order (read_lines place x)) (sym h.parts)
    ∙ ap without_order (past_is_too_many place bytes lines h past) in
    let order = past_in_an_order place h.line (read_replay (next_place place h.line) others) (omega (arith, h.size)) in
    elim (is_of_order h.line.bytes) as (λ b. is_of_order h.line.bytes ≡ b → read_replay place lines ≡ Err (TooMany place.number)) [
      | true ↦ λ e. rw (h.parts, e) order
      | false ↦ λ e. rw (h.parts, e) run
    ] refl

-- ---- behind a line that was read, two readings are refused alike

pair_in_front : (entry : Entry) (read other : Result (List Entry) Fault) → Alike (without_order read) (without_order other)
    → Alike (without_order (joined (Ok entry) read)) (without_order (joined (Ok entry) other))
pair_in_front entry (Err fault) (Err fault2) h = record { same = h.same; refused = refl }
pair_in_front entry (Err fault) (Ok pairs) h = absurd cc
pair_in_front entry (Ok pairs) other h = absurd cc

machine_in_front : (machine : ℕ) (read other : Result Input Fault) → Alike read other
    → Alike (with_machine (Ok machine) read) (with_machine (Ok machine) other)
machine_in_front machine (Err fault) other h = record { same = ap (with_machine (Ok machine)) h.same; refused = refl }
machine_in_front machine (Ok input) other h = absurd cc

run_alike : (place : Place) (line : Line) (lines others : List Line) (first : Result Entry Fault) → read_line place line ≡ first
    → LaterAlike read_input place line lines others
    → Alike (without_order (joined first (read_lines (next_place place line) lines)))
    (without_order (joined first (read_lines (next_place place line) others)))
run_alike place line lines others (Err fault) e later = record { same = refl; refused = refl }
run_alike place line lines others (Ok entry) e later =
    pair_in_front entry (read_lines (next_place place line) lines) (read_lines (next_place place line) others)
    (later (pairs.is_read place line entry e).size form.Run)

order_alike : (place : Place) (line : Line) (lines others : List Line) (first : Result ℕ Fault) → read_machine place line ≡ first
    → LaterAlike read_input place line lines others
    → Alike (with_machine first (read_replay (next_place place line) lines)) (with_machine first (read_replay (next_place place line) others))
order_alike place line lines others (Err fault) e later = record { same = refl; refused = refl }
order_alike place line lines others (Ok machine) e later =
    machine_in_front machine (read_replay (next_place place line) lines) (read_replay (next_place place line) others)
    (later (is_read place line machine e).size form.Replay)

line_alike : (its_form : Form) (place : Place) (line : Line) (lines others : List Line) → LaterAlike read_input place line lines others
    → Alike (read_input its_form place (line ∷ lines)) (read_input its_form place (line ∷ others))
unfolding read_lines read_replay
line_alike form.Run place line lines others later = run_alike place line lines others (read_line place line) refl later
line_alike form.Replay place line lines others later =
    elim (is_of_order line.bytes) as (λ b. is_of_order line.bytes ≡ b → Alike (read_replay place (line ∷ lines)) (read_replay place (line ∷ others))) [
      | true ↦ λ e. rw e (order_alike place line lines others (read_machine place line) refl later)
      | false ↦ λ e. rw e (run_alike place line lines others (read_line place line) refl later)
    ] refl

-- ---- an input past the limit

past_the_limit : (its_form : Form) (front rest : List ℕ) → input_limit < length front
    → Alike (input_of its_form front) (input_of its_form (front ++ rest))
unfolding input_of
past_the_limit its_form front rest h =
    alike_past read_input (record { past = past_in_each_form; later = line_alike }) (suc (length front)) its_form start front rest
    (omega arith) (omega arith) (omega arith)

-- bytes behind the first one past the limit change nothing
pub more_changes_nothing : (its_form : Form) (front rest : List ℕ) → input_limit < length front
    → input_of its_form (front ++ rest) ≡ input_of its_form front
more_changes_nothing its_form front rest h = (past_the_limit its_form front rest h).same

pub too_long_is_refused : (its_form : Form) (front rest : List ℕ) → input_limit < length front → IsErr (input_of its_form (front ++ rest))
too_long_is_refused its_form front rest h = rw (more_changes_nothing its_form front rest h) (past_the_limit its_form front rest h).refused
