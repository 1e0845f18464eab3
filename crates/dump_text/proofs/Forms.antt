-- An input that was read is the lines of its order and then of its pairs, and these lines are read as this order and these pairs.
use Rattle.std.proofs.Common.{◌≡◌, ℕ, ◌+◌, ◌≤◌, true, false, List, [], ◌∷◌, ◌++◌, length, flat_map, Result, Ok, Err, refl, sym, ap, subst, ◌∙◌, append_assoc, arith}
use Rattle.std.specs.List.{AllByRecursion}
use Rattle.std.proofs.lemmas.List.{length-append}
use Rattle.model_lines.specs.Inputs.{pair_lines, IsSmall}
use Rattle.model_lines.specs.Printing.{order_line, pair_line}
use Rattle.model_lines.specs.Reading.{Line, Entry, Fault, Place, start, lines_of, size_of, next_place, read_lines, input_limit, pairs_limit}
use Rattle.model_input.specs.declared.input.Form.{Form}
use Rattle.model_input.specs.declared.input.Form.TheVariants as form
use Rattle.model_input.specs.declared.input.Input.{Input}
use Rattle.model_input.specs.Orders.{last_machine, is_of_order, read_machine}
use Rattle.model_input.specs.Forms.{without_order, with_machine, read_replay, input_of, IsInputOf}
use Rattle.model_input.proofs.Machines.{is_read, stands_as, line_for, line_again, first_again, length-order_line}
use Rattle.dump_text.proofs.Laws.{standing, lines_stand, length-standing, lines_were, lines_again}
use Rattle.dump_text.proofs.Replays.{replay_ends}

-- ---- an input that was read

-- lines that were read from a place on are the lines of their order and of their pairs, within the limits
pub record WereReplayed (place : Place) (lines : List Line) (input : Input) : Type 0 where
  pub spelled : flat_map standing lines ≡ flat_map order_line input.order ++ pair_lines input.pairs
  pub machines : AllByRecursion (λ machine. machine ≤ last_machine) input.order
  pub small : AllByRecursion IsSmall input.pairs
  pub count : place.pairs + length input.pairs ≤ pairs_limit
  pub size : place.bytes + length (flat_map standing lines) ≤ input_limit

pairs_ok : (read : Result (List Entry) Fault) (input : Input) → without_order read ≡ Ok input
    → (read ≡ Ok input.pairs) × (input.order ≡ [])
pairs_ok (Err fault) input e = absurd cc
pairs_ok (Ok pairs) input e =
    let is : record { order = []; pairs = pairs } ≡ input = cc in
    (ap (λ (x : Input). Ok x.pairs) is, ap (λ (x : Input). x.order) (sym is))

machine_ok : (first : Result ℕ Fault) (rest : Result Input Fault) (input : Input) → with_machine first rest ≡ Ok input
    → (machine : ℕ) × ((later : Input) × ((first ≡ Ok machine) × (rest ≡ Ok later)
    × (record { order = machine ∷ later.order; pairs = later.pairs } ≡ input)))
machine_ok (Err fault) rest input e = absurd cc
machine_ok (Ok machine) (Err fault) input e = absurd cc
machine_ok (Ok machine) (Ok later) input e = (machine, (later, (refl, refl, cc)))

pairs_were : (place : Place) (lines : List Line) (input : Input) → place.pairs ≤ pairs_limit → place.bytes ≤ input_limit
    → without_order (read_lines place lines) ≡ Ok input → WereReplayed place lines input
pairs_were place lines input few size e =
    let parts = pairs_ok (read_lines place lines) input e in
    let read = lines_were place lines input.pairs few size parts.0 in
    record {
      spelled = rw parts.1 read.spelled;
      machines = rw parts.1 tt;
      small = read.small;
      count = read.count;
      size = read.size;
    }

-- one more machine before what was read
one_more : (place : Place) (line : Line) (lines : List Line) (machine : ℕ) (later : Input) → read_machine place line ≡ Ok machine
    → WereReplayed (next_place place line) lines later
    → WereReplayed place (line ∷ lines) (record { order = machine ∷ later.order; pairs = later.pairs })
one_more place line lines machine later e h =
    let read = is_read place line machine e in
    let same : (next_place place line).pairs ≡ place.pairs + 0 = rw read.is.spelled refl in
    record {
      spelled = ap (λ (x : List ℕ). x ++ flat_map standing lines) (stands_as line machine read.is)
          ∙ ap (λ (x : List ℕ). order_line machine ++ x) h.spelled
          ∙ sym (append_assoc (order_line machine) (flat_map order_line later.order) (pair_lines later.pairs));
      machines = (read.is.small, h.machines);
      small = h.small;
      count = omega (arith, h.count, same);
      size = omega (arith, h.size, length-append (standing line) (flat_map standing lines), length-standing line);
    }

replay_was : (place : Place) (lines : List Line) (input : Input) → place.pairs ≤ pairs_limit → place.bytes ≤ input_limit
    → read_replay place lines ≡ Ok input → WereReplayed place lines input
unfolding read_replay
replay_was place [] input few size e =
    let none : record { order = []; pairs = [] } ≡ input = cc in
    subst (WereReplayed place []) none
    (record { spelled = refl; machines = tt; small = tt; count = omega arith; size = omega arith })
replay_was place (line ∷ lines) input few size e =
    elim (is_of_order line.bytes) as (λ b. is_of_order line.bytes ≡ b → WereReplayed place (line ∷ lines) input) [
      | true ↦ λ t.
          let parts = machine_ok (read_machine place line) (read_replay (next_place place line) lines) input (rw t at e) in
          let machine = parts.0 in
          let later = parts.1.0 in
          let read = is_read place line machine parts.1.1.0 in
          let same : (next_place place line).pairs ≡ place.pairs + 0 = rw read.is.spelled refl in
          let were = replay_was (next_place place line) lines later (omega (arith, same)) read.size parts.1.1.1 in
          subst (WereReplayed place (line ∷ lines)) parts.1.1.2 (one_more place line lines machine later parts.1.1.0 were)
      | false ↦ λ t. pairs_were place (line ∷ lines) input few size (rw t at e)
    ] refl

-- lines that were read from the start on are the bytes of an input
were_input : (its_form : Form) (bytes : List ℕ) (input : Input) → WereReplayed start (lines_of bytes) input
    → (its_form ≡ form.Run → input.order ≡ []) → IsInputOf its_form bytes input
were_input its_form bytes input h ordered =
    let stands = lines_stand bytes in
    record {
      spelled = sym stands ∙ h.spelled;
      machines = h.machines;
      ordered = ordered;
      small = h.small;
      count = omega (arith, h.count);
      size = omega (arith, ap length stands, h.size);
    }

pub input_was : (its_form : Form) (bytes : List ℕ) (input : Input) → input_of its_form bytes ≡ Ok input → IsInputOf its_form bytes input
unfolding input_of
input_was form.Run bytes input e =
    were_input form.Run bytes input (pairs_were start (lines_of bytes) input (omega arith) (omega arith) e)
    (λ run. (pairs_ok (read_lines start (lines_of bytes)) input e).1)
input_was form.Replay bytes input e =
    were_input form.Replay bytes input (replay_was start (lines_of bytes) input (omega arith) (omega arith) e) (λ run. absurd cc)

-- ---- the lines of an input are read

pairs_first : (pairs : List Entry) → is_of_order (pair_lines pairs) ≡ false
unfolding pair_line
pairs_first [] = refl
pairs_first (entry ∷ entries) = refl

replay_again : (place : Place) (order : List ℕ) (pairs : List Entry) → AllByRecursion (λ machine. machine ≤ last_machine) order
    → AllByRecursion IsSmall pairs → place.pairs + length pairs ≤ pairs_limit
    → place.bytes + length (flat_map order_line order ++ pair_lines pairs) ≤ input_limit
    → read_replay place (lines_of (flat_map order_line order ++ pair_lines pairs)) ≡ Ok (record { order = order; pairs = pairs })
unfolding read_replay
replay_again place [] pairs machines small few size =
    replay_ends place (pair_lines pairs) (pairs_first pairs) ∙ ap without_order (lines_again place pairs small few size)
replay_again place (machine ∷ order) pairs machines small few size =
    let rest = flat_map order_line order ++ pair_lines pairs in
    let line = line_for machine in
    let regrouped : flat_map order_line (machine ∷ order) ++ pair_lines pairs ≡ order_line machine ++ rest =
    append_assoc (order_line machine) (flat_map order_line order) (pair_lines pairs) in
    let lens : length (order_line machine ++ rest) ≡ size_of line + length rest =
    length-append (order_line machine) rest ∙ ap (λ (n : ℕ). n + length rest) (length-order_line machine) in
    let whole = ap length regrouped in
    let read = line_again place machine machines.0 (omega (arith, whole, lens)) in
    let later = replay_again (next_place place line) order pairs machines.1 small (omega arith) (omega (arith, whole, lens)) in
    rw (regrouped, first_again machine rest machines.0, read, later) refl

pub input_again : (its_form : Form) (bytes : List ℕ) (input : Input) → IsInputOf its_form bytes input → input_of its_form bytes ≡ Ok input
unfolding input_of
input_again form.Run bytes input h =
    let none = h.ordered refl in
    let spelled : bytes ≡ pair_lines input.pairs = rw none at h.spelled in
    let read : read_lines start (lines_of bytes) ≡ Ok input.pairs =
    rw spelled (lines_again start input.pairs h.small (omega (arith, h.count)) (omega (arith, h.size, ap length spelled))) in
    ap without_order read ∙ ap (λ (x : List ℕ). Ok (record { order = x; pairs = input.pairs })) (sym none)
input_again form.Replay bytes input h =
    rw h.spelled
    (replay_again start input.order input.pairs h.machines h.small (omega (arith, h.count)) (omega (arith, h.size, ap length h.spelled)))
