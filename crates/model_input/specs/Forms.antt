-- What an input is by its form, and what its bytes come to.
use Rattle.std.specs.Prelude.{◌≡◌, ◌≤◌, ℕ, if◌then◌else◌, List, [], ◌∷◌, ◌++◌, length, flat_map, Result, Ok, Err}
use Rattle.std.specs.List.{AllByRecursion}
use Rattle.model_lines.specs.Inputs.{IsSmall, pair_lines}
use Rattle.model_lines.specs.Printing.{order_line}
use Rattle.model_lines.specs.Reading.{Entry, Fault, Line, Place, start, next_place, lines_of, read_lines, input_limit, pairs_limit}
use Rattle.model_input.specs.declared.input.Form.{Form}
use Rattle.model_input.specs.declared.input.Form.TheVariants as form
use Rattle.model_input.specs.declared.input.Input.{Input}
use Rattle.model_input.specs.Orders.{last_machine, is_of_order, read_machine}

-- pairs alone
abbrev pub without_order : Result (List Entry) Fault → Result Input Fault
without_order (Ok pairs) = Ok (record { order = []; pairs = pairs })
without_order (Err fault) = Err fault

-- one more machine in front of the order
abbrev pub with_machine : Result ℕ Fault → Result Input Fault → Result Input Fault
with_machine (Err fault) rest = Err fault
with_machine (Ok machine) (Err fault) = Err fault
with_machine (Ok machine) (Ok input) = Ok (record { order = machine ∷ input.order; pairs = input.pairs })

-- lines of the order as long as they are of it; from the first other line on, lines of pairs; the first fault decides
unfoldable pub read_replay : Place → List Line → Result Input Fault
read_replay place [] = Ok (record { order = []; pairs = [] })
read_replay place (line ∷ lines) =
    if is_of_order line.bytes then with_machine (read_machine place line) (read_replay (next_place place line) lines)
    else without_order (read_lines place (line ∷ lines))

-- lines by the form of the input
abbrev pub read_input : Form → Place → List Line → Result Input Fault
read_input form.Run place lines = without_order (read_lines place lines)
read_input form.Replay place lines = read_replay place lines

-- what the bytes of an input come to, or their first fault
unfoldable pub input_of : Form → List ℕ → Result Input Fault
input_of its_form bytes = read_input its_form start (lines_of bytes)

-- The bytes are the lines of the order and then those of the pairs, and all is within its limit; a run is given no order.
pub record IsInputOf (its_form : Form) (bytes : List ℕ) (input : Input) : Type 0 where
  pub spelled : bytes ≡ flat_map order_line input.order ++ pair_lines input.pairs
  pub machines : AllByRecursion (λ machine. machine ≤ last_machine) input.order
  pub ordered : its_form ≡ form.Run → input.order ≡ []
  pub small : AllByRecursion IsSmall input.pairs
  pub count : length input.pairs ≤ pairs_limit
  pub size : length bytes ≤ input_limit
