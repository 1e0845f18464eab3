-- How pairs are taken apart as instruction text, one after the other, up to the first that can't follow.
use Rattle.std.specs.Prelude.{ℕ, ◌+◌, Bool, true, false, not, ◌&&◌, ◌||◌, if◌then◌else◌, List, [], ◌∷◌, ◌++◌, length, pos, Option, Some, None, Result, Ok, Err, nat_lt, ◌==◌, bytes_eq, codes}
use Rattle.model_lines.specs.Printing.{line_feed, printable}
use Rattle.model_lines.specs.Reading.{Entry}
use Rattle.fdb_tuple.specs.declared.fault.UnpackFault.{UnpackFault}
use Rattle.fdb_tuple.specs.Tuples.{Bytes, Text, Int, Elements, Empty, Single, Nested}
use Rattle.fdb_tuple.specs.Reading.{read_tuple}
use Rattle.instr_grammar.specs.Names.{names, push, is_among}
use Rattle.instr_grammar.specs.Texts.{Instruction, instruction_line}
use Rattle.instr_grammar.specs.Reading.{prefix_limit}
use Rattle.instr_grammar.specs.Lines.{first_of}

-- the prefix and the index that a key packs
abbrev pub place_of : Elements → Option (List ℕ × ℕ)
place_of (Single (Bytes prefix) (Single (Int (pos i)) Empty)) = Some (prefix, i)
place_of _ = None

abbrev pub is_one : Elements → Bool
is_one (Single scalar Empty) = true
is_one (Nested inner Empty) = true
is_one _ = false

abbrev pub is_none_left : Elements → Bool
is_none_left Empty = true
is_none_left _ = false

-- the instruction that a value packs: its name is a Unicode string
abbrev pub instruction_in : Elements → Option Instruction
instruction_in (Single (Text name) operand) =
    if (bytes_eq name push && is_one operand) || (is_among name names && is_none_left operand)
    then Some (record { name = name; operand = operand }) else None
instruction_in _ = None

-- the prefixes that came, the last one first, and the index that comes next in its section
pub record Taken : Type 0 where
  pub prefixes : List (List ℕ)
  pub index : ℕ

-- index 0 begins a section of a prefix that did not come; any other goes on in the section that is open
abbrev pub follows : Taken → List ℕ × ℕ → Bool
follows taken place =
    if place.1 == 0 then not (nat_lt prefix_limit (length place.0)) && not (is_among place.0 taken.prefixes)
    else not (length taken.prefixes == 0) && bytes_eq (first_of taken.prefixes) place.0 && place.1 == taken.index

abbrev pub head_of : List ℕ × ℕ → List ℕ
head_of place = if place.1 == 0 then codes "@ " ++ printable place.0 ++ line_feed ∷ [] else []

abbrev pub next_taken : Taken → List ℕ × ℕ → Taken
next_taken taken place =
    if place.1 == 0 then record { prefixes = place.0 ∷ taken.prefixes; index = 1 } else record taken { index = taken.index + 1 }

-- the lines of a pair, and what comes after it
abbrev pub step_by : Taken → Option (List ℕ × ℕ) → Option Instruction → Option (List ℕ × Taken)
step_by taken (Some place) (Some one) =
    if follows taken place then Some (head_of place ++ instruction_line one, next_taken taken place) else None
step_by taken _ _ = None

abbrev pub in_tuple : {A : Type 0} → (Elements → Option A) → Result Elements UnpackFault → Option A
in_tuple f (Ok tuple) = f tuple
in_tuple f (Err fault) = None

unfoldable pub step : Taken → Entry → Option (List ℕ × Taken)
step taken pair = step_by taken (in_tuple place_of (read_tuple pair.0)) (in_tuple instruction_in (read_tuple pair.1))

abbrev pub with_text : List ℕ → Result (List ℕ) ℕ → Result (List ℕ) ℕ
with_text text (Ok others) = Ok (text ++ others)
with_text text (Err line) = Err line

abbrev pub taken_on : ℕ → Option (List ℕ × Taken) → (Taken → Result (List ℕ) ℕ) → Result (List ℕ) ℕ
taken_on line None more = Err line
taken_on line (Some one) more = with_text one.0 (more one.1)

unfoldable pub take_pairs : ℕ → Taken → List Entry → Result (List ℕ) ℕ
take_pairs line taken [] = Ok []
take_pairs line taken (pair ∷ pairs) = taken_on line (step taken pair) (λ next. take_pairs (line + 1) next pairs)

-- the text of pairs, or the number of the first that can't follow
unfoldable pub disassembled : List Entry → Result (List ℕ) ℕ
disassembled pairs = take_pairs 1 (record { prefixes = []; index = 0 }) pairs
