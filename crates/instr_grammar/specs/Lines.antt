-- How instruction text is read: line after line, each up to its first fault, up to the first line that has one.
use Rattle.std.specs.Prelude.{ℕ, ◌+◌, ◌-◌, Bool, false, not, ◌&&◌, ◌||◌, if◌then◌else◌, List, [], ◌∷◌, ◌++◌, length, Result, Ok, Err, nat_lt, nat_le, ◌==◌}
use Rattle.model_database.specs.declared.TheConstants.{VALUE_LIMIT}
use Rattle.model_lines.specs.Reading.{Line, Flaw, Bad, Long, Entry, Fault, BadLine, TooMany, TooLong, fault_of, size_of, input_limit, line_limit, lines_of}
use Rattle.instr_grammar.specs.Names.{is_among}
use Rattle.instr_grammar.specs.Texts.{Instruction, instruction_key, packed, instructions_limit}
use Rattle.instr_grammar.specs.Reading.{instruction_at, prefix_at}

-- where reading stands: the number of the next line, the bytes and the instructions before it, the prefixes that came, the
-- last one first, and how many instructions of its section came
pub record Place : Type 0 where
  pub number : ℕ
  pub bytes : ℕ
  pub instructions : ℕ
  pub prefixes : List (List ℕ)
  pub index : ℕ

abbrev pub start : Place
start = record { number = 1; bytes = 0; instructions = 0; prefixes = []; index = 0 }

-- what a line says
pub data Said : Type 0 where
  Begins : (prefix : List ℕ) → Said
  Does : (one : Instruction) → Said

abbrev pub is_head : List ℕ → Bool
is_head [] = false
is_head (byte ∷ rest) = byte == 64

abbrev pub is_too_many : Place → Line → Bool
is_too_many place line =
    nat_lt input_limit (place.bytes + size_of line) || (not (is_head line.bytes) && nat_le instructions_limit place.instructions)

-- whether an @ line stands before, with no instruction behind it
abbrev pub is_waiting : Place → Bool
is_waiting place = not (length place.prefixes == 0) && place.index == 0

-- a line that was read up to its end has its line feed
abbrev pub whole : {A : Type 0} → Line → A → Result A Flaw
whole line value = if line.is_whole then Ok value else Err (Bad (length line.bytes))

abbrev pub head_in : Place → Line → Result (List ℕ) ℕ → Result Said Flaw
head_in place line (Err left) = Err (Bad (length line.bytes - left))
head_in place line (Ok prefix) = if is_among prefix place.prefixes then Err (Bad 2) else whole line (Begins prefix)

abbrev pub within : Instruction → Result Said Flaw → Result Said Flaw
within one (Err flaw) = Err flaw
within one (Ok said) = if nat_lt VALUE_LIMIT (length (packed one)) then Err Long else Ok said

abbrev pub instruction_in : Line → Result Instruction ℕ → Result Said Flaw
instruction_in line (Err left) = Err (Bad (length line.bytes - left))
instruction_in line (Ok one) = within one (whole line (Does one))

-- a line by its first byte and what stands before it
unfoldable pub said_at : Place → Line → Result Said Flaw
said_at place line =
    if is_head line.bytes then (if is_waiting place then Err (Bad 0) else head_in place line (prefix_at line.bytes))
    else if length place.prefixes == 0 then Err (Bad 0)
    else instruction_in line (instruction_at line.bytes)

abbrev pub judged : ℕ → Result Said Flaw → Result Said Fault
judged number (Ok said) = Ok said
judged number (Err flaw) = Err (fault_of number flaw)

unfoldable pub read_line : Place → Line → Result Said Fault
read_line place line =
    if is_too_many place line then Err (TooMany place.number)
    else if nat_lt line_limit (length line.bytes) then Err (TooLong place.number)
    else judged place.number (said_at place line)

abbrev pub next_place : Place → Line → Said → Place
next_place place line (Begins prefix) = record {
  number = place.number + 1;
  bytes = place.bytes + size_of line;
  instructions = place.instructions;
  prefixes = prefix ∷ place.prefixes;
  index = 0;
}
next_place place line (Does one) = record {
  number = place.number + 1;
  bytes = place.bytes + size_of line;
  instructions = place.instructions + 1;
  prefixes = place.prefixes;
  index = place.index + 1;
}

-- the prefix of the section that is open
abbrev pub first_of : List (List ℕ) → List ℕ
first_of [] = []
first_of (prefix ∷ others) = prefix

abbrev pub pairs_of : Place → Said → List Entry
pairs_of place (Begins prefix) = []
pairs_of place (Does one) = (instruction_key (first_of place.prefixes) place.index, packed one) ∷ []

abbrev pub with_pairs : List Entry → Result (List Entry) Fault → Result (List Entry) Fault
with_pairs pairs (Err fault) = Err fault
with_pairs pairs (Ok others) = Ok (pairs ++ others)

abbrev pub read_on : Place → Line → (Place → Result (List Entry) Fault) → Result Said Fault → Result (List Entry) Fault
read_on place line more (Err fault) = Err fault
read_on place line more (Ok said) = with_pairs (pairs_of place said) (more (next_place place line said))

-- lines from a place on: the first fault decides; a section that has no instruction at the end is a fault of the line behind it
unfoldable pub read_lines : Place → List Line → Result (List Entry) Fault
read_lines place [] = if is_waiting place then Err (BadLine place.number 0) else Ok []
read_lines place (line ∷ lines) = read_on place line (λ next. read_lines next lines) (read_line place line)

unfoldable pub assembled : List ℕ → Result (List Entry) Fault
assembled bytes = read_lines start (lines_of bytes)
