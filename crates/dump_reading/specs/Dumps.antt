-- What a dump is, and what its bytes come to, line after line, up to the first fault.
use Rattle.std.specs.Prelude.{◌≡◌, ℕ, ◌+◌, ◌-◌, ◌^◌, ◌<◌, ◌≤◌, true, if◌then◌else◌, List, [], ◌∷◌, length, flat_map, Result, Ok, Err, nat_lt, ◌==◌}
use Rattle.std.specs.List.{AllByRecursion, list_all}
use Rattle.key_bytes.specs.Keys.{IsByteString}
use Rattle.model_lines.specs.Inputs.{IsSmall}
use Rattle.model_lines.specs.Reading.{Flaw, Bad, Entry, Fault, TooMany, TooLong, Place, start, next_place, fault_of, pair_at, is_too_many, lines_of, input_limit, pairs_limit, line_limit}
use Rattle.model_lines.specs.Reading as reading
use Rattle.model_input.specs.Orders.{last_machine}
use Rattle.dump_text.specs.declared.line.Line.{Line}
use Rattle.dump_text.specs.declared.line.Line.TheVariants as line
use Rattle.dump_text.specs.Lines.{line_of}
use Rattle.dump_reading.specs.Fields.{◌>>=◌, number_field, end_field, word_field, text_field, is_word}

-- the greatest number of a machine in a line of another kind than the order's, and of anything else
abbrev pub greatest_machine : ℕ
greatest_machine = 65535

abbrev pub greatest_number : ℕ
greatest_number = 2 ^ 64 - 1

-- ---- the fields behind the letter of a line

unfoldable pub machine_fields : List ℕ → Result Line ℕ
machine_fields bytes = do
  machine ← number_field greatest_machine bytes
  end ← end_field machine.1
  number ← number_field greatest_number end.1
  prefix ← text_field number.1
  Ok (line.M machine.0 end.0 number.0 prefix)

unfoldable pub item_fields : List ℕ → Result Line ℕ
item_fields bytes = do
  machine ← number_field greatest_machine bytes
  place ← number_field greatest_number machine.1
  instruction ← number_field greatest_number place.1
  packed ← text_field instruction.1
  Ok (line.S machine.0 place.0 instruction.0 packed)

unfoldable pub error_fields : List ℕ → Result Line ℕ
error_fields bytes = do
  machine ← number_field greatest_machine bytes
  instruction ← number_field greatest_number machine.1
  word ← word_field instruction.1
  Ok (line.E machine.0 instruction.0 word)

-- the number goes up to the end
abbrev pub order_up_to : ℕ → List ℕ → Result Line ℕ
order_up_to machine [] = Ok (line.O machine)
order_up_to machine (byte ∷ rest) = Err (length (byte ∷ rest))

-- a machine of the order is one that an input's order may name
unfoldable pub order_fields : List ℕ → Result Line ℕ
order_fields bytes = do
  machine ← number_field last_machine bytes
  order_up_to machine.0 machine.1

-- ---- one line

-- the place of a line's kind in a dump, told by its first byte; 5 where it names none
abbrev pub rank_of : List ℕ → ℕ
rank_of [] = 5
rank_of (letter ∷ fields) =
    if letter == 77 then 0
    else if letter == 83 then 1
    else if letter == 69 then 2
    else if letter == 79 then 3
    else if letter == 75 then 4
    else 5

-- a value whose fields took all of the line has the line feed behind it
abbrev pub placed : reading.Line → Result Line ℕ → Result Line Flaw
placed its_line (Ok value) = if its_line.is_whole then Ok value else Err (Bad (length its_line.bytes))
placed its_line (Err left) = Err (Bad (length its_line.bytes - left))

abbrev pub with_pair : Result Entry Flaw → Result Line Flaw
with_pair (Ok pair) = Ok (line.K pair.0 pair.1)
with_pair (Err flaw) = Err flaw

-- a line by its first byte
unfoldable pub value_at : reading.Line → List ℕ → Result Line Flaw
value_at its_line [] = Err (Bad 0)
value_at its_line (letter ∷ fields) =
    if letter == 77 then placed its_line (machine_fields fields)
    else if letter == 83 then placed its_line (item_fields fields)
    else if letter == 69 then placed its_line (error_fields fields)
    else if letter == 79 then placed its_line (order_fields fields)
    else if letter == 75 then with_pair (pair_at its_line (letter ∷ fields))
    else Err (Bad 0)

-- a line of a kind that comes before one that was read is a fault at its first byte
abbrev pub ranked : ℕ → reading.Line → Result Line Flaw
ranked rank its_line = if nat_lt (rank_of its_line.bytes) rank then Err (Bad 0) else value_at its_line its_line.bytes

-- a line read without its limits
abbrev pub judged : ℕ → Result Line Flaw → Result Line Fault
judged number (Ok value) = Ok value
judged number (Err flaw) = Err (fault_of number flaw)

-- one line: too many, too long, a byte that fits no rule, a key or a value that is too long, in this order
unfoldable pub read_line : ℕ → Place → reading.Line → Result Line Fault
read_line rank place its_line =
    if is_too_many place its_line then Err (TooMany place.number)
    else if nat_lt line_limit (length its_line.bytes) then Err (TooLong place.number)
    else judged place.number (ranked rank its_line)

-- ---- the lines of a dump

abbrev pub with_line : Result Line Fault → Result (List Line) Fault → Result (List Line) Fault
with_line (Err fault) rest = Err fault
with_line (Ok value) (Err fault) = Err fault
with_line (Ok value) (Ok values) = Ok (value ∷ values)

-- lines from a place on, where so many kinds are past: the first fault decides
unfoldable pub read_lines : ℕ → Place → List reading.Line → Result (List Line) Fault
read_lines rank place [] = Ok []
read_lines rank place (its_line ∷ lines) =
    with_line (read_line rank place its_line) (read_lines (rank_of its_line.bytes) (next_place place its_line) lines)

-- what the bytes of a dump come to, or their first fault
unfoldable pub dump_in : List ℕ → Result (List Line) Fault
dump_in bytes = read_lines 0 start (lines_of bytes)

-- ---- what a dump is

-- the place of a line's kind in a dump
abbrev pub kind_of : Line → ℕ
kind_of (line.M machine end number prefix) = 0
kind_of (line.S machine place instruction packed) = 1
kind_of (line.E machine instruction word) = 2
kind_of (line.O machine) = 3
kind_of (line.K key value) = 4

-- no line is of a kind before that of the line in front of it
abbrev pub AreInOrder : ℕ → List Line → Type 0
AreInOrder kind [] = Unit {0}
AreInOrder kind (value ∷ values) = (kind ≤ kind_of value) × AreInOrder (kind_of value) values

-- the pair of a line, where it is of one
abbrev pub pairs_of : Line → List Entry
pairs_of (line.M machine end number prefix) = []
pairs_of (line.S machine place instruction packed) = []
pairs_of (line.E machine instruction word) = []
pairs_of (line.O machine) = []
pairs_of (line.K key value) = (key, value) ∷ []

-- a word is one or more letters and digits
pub record IsWord (word : List ℕ) : Type 0 where
  pub some : 0 < length word
  pub letters : list_all is_word word ≡ true

-- what the fields of a line may hold
abbrev pub IsLawful : Line → Type 0
IsLawful (line.M machine end number prefix) = (machine ≤ greatest_machine) × (number ≤ greatest_number) × IsByteString prefix
IsLawful (line.S machine place instruction packed) =
    (machine ≤ greatest_machine) × (place ≤ greatest_number) × (instruction ≤ greatest_number) × IsByteString packed
IsLawful (line.E machine instruction word) = (machine ≤ greatest_machine) × (instruction ≤ greatest_number) × IsWord word
IsLawful (line.O machine) = machine ≤ last_machine
IsLawful (line.K key value) = IsSmall (key, value)

-- a line that a dump may have: its length is told before its line feed
pub record IsDumpLine (value : Line) : Type 0 where
  pub lawful : IsLawful value
  pub short : length (line_of value) ≤ line_limit + 1

-- The bytes are these lines, in the order of their kinds, and all is within its limit.
pub record IsDump (bytes : List ℕ) (values : List Line) : Type 0 where
  pub spelled : bytes ≡ flat_map line_of values
  pub ordered : AreInOrder 0 values
  pub lines : AllByRecursion IsDumpLine values
  pub count : length (flat_map pairs_of values) ≤ pairs_limit
  pub size : length bytes ≤ input_limit
