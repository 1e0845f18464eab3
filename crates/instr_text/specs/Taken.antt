-- Where the program stands in pairs, and what it answers of a pair.
use Rattle.std.specs.Prelude.{◌≡◌, ◌<◌, ◌≤◌, ℕ, ◌-◌, ◌==◌, take, if◌then◌else◌, Bool, not, true, false, List, [], ◌∷◌, ◌++◌, length, pos, Option, Some, None, Result, Ok, Err, bytes_eq}
use Rattle.std.specs.FinMap.{contains_key}
use Rattle.key_bytes.specs.Keys.{IsByteString}
use Rattle.model_lines.specs.Reading.{Entry}
use Rattle.fdb_tuple.specs.declared.tuple.Elem.{Elem}
use Rattle.fdb_tuple.specs.declared.tuple.Elem.TheVariants as elem
use Rattle.fdb_tuple.specs.declared.fault.UnpackFault.{UnpackFault}
use Rattle.fdb_tuple.specs.Tuples.{Elements, Empty}
use Rattle.fdb_tuple.specs.Listed.{before}
use Rattle.instr_grammar.specs.Names.{names, push, is_among}
use Rattle.instr_grammar.specs.Texts.{Instruction, Section, AreSections, instruction_line, asm}
use Rattle.instr_grammar.specs.Lines.{first_of}
use Rattle.instr_grammar.specs.Taking.{Taken, head_of, next_taken}
use Rattle.instr_text.specs.declared.fault.DisFault.{DisFault}
use Rattle.instr_text.specs.declared.fault.DisFault.TheVariants as faults
use Rattle.instr_text.specs.declared.taking.Place.{Place}
use Rattle.instr_text.specs.declared.taking.Taker.{Taker}

-- ---- the elements of a key and of a value

abbrev pub bytes_in : Elem → Option (List ℕ)
bytes_in (elem.Bytes bytes) = Some bytes
bytes_in _ = None

abbrev pub text_in : Elem → Option (List ℕ)
text_in (elem.Text text) = Some text
text_in _ = None

abbrev pub index_in : Elem → Option ℕ
index_in (elem.Int (pos i)) = Some i
index_in _ = None

abbrev pub both_in : Option (List ℕ) → Option ℕ → Option (List ℕ × ℕ)
both_in (Some prefix) (Some i) = Some (prefix, i)
both_in _ _ = None

-- a byte string and an index, alone
abbrev pub place_in : List Elem → Option (List ℕ × ℕ)
place_in (first ∷ second ∷ []) = both_in (bytes_in first) (index_in second)
place_in _ = None

-- a name alone, or PUSH and an element
abbrev pub alone : Option (List ℕ) → Option Instruction
alone (Some name) = if is_among name names then Some (record { name = name; operand = Empty }) else None
alone None = None

abbrev pub with_element : Option (List ℕ) → Elem → Option Instruction
with_element (Some name) element = if bytes_eq name push then Some (record { name = name; operand = before element Empty }) else None
with_element None element = None

abbrev pub instruction_of : List Elem → Option Instruction
instruction_of (name ∷ []) = alone (text_in name)
instruction_of (name ∷ element ∷ []) = with_element (text_in name) element
instruction_of _ = None

-- the tuple that was read, if there is one
abbrev pub tuple_found : Result Elements UnpackFault → Option Elements
tuple_found (Ok tuple) = Some tuple
tuple_found (Err fault) = None

abbrev pub place_is : Place → List ℕ × ℕ
place_is place = (place.prefix, place.index)

-- ---- a pair

-- the line was added, or the elements are no instruction
abbrev pub Writes : Bool → List ℕ → List ℕ → Option Instruction → Type 0
Writes true before after (Some one) = after ≡ before ++ instruction_line one
Writes false before after None = Unit {0}
Writes _ before after _ = ⊥

-- the program's state is what was taken
pub record IsTaken (taker : Taker) (taken : Taken) : Type 0 where
  pub came : (prefix : List ℕ) → contains_key taker.came prefix ≡ is_among prefix taken.prefixes
  pub open_is : taker.is_open ≡ not (length taken.prefixes == 0)
  pub prefix : taker.is_open ≡ true → taker.prefix ≡ first_of taken.prefixes
  pub index : taker.index ≡ taken.index

-- the place of an instruction was taken, and the line of a section that begins there added
pub record HasHead (taker : Taker) (before after : List ℕ) (taken : Taken) (place : List ℕ × ℕ) : Type 0 where
  pub text : after ≡ before ++ head_of place
  pub is_taken : IsTaken taker (next_taken taken place)

-- the lines of the pair were added, or it can't follow
abbrev pub Steps : Bool → Taker → List ℕ → List ℕ → Option (List ℕ × Taken) → Type 0
Steps true taker before after (Some lines) = (after ≡ before ++ lines.0) × IsTaken taker lines.1
Steps false taker before after None = Unit {0}
Steps _ taker before after _ = ⊥

-- ---- all pairs

-- the bytes of a key and of a value are bytes
abbrev pub IsPairOfBytes : Entry → Type 0
IsPairOfBytes pair = IsByteString pair.0 × IsByteString pair.1

-- what a function returned is the text, or the first pair that can't follow, unless memory ran out
abbrev pub GivesText : Result (List ℕ) DisFault → Result (List ℕ) ℕ → Type 0
GivesText (Ok text) read = read ≡ Ok text
GivesText (Err (faults.NotInstruction line)) read = read ≡ Err line
GivesText (Err faults.NoMemory) read = Unit {0}

-- the pairs of some text, whatever its size
abbrev pub IsAsm : List Entry → Type 0
IsAsm pairs = (sections : List Section) × (AreSections sections × (pairs ≡ asm sections))

-- the pairs before this one, counted from 1, are those of some text, and with it they are those of none
pub record IsFirstBad (pairs : List Entry) (line : ℕ) : Type 0 where
  pub some : 0 < line
  pub within : line ≤ length pairs
  pub front : IsAsm (take (line - 1) pairs)
  pub bad : IsAsm (take line pairs) → ⊥

-- the first pair that can't follow
abbrev pub Stops : List Entry → DisFault → Type 0
Stops pairs (faults.NotInstruction line) = IsFirstBad pairs line
Stops pairs faults.NoMemory = Unit {0}
