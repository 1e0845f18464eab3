-- Instruction text: how elements, instructions and sections are written, and the pairs that they stand for.
use Rattle.std.specs.Prelude.{◌≡◌, ◌≢◌, ◌⊎◌, ◌≤◌, ◌<◌, ℕ, ◌+◌, Bool, true, false, List, [], ◌∷◌, ◌++◌, length, map, flat_map, decimal, codes, pos, ◌/◌, ◌%◌, Some}
use Rattle.std.specs.Fmt.{signed_decimal}
use Rattle.std.specs.List.{AllByRecursion}
use Rattle.key_bytes.specs.Keys.{IsByteString}
use Rattle.model_lines.specs.Printing.{space, line_feed, hexadecimal_digit, printable, printable_but}
use Rattle.model_lines.specs.Reading.{Entry, input_limit, line_limit}
use Rattle.model_database.specs.declared.TheConstants.{VALUE_LIMIT}
use Rattle.fdb_tuple.specs.Tuples.{Scalar, Null, Bytes, Text, Int, Boolean, Uuid, Stamp, Elements, Empty, Single, Nested, AreElements, depth_of}
use Rattle.fdb_tuple.specs.Spelling.{spelling}
use Rattle.instr_grammar.specs.Names.{names, push, is_among}

-- ---- elements

abbrev pub quote : ℕ
quote = 39

-- bytes between quotes: their printable form, but a quote is spelled by its digits
abbrev pub quoted : List ℕ → List ℕ
quoted bytes = quote ∷ printable_but (Some quote) bytes ++ quote ∷ []

abbrev pub two_digits : ℕ → List ℕ
two_digits byte = hexadecimal_digit (byte / 16) ∷ hexadecimal_digit (byte % 16) ∷ []

unfoldable pub in_hexadecimal : List ℕ → List ℕ
in_hexadecimal bytes = flat_map two_digits bytes

abbrev pub boolean_text : Bool → List ℕ
boolean_text false = codes "false"
boolean_text true = codes "true"

unfoldable pub scalar_text : Scalar → List ℕ
scalar_text Null = codes "null"
scalar_text (Bytes bytes) = codes "b" ++ quoted bytes
scalar_text (Text text) = codes "u" ++ quoted text
scalar_text (Int number) = signed_decimal number
scalar_text (Boolean value) = boolean_text value
scalar_text (Uuid bytes) = codes "uuid:" ++ in_hexadecimal bytes
scalar_text (Stamp stamp user) = codes "stamp:" ++ in_hexadecimal stamp ++ codes "." ++ decimal user

-- what stands before an element: a space, but nothing before the first
abbrev pub gap : Bool → List ℕ
gap true = []
gap false = space ∷ []

abbrev pub opening : ℕ
opening = 40

abbrev pub closing : ℕ
closing = 41

-- elements with single spaces between, from the first on or behind others
abbrev pub elements_text : Bool → Elements → List ℕ
elements_text first Empty = []
elements_text first (Single scalar rest) = gap first ++ scalar_text scalar ++ elements_text false rest
elements_text first (Nested inner rest) = gap first ++ opening ∷ elements_text true inner ++ closing ∷ elements_text false rest

-- ---- instructions and sections

-- a name, and the elements behind it: one for PUSH, none for every other operation
pub record Instruction : Type 0 where
  pub name : List ℕ
  pub operand : Elements

pub record Section : Type 0 where
  pub prefix : List ℕ
  pub instructions : List Instruction

abbrev pub instruction_line : Instruction → List ℕ
instruction_line one = one.name ++ elements_text false one.operand ++ line_feed ∷ []

abbrev pub section_lines : Section → List ℕ
section_lines section = codes "@ " ++ printable section.prefix ++ line_feed ∷ flat_map instruction_line section.instructions

abbrev pub text_of : List Section → List ℕ
text_of sections = flat_map section_lines sections

abbrev pub IsOperand : Elements → Type 0
IsOperand Empty = ⊥
IsOperand (Single scalar Empty) = Unit {0}
IsOperand (Nested inner Empty) = Unit {0}
IsOperand (Single scalar rest) = ⊥
IsOperand (Nested inner rest) = ⊥

-- what an operation has behind its name
abbrev pub Takes : Instruction → Type 0
Takes one = ((one.name ≡ push) × IsOperand one.operand) ⊎ ((is_among one.name names ≡ true) × (one.operand ≡ Empty))

pub record IsInstruction (one : Instruction) : Type 0 where
  pub takes : Takes one
  pub elements : AreElements one.operand
  pub depth : depth_of one.operand ≤ 100

pub record IsSection (section : Section) : Type 0 where
  pub prefix : IsByteString section.prefix
  pub short : length section.prefix ≤ 1000
  pub some : 0 < length section.instructions
  pub instructions : AllByRecursion IsInstruction section.instructions

-- no prefix comes twice
abbrev pub AreDistinct : List (List ℕ) → Type 0
AreDistinct [] = Unit {0}
AreDistinct (prefix ∷ others) = AllByRecursion (λ other. prefix ≢ other) others × AreDistinct others

pub record AreSections (sections : List Section) : Type 0 where
  pub each : AllByRecursion IsSection sections
  pub distinct : AreDistinct (map (λ (s : Section). s.prefix) sections)

-- ---- the pairs that a text stands for

abbrev pub instruction_key : List ℕ → ℕ → List ℕ
instruction_key prefix i = spelling (Single (Bytes prefix) (Single (Int (pos i)) Empty))

abbrev pub packed : Instruction → List ℕ
packed one = spelling (Single (Text one.name) one.operand)

abbrev pub pairs_from : List ℕ → ℕ → List Instruction → List Entry
pairs_from prefix i [] = []
pairs_from prefix i (one ∷ more) = (instruction_key prefix i, packed one) ∷ pairs_from prefix (i + 1) more

abbrev pub asm : List Section → List Entry
asm sections = flat_map (λ (s : Section). pairs_from s.prefix 0 s.instructions) sections

-- ---- what is read, and what is written

-- how many instructions a text may have
abbrev pub instructions_limit : ℕ
instructions_limit = 1000000

-- the text is these sections, and all is within its limit
pub record IsTextOf (bytes : List ℕ) (sections : List Section) : Type 0 where
  pub spelled : bytes ≡ text_of sections
  pub lawful : AreSections sections
  pub size : length bytes ≤ input_limit
  pub count : length (flat_map (λ (s : Section). s.instructions) sections) ≤ instructions_limit
  pub short : AllByRecursion (λ (one : Instruction). (length (instruction_line one) ≤ line_limit + 1) × (length (packed one) ≤ VALUE_LIMIT))
      (flat_map (λ (s : Section). s.instructions) sections)
