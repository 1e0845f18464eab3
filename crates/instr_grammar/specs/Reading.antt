-- How a line of instruction text is read: from left to right, up to the first byte that fits no rule.
-- A list holds the bytes of the line that are left; a fault is told by how many bytes are left from its place on.
use Rattle.std.specs.Prelude.{ℕ, zero, suc, ◌+◌, ◌-◌, ◌*◌, Bool, true, false, not, ◌&&◌, ◌||◌, if◌then◌else◌, List, [], ◌∷◌, ◌++◌, length, take, drop, get_or, Option, Some, None, Result, Ok, Err, nat_lt, ◌==◌, codes, pos, neg_ℤ, is_some}
use Rattle.std.specs.Str.{is_utf8}
use Rattle.std.specs.Str.Lossy.{utf8_valid_len, utf8_error_len}
use Rattle.model_lines.specs.Printing.{space, printable}
use Rattle.model_lines.specs.Reading.{digit_of}
use Rattle.dump_reading.specs.Fields.{◌>>=◌, behind, number_at}
use Rattle.dump_reading.specs.Spellings.{Front, byte_at}
use Rattle.fdb_tuple.specs.declared.tuple.Elem.{Elem}
use Rattle.fdb_tuple.specs.declared.tuple.Elem.TheVariants as elem
use Rattle.fdb_tuple.specs.Tuples.{Elements, Empty, greatest_magnitude}
use Rattle.fdb_tuple.specs.Listed.{before}
use Rattle.instr_grammar.specs.declared.part.Part.{Part}
use Rattle.instr_grammar.specs.declared.part.Part.TheVariants as part
use Rattle.instr_grammar.specs.Names.{names, push, is_among, longest}
use Rattle.instr_grammar.specs.Texts.{quote, opening, closing, Instruction}

-- ---- bytes

-- the bytes that are spelled at the front, and what is left behind them
abbrev pub Run : Type 0
Run = List ℕ × List ℕ

-- a byte that was spelled, before those behind it; or nothing, where none is
abbrev pub run_on : List ℕ → Option Front → (List ℕ → Run) → Run
run_on bytes None more = ([], bytes)
run_on bytes (Some front) more = let later = more front.1 in (front.0 ∷ later.0, later.1)

-- each spelling takes a byte at least, so as many as there are bytes are enough
unfoldable pub run_up_to : ℕ → Option ℕ → List ℕ → Run
run_up_to zero escaped bytes = ([], bytes)
run_up_to (suc more) escaped bytes = run_on bytes (byte_at escaped bytes) (run_up_to more escaped)

unfoldable pub run_of : Option ℕ → List ℕ → Run
run_of escaped bytes = run_up_to (length bytes) escaped bytes

-- up to the quote that ends them
abbrev pub behind_quote : List ℕ → Result (List ℕ) ℕ
behind_quote [] = Err 0
behind_quote (byte ∷ rest) = if byte == quote then Ok rest else Err (length (byte ∷ rest))

abbrev pub with_string : List ℕ → Result (List ℕ) ℕ → Result (List ℕ × List ℕ) ℕ
with_string string (Ok rest) = Ok (string, rest)
with_string string (Err left) = Err left

abbrev pub closed : Run → Result (List ℕ × List ℕ) ℕ
closed run = with_string run.0 (behind_quote run.1)

-- a byte by two digits
unfoldable pub digits_at : List ℕ → Result (ℕ × List ℕ) ℕ
digits_at [] = Err 0
digits_at (high ∷ []) = if nat_lt (digit_of high) 16 then Err 0 else Err 1
digits_at (high ∷ low ∷ rest) =
    if not (nat_lt (digit_of high) 16) then Err (length (high ∷ low ∷ rest))
    else if not (nat_lt (digit_of low) 16) then Err (length (low ∷ rest))
    else Ok (16 * digit_of high + digit_of low, rest)

-- bytes that were read, before those behind them
abbrev pub with_bytes : List ℕ → Result (List ℕ × List ℕ) ℕ → Result (List ℕ × List ℕ) ℕ
with_bytes front (Ok read) = Ok (front ++ read.0, read.1)
with_bytes front (Err left) = Err left

-- so many bytes, each by two digits
unfoldable pub hexadecimal_at : ℕ → List ℕ → Result (List ℕ × List ℕ) ℕ
hexadecimal_at zero bytes = Ok ([], bytes)
hexadecimal_at (suc more) bytes = digits_at bytes >>= (λ first. with_bytes (first.0 ∷ []) (hexadecimal_at more first.1))

-- ---- scalars

abbrev pub Read : Type 0
Read = Result (Elem × List ℕ) ℕ

-- an element that is one word
abbrev pub word_at : List ℕ → Elem → List ℕ → Read
word_at word element bytes = do
  rest ← behind word bytes
  Ok (element, rest)

unfoldable pub bytes_at : List ℕ → Read
bytes_at bytes = do
  inside ← behind (codes "b'") bytes
  string ← closed (run_of (Some quote) inside)
  Ok (elem.Bytes string.0, string.1)

-- whether bytes are UTF-8, or are where more of them follow
abbrev pub may_be_utf8 : List ℕ → Bool
may_be_utf8 bytes = is_utf8 bytes || not (is_some (utf8_error_len (drop (utf8_valid_len bytes) bytes)))

-- bytes that can't become UTF-8 are a fault at the u, before any fault further on; and so are whole bytes that aren't UTF-8
abbrev pub text_in : ℕ → List ℕ → Result (List ℕ × List ℕ) ℕ → Read
text_in left front (Err fault) = Err (if may_be_utf8 front then fault else left)
text_in left front (Ok string) = if is_utf8 string.0 then Ok (elem.Text string.0, string.1) else Err left

unfoldable pub text_at : List ℕ → Read
text_at bytes = do
  inside ← behind (codes "u'") bytes
  text_in (length bytes) (run_of (Some quote) inside).0 (closed (run_of (Some quote) inside))

unfoldable pub uuid_at : List ℕ → Read
uuid_at bytes = do
  digits ← behind (codes "uuid:") bytes
  uuid ← hexadecimal_at 16 digits
  Ok (elem.Uuid uuid.0, uuid.1)

unfoldable pub stamp_at : List ℕ → Read
stamp_at bytes = do
  digits ← behind (codes "stamp:") bytes
  stamp ← hexadecimal_at 10 digits
  number ← behind (codes ".") stamp.1
  user ← number_at 65535 number
  Ok (elem.Stamp (record { stamp = stamp.0; user = user.0 }), user.1)

-- a number without sign
unfoldable pub positive_at : List ℕ → Read
positive_at bytes = do
  number ← number_at (greatest_magnitude false) bytes
  Ok (elem.Int (pos number.0), number.1)

-- behind the minus: a digit that isn't 0 begins the magnitude; one that is too great is a fault at the minus
abbrev pub magnitude_at : Bool → List ℕ → Result (ℕ × List ℕ) ℕ → Read
magnitude_at false rest read = Err (length rest)
magnitude_at true rest (Err fault) = Err (length rest + 1)
magnitude_at true rest (Ok number) = Ok (elem.Int (neg_ℤ (pos number.0)), number.1)

abbrev pub begins_magnitude : List ℕ → Bool
begins_magnitude rest = not (nat_lt (get_or rest 0 0) 49) && nat_lt (get_or rest 0 0) 58

unfoldable pub negative_at : List ℕ → Read
negative_at bytes = do
  rest ← behind (codes "-") bytes
  magnitude_at (begins_magnitude rest) rest (number_at (greatest_magnitude true) rest)

-- a u begins a text or a UUID, told by the byte behind it
abbrev pub is_uuid : List ℕ → Bool
is_uuid [] = false
is_uuid (byte ∷ rest) = byte == 117

-- an element that is no tuple, told by its first byte
unfoldable pub scalar_at : List ℕ → Read
scalar_at [] = Err 0
scalar_at (byte ∷ rest) =
    if byte == 98 then bytes_at (byte ∷ rest)
    else if byte == 117 then (if is_uuid rest then uuid_at (byte ∷ rest) else text_at (byte ∷ rest))
    else if byte == 110 then word_at (codes "null") elem.Null (byte ∷ rest)
    else if byte == 116 then word_at (codes "true") (elem.Bool true) (byte ∷ rest)
    else if byte == 102 then word_at (codes "false") (elem.Bool false) (byte ∷ rest)
    else if byte == 115 then stamp_at (byte ∷ rest)
    else if byte == 45 then negative_at (byte ∷ rest)
    else positive_at (byte ∷ rest)

-- ---- elements

abbrev pub PartRead : Type 0
PartRead = Result (Part × List ℕ) ℕ

abbrev pub held : Read → PartRead
held read = do
  first ← read
  Ok (part.Holds first.0, first.1)

-- an element, or the parenthesis that opens one; so many are open
unfoldable pub element_part : ℕ → List ℕ → PartRead
element_part around [] = Err 0
element_part around (byte ∷ rest) =
    if byte == opening then (if around == 100 then Err (length (byte ∷ rest)) else Ok (part.Opens, rest))
    else held (scalar_at (byte ∷ rest))

-- behind an element of an open tuple: a space and the next one, or the end
unfoldable pub next_part : Bool → ℕ → List ℕ → PartRead
next_part first around [] = Err 0
next_part first around (byte ∷ rest) =
    if byte == closing then Ok (part.Ends, rest)
    else if first then element_part around (byte ∷ rest)
    else if byte == space then element_part around rest
    else Err (length (byte ∷ rest))

abbrev pub TupleRead : Type 0
TupleRead = Result (Elements × List ℕ) ℕ

abbrev pub before_others : Elem → TupleRead → TupleRead
before_others element read = do
  others ← read
  Ok (before element others.0, others.1)

-- after a part: `inside` reads the elements of a nested tuple, and `onward` those that follow
abbrev pub going_on : (List ℕ → TupleRead) → (List ℕ → TupleRead) → Part × List ℕ → TupleRead
going_on inside onward (part.Ends, rest) = Ok (Empty, rest)
going_on inside onward (part.Opens, rest) = inside rest >>= (λ inner. before_others (elem.Nested inner.0) (onward inner.1))
going_on inside onward (part.Holds element, rest) = before_others element (onward rest)

-- the elements up to the parenthesis that closes their tuple; each part takes a byte, so the first number suffices where it
-- is greater than that of the bytes
unfoldable pub elements_at : ℕ → Bool → ℕ → List ℕ → TupleRead
elements_at zero first around bytes = Err 0
elements_at (suc most) first around bytes =
    next_part first around bytes >>= going_on (elements_at most true (suc around)) (elements_at most false around)

-- one element, up to the end
abbrev pub up_to_end : Elem × List ℕ → Result Elements ℕ
up_to_end (element, []) = Ok (before element Empty)
up_to_end (element, byte ∷ rest) = Err (length (byte ∷ rest))

abbrev pub whole_element : Part × List ℕ → Read
whole_element (part.Ends, rest) = Err 0
whole_element (part.Holds element, rest) = Ok (element, rest)
whole_element (part.Opens, rest) = do
  inner ← elements_at (suc (length rest)) true 1 rest
  Ok (elem.Nested inner.0, inner.1)

unfoldable pub operand_at : List ℕ → Result Elements ℕ
operand_at bytes = element_part 0 bytes >>= whole_element >>= up_to_end

-- ---- lines

abbrev pub pushed : Result Elements ℕ → Result Instruction ℕ
pushed read = do
  operand ← read
  Ok (record { name = push; operand = operand })

-- what stands behind PUSH and a space; else a name alone, or where the names are left
abbrev pub named : List ℕ → Result (List ℕ) ℕ → Result Instruction ℕ
named bytes (Ok rest) = pushed (operand_at rest)
named bytes (Err left) =
    if is_among bytes names then Ok (record { name = bytes; operand = Empty })
    else Err (length bytes - longest (codes "PUSH " ∷ names) bytes)

unfoldable pub instruction_at : List ℕ → Result Instruction ℕ
instruction_at bytes = named bytes (behind (codes "PUSH ") bytes)

abbrev pub prefix_limit : ℕ
prefix_limit = 1000

-- a prefix up to the end; the spelling of a byte past the limit is a fault, before any fault further on
abbrev pub prefix_in : List ℕ → Run → Result (List ℕ) ℕ
prefix_in bytes (prefix, left) =
    if nat_lt prefix_limit (length prefix) then Err (length bytes - length (printable (take prefix_limit prefix)))
    else if length left == 0 then Ok prefix
    else Err (length left)

unfoldable pub prefix_at : List ℕ → Result (List ℕ) ℕ
prefix_at bytes = do
  rest ← behind (codes "@ ") bytes
  prefix_in rest (run_of None rest)
