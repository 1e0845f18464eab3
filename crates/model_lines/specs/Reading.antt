-- How an input is read: line after line, each from left to right, up to the first fault.
use Rattle.std.specs.Prelude.{ℕ, zero, suc, ◌+◌, ◌-◌, ◌*◌, Bool, true, false, not, ◌&&◌, ◌||◌, if◌then◌else◌, cond, List, [], ◌∷◌, length, nat_lt, nat_le, ◌==◌, Result, Ok, Err}
use Rattle.key_bytes.specs.Keys.{key_lt, top}
use Rattle.model_database.specs.declared.TheConstants.{KEY_LIMIT, VALUE_LIMIT}
use Rattle.model_lines.specs.Printing.{space, line_feed, backslash, is_plain}

-- limits: of the input in bytes, of its pairs, and of a line before its line feed; those of a key and of a value are the database's
abbrev pub input_limit : ℕ
input_limit = 67108864

abbrev pub pairs_limit : ℕ
pairs_limit = 1000000

abbrev pub line_limit : ℕ
line_limit = 440004

-- ---- the printable form, piece by piece

-- what the bytes left of a line begin with: nothing is left, a byte is spelled, the separator stands, or no rule fits
pub data Piece : Type 0 where
  Nothing : Piece
  Spelled : ℕ → List ℕ → Piece
  Separator : List ℕ → Piece
  Unfit : Piece

-- the value of a lower-case hexadecimal digit, 16 for any other byte
abbrev pub digit_of : ℕ → ℕ
digit_of byte =
    if not (nat_lt byte 48) && nat_lt byte 58 then byte - 48
    else if not (nat_lt byte 97) && nat_lt byte 103 then byte - 87
    else 16

-- two digits spell a byte that has no shorter spelling
abbrev pub hexadecimal_piece : List ℕ → Piece
hexadecimal_piece [] = Unfit
hexadecimal_piece (high ∷ []) = Unfit
hexadecimal_piece (high ∷ low ∷ rest) =
    let byte = 16 * digit_of high + digit_of low in
    if nat_lt (digit_of high) 16 && nat_lt (digit_of low) 16 && not (is_plain byte) && not (byte == backslash)
    then Spelled byte rest else Unfit

-- what stands behind a backslash
abbrev pub escaped_piece : List ℕ → Piece
escaped_piece [] = Unfit
escaped_piece (byte ∷ rest) =
    if byte == backslash then Spelled backslash rest
    else if byte == 61 then Separator rest
    else if byte == 120 then hexadecimal_piece rest
    else Unfit

unfoldable pub piece_at : List ℕ → Piece
piece_at [] = Nothing
piece_at (byte ∷ rest) =
    if is_plain byte then Spelled byte rest
    else if byte == backslash then escaped_piece rest
    else Unfit

-- why reading of printable bytes stopped
pub data Stop : Type 0 where
  AtEnd : Stop
  AtSeparator : Stop
  AtFault : Stop

-- the bytes that were spelled, why reading stopped, and what is left: behind the separator, or from the byte on that fits no rule
pub record ReadText : Type 0 where
  pub bytes : List ℕ
  pub stop : Stop
  pub left : List ℕ

-- what is left behind a piece
abbrev pub behind : Piece → List ℕ
behind Nothing = []
behind (Spelled byte rest) = rest
behind (Separator rest) = rest
behind Unfit = []

-- the text that a piece begins, where the text behind the piece is known
abbrev pub read_on : List ℕ → Piece → ReadText → ReadText
read_on bytes Nothing text = record { bytes = []; stop = AtEnd; left = [] }
read_on bytes (Spelled byte rest) text = record { bytes = byte ∷ text.bytes; stop = text.stop; left = text.left }
read_on bytes (Separator rest) text = record { bytes = []; stop = AtSeparator; left = rest }
read_on bytes Unfit text = record { bytes = []; stop = AtFault; left = bytes }

-- the printable form up to the end, the separator or a fault; each piece takes a byte at least, so as many pieces as bytes are enough
unfoldable pub pieces : ℕ → List ℕ → ReadText
pieces zero bytes = record { bytes = []; stop = AtEnd; left = [] }
pieces (suc more) bytes = read_on bytes (piece_at bytes) (pieces more (behind (piece_at bytes)))

unfoldable pub text_of : List ℕ → ReadText
text_of bytes = pieces (length bytes + 1) bytes

-- ---- one line

-- a line without its line feed, and whether the line feed is there
pub record Line : Type 0 where
  pub bytes : List ℕ
  pub is_whole : Bool

-- what is wrong in a line: the byte at a place fits no rule, or the key or the value is too long
pub data Flaw : Type 0 where
  Bad : ℕ → Flaw
  Long : Flaw

abbrev pub Entry : Type 0
Entry = List ℕ × List ℕ

-- the pair of a line whose key and value were read without a fault, where both are within their limits
abbrev pub pair_within : List ℕ → List ℕ → Result Entry Flaw
pair_within key value =
    if nat_lt KEY_LIMIT (length key) || nat_lt VALUE_LIMIT (length value) then Err Long else Ok (key, value)

-- where what is left of a line begins
abbrev pub place_of : Line → List ℕ → ℕ
place_of line left = length line.bytes - length left

-- the value goes up to the line feed; a second separator fits no rule
abbrev pub value_at : Line → List ℕ → Stop → ReadText → Result Entry Flaw
value_at line key AtEnd value = if line.is_whole then pair_within key value.bytes else Err (Bad (length line.bytes))
value_at line key AtSeparator value = Err (Bad (place_of line value.left - 2))
value_at line key AtFault value = Err (Bad (place_of line value.left))

-- the key goes up to the separator
abbrev pub key_at : Line → Stop → ReadText → Result Entry Flaw
key_at line AtEnd key = Err (Bad (length line.bytes))
key_at line AtSeparator key = value_at line key.bytes (text_of key.left).stop (text_of key.left)
key_at line AtFault key = Err (Bad (place_of line key.left))

-- a key that isn't less than FF is a fault at its first byte, before any fault further on
abbrev pub fields_at : Line → ReadText → Result Entry Flaw
fields_at line key = if key_lt key.bytes top then key_at line key.stop key else Err (Bad 2)

-- a line of a pair: K, a space, and the fields
unfoldable pub pair_at : Line → List ℕ → Result Entry Flaw
pair_at line [] = Err (Bad 0)
pair_at line (kind ∷ []) = Err (Bad (if kind == 75 then 1 else 0))
pair_at line (kind ∷ gap ∷ fields) =
    if not (kind == 75) then Err (Bad 0)
    else if not (gap == space) then Err (Bad 1)
    else fields_at line (text_of fields)

-- ---- the lines of an input

-- one more byte at the front of the first line
abbrev pub with_first : ℕ → List Line → List Line
with_first byte [] = record { bytes = byte ∷ []; is_whole = false } ∷ []
with_first byte (line ∷ lines) = record line { bytes = byte ∷ line.bytes } ∷ lines

-- the lines of an input; the last one may lack its line feed
unfoldable pub lines_of : List ℕ → List Line
lines_of [] = []
lines_of (byte ∷ bytes) =
    if byte == line_feed then record { bytes = []; is_whole = true } ∷ lines_of bytes
    else with_first byte (lines_of bytes)

-- how many bytes a line takes, its line feed included
abbrev pub size_of : Line → ℕ
size_of line = length line.bytes + cond line.is_whole 1 0

-- whether a line is of a pair, judged by its first byte
abbrev pub is_pair : List ℕ → Bool
is_pair [] = false
is_pair (kind ∷ rest) = kind == 75

-- The first fault of an input, with the number of its line, counted from 1.
pub data Fault : Type 0 where
  BadLine : ℕ → ℕ → Fault
  TooLong : ℕ → Fault
  TooMany : ℕ → Fault

abbrev pub fault_of : ℕ → Flaw → Fault
fault_of number (Bad place) = BadLine number place
fault_of number Long = TooLong number

-- where reading stands: the number of the next line, the bytes and the lines of pairs before it
pub record Place : Type 0 where
  pub number : ℕ
  pub bytes : ℕ
  pub pairs : ℕ

abbrev pub start : Place
start = record { number = 1; bytes = 0; pairs = 0 }

abbrev pub next_place : Place → Line → Place
next_place place line = record {
  number = place.number + 1;
  bytes = place.bytes + size_of line;
  pairs = place.pairs + cond (is_pair line.bytes) 1 0;
}

-- a line passes the limit of the input where it holds a byte past it, or where it is one line of a pair more than may be
abbrev pub is_too_many : Place → Line → Bool
is_too_many place line =
    nat_lt input_limit (place.bytes + size_of line) || (is_pair line.bytes && nat_le pairs_limit place.pairs)

-- a line read without its limits
abbrev pub judged : ℕ → Result Entry Flaw → Result Entry Fault
judged number (Ok entry) = Ok entry
judged number (Err flaw) = Err (fault_of number flaw)

-- one line: too many, too long, a byte that fits no rule, a key or a value that is too long, in this order
unfoldable pub read_line : Place → Line → Result Entry Fault
read_line place line =
    if is_too_many place line then Err (TooMany place.number)
    else if nat_lt line_limit (length line.bytes) then Err (TooLong place.number)
    else judged place.number (pair_at line line.bytes)

abbrev pub joined : Result Entry Fault → Result (List Entry) Fault → Result (List Entry) Fault
joined (Err fault) rest = Err fault
joined (Ok entry) (Err fault) = Err fault
joined (Ok entry) (Ok entries) = Ok (entry ∷ entries)

-- lines from a place on: the first fault decides
unfoldable pub read_lines : Place → List Line → Result (List Entry) Fault
read_lines place [] = Ok []
read_lines place (line ∷ lines) = joined (read_line place line) (read_lines (next_place place line) lines)
