-- Reading a byte string as a tuple, one piece after the other from the left. What a tuple's bytes are is said by its
-- spelling (Spelling.antt), and which fault refused bytes have by Stops.antt; this function gives both.
use Rattle.std.specs.Prelude.{◌≡◌, ℕ, zero, suc, ◌+◌, ◌-◌, ◌*◌, Bool, true, false, ◌==◌, nat_lt, if◌then◌else◌, List, [], ◌∷◌, ◌++◌, length, take, drop, reverse, ℤ, pos, neg_ℤ, Option, Some, None, Result, Ok, Err}
use Rattle.std.specs.Int.{w16, from_be_bytes}
use Rattle.std.specs.Str.{is_utf8}
use Rattle.key_bytes.specs.Numbers.{number_low}
use Rattle.fdb_tuple.specs.declared.fault.UnpackFault.{UnpackFault}
use Rattle.fdb_tuple.specs.declared.fault.UnpackFault.TheVariants as fault
use Rattle.fdb_tuple.specs.declared.tuple.Elem.{Elem}
use Rattle.fdb_tuple.specs.declared.tuple.Elem.TheVariants as elem
use Rattle.fdb_tuple.specs.declared.code.Kind.{Kind}
use Rattle.fdb_tuple.specs.declared.code.Kind.TheVariants as kind
use Rattle.fdb_tuple.specs.declared.piece.Piece.{Piece}
use Rattle.fdb_tuple.specs.declared.piece.Piece.TheVariants as piece
use Rattle.fdb_tuple.specs.Tuples.{Elements, Empty, greatest_magnitude}
use Rattle.fdb_tuple.specs.Listed.{before}
use Rattle.fdb_tuple.specs.Spelling.{signed_byte, with_sign}
use Rattle.fdb_tuple.specs.Kinds.{kind_of}

infixl 10 ◌>>=◌
abbrev pub ◌>>=◌ : {A B : Type 0} → Result A UnpackFault → (A → Result B UnpackFault) → Result B UnpackFault
(Ok x) >>= f = f x
(Err e) >>= f = Err e

-- What a function returned, seen by view, is what reading gives, unless memory ran out.
abbrev pub Fails : {Y : Type 0} → UnpackFault → Result Y UnpackFault → Type 0
Fails fault.NoMemory read = Unit {0}
Fails (fault.Truncated place) read = read ≡ Err (fault.Truncated place)
Fails (fault.BadCode place) read = read ≡ Err (fault.BadCode place)
Fails (fault.NotMinimal place) read = read ≡ Err (fault.NotMinimal place)
Fails (fault.TooBig place) read = read ≡ Err (fault.TooBig place)
Fails (fault.BadUtf8 place) read = read ≡ Err (fault.BadUtf8 place)
Fails (fault.TooDeep place) read = read ≡ Err (fault.TooDeep place)

abbrev pub Gives : {X Y : Type 0} → (X → Y) → Result X UnpackFault → Result Y UnpackFault → Type 0
Gives view (Ok x) read = read ≡ Ok (view x)
Gives view (Err e) read = Fails e read

-- In the readers below a list holds the bytes that are left, and what is read comes with the bytes after it. `whole`
-- is the length of the input, `place` that of the code, and `around` the number of nested tuples that are open around it.

-- ---- strings

-- a run of bytes, before the string that is read
abbrev pub after_run : List ℕ → Result (List ℕ × List ℕ) UnpackFault → Result (List ℕ × List ℕ) UnpackFault
after_run run read = do
  string ← read
  Ok (run ++ string.0, string.1)

-- a string up to its end, which is the first 00 that no FF follows
unfoldable pub string_at : ℕ → List ℕ → Result (List ℕ × List ℕ) UnpackFault
string_at whole [] = Err (fault.Truncated whole)
string_at whole (suc b ∷ rest) = after_run (suc b ∷ []) (string_at whole rest)
string_at whole (zero ∷ []) = Ok ([], [])
string_at whole (zero ∷ b ∷ rest) = if b == 0xFF then after_run (0 ∷ []) (string_at whole rest) else Ok ([], b ∷ rest)

unfoldable pub bytes_at : ℕ → List ℕ → Result (Elem × List ℕ) UnpackFault
bytes_at whole rest = do
  string ← string_at whole rest
  Ok (elem.Bytes string.0, string.1)

unfoldable pub text_at : ℕ → ℕ → List ℕ → Result (Elem × List ℕ) UnpackFault
text_at whole place rest = do
  string ← string_at whole rest
  if is_utf8 string.0 then Ok (elem.Text string.0, string.1) else Err (fault.BadUtf8 place)

-- ---- integers

-- the number with these digits, the highest first
abbrev pub number_high : List ℕ → ℕ
number_high bytes = number_low (reverse bytes)

-- the integer of this sign and magnitude
abbrev pub int_of : Bool → ℕ → ℤ
int_of false n = pos n
int_of true n = neg_ℤ (pos n)

abbrev pub leads_with_zero : List ℕ → Bool
leads_with_zero [] = false
leads_with_zero (b ∷ bytes) = b == 0

-- an integer of this sign, by the bytes of its magnitude, and the bytes after it
abbrev pub int_by : Bool → List ℕ → List ℕ → Elem × List ℕ
int_by negative digits after = (elem.Int (int_of negative (number_high digits)), after)

-- an integer of this sign, whose magnitude has this many bytes, 8 at most
unfoldable pub short_at : ℕ → ℕ → Bool → ℕ → List ℕ → Result (Elem × List ℕ) UnpackFault
short_at whole place negative size rest =
    if nat_lt (length rest) size then Err (fault.Truncated whole)
    else if leads_with_zero (with_sign negative (take size rest)) then Err (fault.NotMinimal place)
    else Ok (int_by negative (with_sign negative (take size rest)) (drop size rest))

-- an integer of this sign, whose magnitude has this many bytes, by the long form
unfoldable pub sized_at : ℕ → ℕ → Bool → ℕ → List ℕ → Result (Elem × List ℕ) UnpackFault
sized_at whole place negative size rest =
    if nat_lt (length rest) size then Err (fault.Truncated whole)
    else if nat_lt size 9 then Err (fault.NotMinimal place)
    else if leads_with_zero (with_sign negative (take size rest)) then Err (fault.NotMinimal place)
    else if nat_lt (greatest_magnitude negative) (number_high (with_sign negative (take size rest))) then Err (fault.TooBig place)
    else Ok (int_by negative (with_sign negative (take size rest)) (drop size rest))

abbrev pub long_at : ℕ → ℕ → Bool → List ℕ → Result (Elem × List ℕ) UnpackFault
long_at whole place negative [] = Err (fault.Truncated whole)
long_at whole place negative (size ∷ rest) = sized_at whole place negative (signed_byte negative size) rest

-- ---- elements of a fixed length

unfoldable pub uuid_at : ℕ → List ℕ → Result (Elem × List ℕ) UnpackFault
uuid_at whole rest =
    if nat_lt (length rest) 16 then Err (fault.Truncated whole)
    else Ok (elem.Uuid (take 16 rest), drop 16 rest)

unfoldable pub stamp_at : ℕ → List ℕ → Result (Elem × List ℕ) UnpackFault
stamp_at whole rest =
    if nat_lt (length rest) 12 then Err (fault.Truncated whole)
    else Ok (elem.Stamp (record { stamp = take 10 rest; user = from_be_bytes w16 (take 2 (drop 10 rest)) }), drop 12 rest)

-- ---- pieces

-- an element that was read, as a piece
abbrev pub held : Result (Elem × List ℕ) UnpackFault → Result (Piece × List ℕ) UnpackFault
held read = do
  first ← read
  Ok (piece.Holds first.0, first.1)

-- a 00: null, or the end of a nested tuple, where no FF follows
abbrev pub zero_at : ℕ → List ℕ → Piece × List ℕ
zero_at zero rest = (piece.Holds elem.Null, rest)
zero_at (suc around) [] = (piece.Ends, [])
zero_at (suc around) (b ∷ rest) = if b == 0xFF then (piece.Holds elem.Null, rest) else (piece.Ends, b ∷ rest)

unfoldable pub coded_at : ℕ → ℕ → ℕ → Option Kind → List ℕ → Result (Piece × List ℕ) UnpackFault
coded_at whole place around None rest = Err (fault.BadCode place)
coded_at whole place around (Some kind.Null) rest = Ok (zero_at around rest)
coded_at whole place around (Some kind.Bytes) rest = held (bytes_at whole rest)
coded_at whole place around (Some kind.Text) rest = held (text_at whole place rest)
coded_at whole place around (Some kind.Nested) rest = if around == 100 then Err (fault.TooDeep place) else Ok (piece.Opens, rest)
coded_at whole place around (Some (kind.ShortInt negative size)) rest = held (short_at whole place negative size rest)
coded_at whole place around (Some (kind.LongInt negative)) rest = held (long_at whole place negative rest)
coded_at whole place around (Some (kind.Bool value)) rest = Ok (piece.Holds (elem.Bool value), rest)
coded_at whole place around (Some kind.Uuid) rest = held (uuid_at whole rest)
coded_at whole place around (Some kind.Stamp) rest = held (stamp_at whole rest)

-- at the end of the input, a tuple at the top ends, and one that is open has no end
abbrev pub end_at : ℕ → ℕ → Result (Piece × List ℕ) UnpackFault
end_at whole zero = Ok (piece.Ends, [])
end_at whole (suc around) = Err (fault.Truncated whole)

unfoldable pub piece_at : ℕ → ℕ → List ℕ → Result (Piece × List ℕ) UnpackFault
piece_at whole around [] = end_at whole around
piece_at whole around (code ∷ rest) = coded_at whole (whole - suc (length rest)) around (kind_of code) rest

-- ---- tuples

abbrev pub TupleRead : Type 0
TupleRead = Result (Elements × List ℕ) UnpackFault

-- an element, before the elements that are read after it
abbrev pub before_others : Elem → TupleRead → TupleRead
before_others element read = do
  others ← read
  Ok (before element others.0, others.1)

-- after a piece: `inside` reads the elements of a nested tuple, and `onward` those that follow
abbrev pub going_on : (List ℕ → TupleRead) → (List ℕ → TupleRead) → Piece × List ℕ → TupleRead
going_on inside onward (piece.Ends, rest) = Ok (Empty, rest)
going_on inside onward (piece.Opens, rest) = inside rest >>= (λ inner. before_others (elem.Nested inner.0) (onward inner.1))
going_on inside onward (piece.Holds element, rest) = before_others element (onward rest)

-- the elements up to the end of the tuple that they are in; each piece but the last takes a byte, so the first number
-- suffices where it is greater than that of the bytes
unfoldable pub elements_at : ℕ → ℕ → ℕ → List ℕ → TupleRead
elements_at zero whole around bytes = Err fault.NoMemory
elements_at (suc most) whole around bytes = piece_at whole around bytes >>= going_on (elements_at most whole (suc around)) (elements_at most whole around)

-- the tuple that the bytes spell, or the first fault
unfoldable pub read_tuple : List ℕ → Result Elements UnpackFault
read_tuple bytes = do
  read ← elements_at (suc (length bytes)) (length bytes) 0 bytes
  Ok read.0
