-- How bytes, numbers and lines are printed.
use Rattle.std.specs.Prelude.{ℕ, ◌+◌, ◌/◌, ◌%◌, Bool, not, ◌&&◌, if◌then◌else◌, List, [], ◌∷◌, ◌++◌, Option, Some, None, nat_lt, ◌==◌, codes, decimal, flat_map}
use Rattle.std.specs.List.{join_with_byte}

abbrev pub space : ℕ
space = 32

abbrev pub line_feed : ℕ
line_feed = 10

abbrev pub backslash : ℕ
backslash = 92

-- what stands between the key and the value of a pair: \=
abbrev pub separator : List ℕ
separator = backslash ∷ 61 ∷ []

-- the bytes from 20 to 7E stand for themselves, but for the backslash
abbrev pub is_plain : ℕ → Bool
is_plain byte = not (nat_lt byte 32) && nat_lt byte 127 && not (byte == backslash)

abbrev pub hexadecimal_digit : ℕ → ℕ
hexadecimal_digit n = if nat_lt n 10 then 48 + n else 87 + n

-- a backslash, x and two digits
abbrev pub in_digits : ℕ → List ℕ
in_digits byte = backslash ∷ 120 ∷ hexadecimal_digit (byte / 16) ∷ hexadecimal_digit (byte % 16) ∷ []

-- the one spelling of a byte
abbrev pub printed : ℕ → List ℕ
printed byte =
    if is_plain byte then byte ∷ []
    else if byte == backslash then backslash ∷ backslash ∷ []
    else in_digits byte

-- the printable form of bytes
unfoldable pub printable : List ℕ → List ℕ
printable bytes = flat_map printed bytes

-- the spelling of a byte where one byte more, if one is given, is spelled by its digits
abbrev pub printed_but : Option ℕ → ℕ → List ℕ
printed_but None byte = printed byte
printed_but (Some escaped) byte = if byte == escaped then in_digits byte else printed byte

unfoldable pub printable_but : Option ℕ → List ℕ → List ℕ
printable_but escaped bytes = flat_map (printed_but escaped) bytes

-- a line: its fields with single spaces between them, and one line feed
abbrev pub line : List (List ℕ) → List ℕ
line fields = join_with_byte space fields ++ line_feed ∷ []

-- how a machine ended: its number, the word of its end, a number of instructions or the number of one, and its prefix
unfoldable pub machine_line : ℕ → List ℕ → ℕ → List ℕ → List ℕ
machine_line machine end number prefix =
    line (codes "M" ∷ decimal machine ∷ end ∷ decimal number ∷ printable prefix ∷ [])

-- an item of a stack: its place, the oldest at 0, the instruction that pushed it, and its packed tuple
unfoldable pub item_line : ℕ → ℕ → ℕ → List ℕ → List ℕ
item_line machine place instruction packed =
    line (codes "S" ∷ decimal machine ∷ decimal place ∷ decimal instruction ∷ printable packed ∷ [])

-- an error that a machine noted: the instruction that was run, and the digits of the code or the fault's name
unfoldable pub error_line : ℕ → ℕ → List ℕ → List ℕ
error_line machine instruction word = line (codes "E" ∷ decimal machine ∷ decimal instruction ∷ word ∷ [])

-- a place of the order: the machine whose request was taken
unfoldable pub order_line : ℕ → List ℕ
order_line machine = line (codes "O" ∷ decimal machine ∷ [])

-- a pair of the database
unfoldable pub pair_line : List ℕ → List ℕ → List ℕ
pair_line key value = line (codes "K" ∷ (printable key ++ separator ++ printable value) ∷ [])
