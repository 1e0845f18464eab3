-- How a line of an order is read: O, a space, and the number of a machine, which is at most 63.
use Rattle.std.specs.Prelude.{ℕ, ◌+◌, ◌-◌, ◌*◌, Bool, false, not, ◌&&◌, ◌||◌, if◌then◌else◌, List, [], ◌∷◌, length, nat_lt, ◌==◌, Result, Ok, Err}
use Rattle.model_lines.specs.Printing.{space}
use Rattle.model_lines.specs.Reading.{Line, Flaw, Bad, Fault, TooMany, TooLong, Place, fault_of, is_too_many, line_limit}

-- the greatest number of a machine
abbrev pub last_machine : ℕ
last_machine = 63

abbrev pub is_digit : ℕ → Bool
is_digit byte = not (nat_lt byte 48) && nat_lt byte 58

-- the number goes up to the line feed
abbrev pub whole_number : Line → ℕ → Result ℕ Flaw
whole_number line number = if line.is_whole then Ok number else Err (Bad (length line.bytes))

-- a number of two digits, and what stands behind them; one that is too great, or has more digits, is a fault at its first byte,
-- before any fault further on
abbrev pub two_digits : Line → ℕ → List ℕ → Result ℕ Flaw
two_digits line number [] = if nat_lt last_machine number then Err (Bad 2) else whole_number line number
two_digits line number (byte ∷ rest) = if nat_lt last_machine number || is_digit byte then Err (Bad 2) else Err (Bad 4)

-- the number of a machine in decimal digits, without a leading zero
abbrev pub number_at : Line → List ℕ → Result ℕ Flaw
number_at line [] = Err (Bad 2)
number_at line (digit ∷ []) = if is_digit digit then whole_number line (digit - 48) else Err (Bad 2)
number_at line (digit ∷ next ∷ rest) =
    if not (is_digit digit) then Err (Bad 2)
    else if digit == 48 || not (is_digit next) then Err (Bad 3)
    else two_digits line (10 * (digit - 48) + (next - 48)) rest

-- whether a line is of the order, judged by its first byte
abbrev pub is_of_order : List ℕ → Bool
is_of_order [] = false
is_of_order (kind ∷ rest) = kind == 79

-- a line of the order: O, a space, and the number
unfoldable pub machine_at : Line → List ℕ → Result ℕ Flaw
machine_at line [] = Err (Bad 0)
machine_at line (kind ∷ []) = Err (Bad (if kind == 79 then 1 else 0))
machine_at line (kind ∷ gap ∷ digits) =
    if not (kind == 79) then Err (Bad 0)
    else if not (gap == space) then Err (Bad 1)
    else number_at line digits

-- a line of the order read without its limits
abbrev pub judged_number : ℕ → Result ℕ Flaw → Result ℕ Fault
judged_number number (Ok machine) = Ok machine
judged_number number (Err flaw) = Err (fault_of number flaw)

-- one line of the order: too many bytes, too long, a byte that fits no rule, in this order
unfoldable pub read_machine : Place → Line → Result ℕ Fault
read_machine place line =
    if is_too_many place line then Err (TooMany place.number)
    else if nat_lt line_limit (length line.bytes) then Err (TooLong place.number)
    else judged_number place.number (machine_at line line.bytes)
