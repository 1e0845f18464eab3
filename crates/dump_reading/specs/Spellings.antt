-- The byte that is spelled at the front of a printable form.
use Rattle.std.specs.Prelude.{ℕ, ◌+◌, ◌*◌, Bool, not, ◌&&◌, ◌||◌, if◌then◌else◌, List, [], ◌∷◌, Option, Some, None, nat_lt, ◌==◌}
use Rattle.model_lines.specs.Printing.{is_plain, backslash}
use Rattle.model_lines.specs.Reading.{digit_of}

-- whether a byte is spelled by its digits: one that is given, and each that has no shorter spelling
abbrev pub is_by_digits : Option ℕ → ℕ → Bool
is_by_digits None byte = not (is_plain byte) && not (byte == backslash)
is_by_digits (Some escaped) byte = byte == escaped || not (is_plain byte) && not (byte == backslash)

-- a byte, and what stands behind its spelling
abbrev pub Front : Type 0
Front = ℕ × List ℕ

abbrev pub spelled : ℕ → List ℕ → Option Front
spelled byte rest = Some (byte, rest)

-- two digits spell a byte where it has no other spelling
abbrev pub digits_at : Option ℕ → List ℕ → Option Front
digits_at escaped [] = None
digits_at escaped (high ∷ []) = None
digits_at escaped (high ∷ low ∷ rest) =
    let byte = 16 * digit_of high + digit_of low in
    if nat_lt (digit_of high) 16 && nat_lt (digit_of low) 16 && is_by_digits escaped byte then spelled byte rest else None

-- what stands behind a backslash
abbrev pub escape_at : Option ℕ → List ℕ → Option Front
escape_at escaped [] = None
escape_at escaped (byte ∷ rest) =
    if byte == backslash && not (is_by_digits escaped backslash) then spelled backslash rest
    else if byte == 120 then digits_at escaped rest
    else None

unfoldable pub byte_at : Option ℕ → List ℕ → Option Front
byte_at escaped [] = None
byte_at escaped (byte ∷ rest) =
    if byte == backslash then escape_at escaped rest
    else if is_plain byte && not (is_by_digits escaped byte) then spelled byte rest
    else None
