-- The fields of a line, from left to right. A field is a value with what stands behind it; a fault is told by how many bytes are left from its place on.
use Rattle.std.specs.Prelude.{ℕ, ◌+◌, ◌-◌, ◌*◌, Bool, not, ◌&&◌, ◌||◌, if◌then◌else◌, List, [], ◌∷◌, length, take, drop, get_or, Option, Some, None, Result, Ok, Err, nat_lt, ◌==◌}
use Rattle.std.specs.List.{prefix_len}
use Rattle.model_lines.specs.Printing.{space}
use Rattle.model_lines.specs.Reading.{ReadText, Stop, AtEnd, AtSeparator, AtFault, text_of}
use Rattle.model_input.specs.Orders.{is_digit}
use Rattle.dump_text.specs.declared.line.EndWord.{EndWord}
use Rattle.dump_text.specs.declared.line.EndWord.TheVariants as ends
use Rattle.dump_text.specs.Ends.{word_of}

infixl 10 ◌>>=◌
abbrev pub ◌>>=◌ : {A B : Type 0} → Result A ℕ → (A → Result B ℕ) → Result B ℕ
(Ok x) >>= f = f x
(Err left) >>= f = Err left

-- what stands behind a word
unfoldable pub behind : List ℕ → List ℕ → Result (List ℕ) ℕ
behind [] bytes = Ok bytes
behind (byte ∷ word) [] = Err 0
behind (byte ∷ word) (next ∷ rest) = if next == byte then behind word rest else Err (length (next ∷ rest))

-- ---- numbers

-- the number that digits write behind a number
unfoldable pub value_after : ℕ → List ℕ → ℕ
value_after number [] = number
value_after number (digit ∷ digits) = value_after (number * 10 + (digit - 48)) digits

-- a number in decimal digits, without a leading zero; one that is too great is a fault at its first byte
unfoldable pub number_at : ℕ → List ℕ → Result (ℕ × List ℕ) ℕ
number_at most bytes =
    let len = prefix_len is_digit bytes in
    let value = value_after 0 (take len bytes) in
    if len == 0 then Err (length bytes)
    else if get_or bytes 0 0 == 48 && not (len == 1) then Err (length bytes - 1)
    else if nat_lt most value then Err (length bytes)
    else Ok (value, drop len bytes)

-- a space and a number
unfoldable pub number_field : ℕ → List ℕ → Result (ℕ × List ℕ) ℕ
number_field most bytes = do
  rest ← behind (space ∷ []) bytes
  number_at most rest

-- ---- words and texts

-- the end whose word begins with this byte
abbrev pub end_of : ℕ → Option EndWord
end_of byte =
    if byte == 101 then Some ends.Ended
    else if byte == 98 then Some ends.BadInstruction
    else if byte == 117 then Some ends.Underflow
    else if byte == 119 then Some ends.WaitBound
    else if byte == 109 then Some ends.MachineLimit
    else None

abbrev pub end_in : Option EndWord → List ℕ → Result (EndWord × List ℕ) ℕ
end_in None bytes = Err (length bytes)
end_in (Some end) bytes = do
  rest ← behind (word_of end) bytes
  Ok (end, rest)

unfoldable pub end_at : List ℕ → Result (EndWord × List ℕ) ℕ
end_at [] = Err 0
end_at (byte ∷ rest) = end_in (end_of byte) (byte ∷ rest)

-- a space and the word of an end
unfoldable pub end_field : List ℕ → Result (EndWord × List ℕ) ℕ
end_field bytes = do
  rest ← behind (space ∷ []) bytes
  end_at rest

-- a letter or a digit
abbrev pub is_word : ℕ → Bool
is_word byte =
    is_digit byte || not (nat_lt byte 65) && nat_lt byte 91 || not (nat_lt byte 97) && nat_lt byte 123

-- one or more letters and digits, up to the end
unfoldable pub word_at : List ℕ → Result (List ℕ) ℕ
word_at bytes =
    let len = prefix_len is_word bytes in
    if len == 0 || nat_lt len (length bytes) then Err (length bytes - len) else Ok bytes

-- a space and a word
unfoldable pub word_field : List ℕ → Result (List ℕ) ℕ
word_field bytes = do
  rest ← behind (space ∷ []) bytes
  word_at rest

-- the printable form of bytes, up to the end
abbrev pub text_up_to : Stop → ReadText → Result (List ℕ) ℕ
text_up_to AtEnd text = Ok text.bytes
text_up_to AtSeparator text = Err (length text.left + 2)
text_up_to AtFault text = Err (length text.left)

unfoldable pub text_at : List ℕ → Result (List ℕ) ℕ
text_at bytes = text_up_to (text_of bytes).stop (text_of bytes)

-- a space and a text
unfoldable pub text_field : List ℕ → Result (List ℕ) ℕ
text_field bytes = do
  rest ← behind (space ∷ []) bytes
  text_at rest
