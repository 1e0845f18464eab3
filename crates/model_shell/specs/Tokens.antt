-- The words of a line, and the bytes that a token spells.
use Rattle.std.specs.Prelude.{ℕ, zero, suc, ◌&&◌, ◌==◌, if◌then◌else◌, nat_le, List, [], ◌∷◌, length, Option, Some, None, option_map, Result, Ok, Err, codes}
use Rattle.std.specs.Str.{bytes_eq}
use Rattle.std.specs.List.{slice_split}
use Rattle.model_lines.specs.Printing.{space, printable_but}
use Rattle.dump_reading.specs.Spellings.{Front, byte_at}
use Rattle.dump_reading.specs.Fields.{number_at}

-- the words of a line, between its spaces: two spaces have an empty word between them
abbrev pub words_of : (line : List ℕ) → List (List ℕ)
words_of line = slice_split (λ byte. byte == space) line

-- ---- tokens

-- the token of no byte: \e
abbrev pub empty_token : List ℕ
empty_token = codes "\\e"

-- the token of bytes: their printable form, in which a space is spelled by its digits too
unfoldable pub token : List ℕ → List ℕ
token [] = empty_token
token (byte ∷ bytes) = printable_but (Some space) (byte ∷ bytes)

-- a byte that is spelled at the front, before what `more` makes of the rest
abbrev pub with_byte : Option Front → (more : List ℕ → Option (List ℕ)) → Option (List ℕ)
with_byte None more = None
with_byte (Some front) more = option_map (λ bytes. front.0 ∷ bytes) (more front.1)

-- the bytes that are spelled up to the end of a word; each spelling takes a byte at least, so as many as there are bytes are enough
unfoldable pub spelled_up_to : ℕ → List ℕ → Option (List ℕ)
spelled_up_to more [] = Some []
spelled_up_to zero (byte ∷ rest) = None
spelled_up_to (suc more) (byte ∷ rest) = with_byte (byte_at (Some space) (byte ∷ rest)) (spelled_up_to more)

-- the bytes that a word spells as a token, if it is one; an empty word is none
unfoldable pub bytes_in : (word : List ℕ) → Option (List ℕ)
bytes_in word =
    if length word == 0 then None
    else if bytes_eq word empty_token then Some []
    else spelled_up_to (length word) word

-- ---- numbers

abbrev pub bounded : (least : ℕ) → Result (ℕ × List ℕ) ℕ → Option ℕ
bounded least (Err left) = None
bounded least (Ok read) = if length read.1 == 0 && nat_le least read.0 then Some read.0 else None

-- the number that a word spells, in decimal digits without a leading zero, if it lies within these bounds
unfoldable pub number_in : (least most : ℕ) → (word : List ℕ) → Option ℕ
number_in least most word = bounded least (number_at most word)
