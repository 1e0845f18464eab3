-- Keys: byte strings, ordered byte by byte, a prefix before what it begins.
use Rattle.std.specs.Prelude.{ℕ, ◌<◌, Bool, not, ◌&&◌, if◌then◌else◌, List, [], ◌∷◌, ◌++◌, nat_eq}
use Rattle.std.specs.List.{All, starts_with}
use Rattle.std.specs.Ordering.{is_lt, nat_cmp}
use Rattle.std.specs.Cmp.Lexicographic.{slice_cmp}
use Rattle.std.specs.declared.cmp.Ordering.{Ordering}

-- a byte is a number from 0 to 255
abbrev pub IsByteString : List ℕ → Type 0
IsByteString bytes = All (λ b. b < 256) bytes

-- the order of keys
abbrev pub key_cmp : List ℕ → List ℕ → Ordering
key_cmp = slice_cmp nat_cmp

abbrev pub key_lt : List ℕ → List ℕ → Bool
key_lt a b = is_lt (key_cmp a b)

abbrev pub key_le : List ℕ → List ℕ → Bool
key_le a b = not (key_lt b a)

-- the least key above k: k followed by 00
abbrev pub after : List ℕ → List ℕ
after k = k ++ 0 ∷ []

-- FF, above every key of a client
abbrev pub top : List ℕ
top = 255 ∷ []

abbrev pub begins_with : List ℕ → List ℕ → Bool
begins_with bytes prefix = starts_with nat_eq bytes prefix

-- the keys from begin up to end, end left out
abbrev pub within : List ℕ → List ℕ → List ℕ → Bool
within begin end key = key_le begin key && key_lt key end

abbrev pub lesser : List ℕ → List ℕ → List ℕ
lesser a b = if key_lt b a then b else a

abbrev pub greater : List ℕ → List ℕ → List ℕ
greater a b = if key_lt a b then b else a
