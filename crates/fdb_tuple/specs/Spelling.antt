-- How elements and tuples are spelled as byte strings, by the table of the tuple layer (tuple.md).
use Rattle.std.specs.Prelude.{ℕ, zero, suc, ◌+◌, ◌-◌, ◌/◌, ◌%◌, nat_le, Bool, true, false, if◌then◌else◌, List, [], ◌∷◌, ◌++◌, length, map, reverse, ℤ, unsigned_abs}
use Rattle.std.specs.Int.{w16, is_negative, to_be_bytes}
use Rattle.std.specs.List.{flat_map}
use Rattle.fdb_tuple.specs.Tuples.{Scalar, Null, Bytes, Text, Int, Boolean, Uuid, Stamp, Elements, Empty, Single, Nested}

-- ---- strings

-- a byte of a string: 00 is written 00 FF, and each other byte stands for itself
abbrev pub escaped_byte : ℕ → List ℕ
escaped_byte zero = 0 ∷ 0xFF ∷ []
escaped_byte (suc b) = suc b ∷ []

abbrev pub escaped : List ℕ → List ℕ
escaped bytes = flat_map escaped_byte bytes

-- the bytes of a string, and the 00 that ends it
abbrev pub string_spelled : List ℕ → List ℕ
string_spelled bytes = escaped bytes ++ 0 ∷ []

-- ---- integers

-- the digits of n to the base 256, the lowest first, with no 0 as the last; at most as many as the first number says
unfoldable pub low_first : ℕ → ℕ → List ℕ
low_first zero n = []
low_first (suc most) zero = []
low_first (suc most) (suc n) = suc n % 256 ∷ low_first most (suc n / 256)

-- the least bytes of a magnitude, the highest first; the magnitude of an integer of 128 bits has at most 16
unfoldable pub least_bytes : ℕ → List ℕ
least_bytes n = reverse (low_first 16 n)

-- the bytes of a magnitude as they are spelled: for a negative integer with each bit the other way round
abbrev pub signed_byte : Bool → ℕ → ℕ
signed_byte false b = b
signed_byte true b = 0xFF - b

abbrev pub with_sign : Bool → List ℕ → List ℕ
with_sign negative bytes = map (signed_byte negative) bytes

-- the code of an integer whose magnitude has this many least bytes, 0 for the integer 0; from 9 bytes on their number follows the code
abbrev pub int_code : Bool → ℕ → List ℕ
int_code false size = if nat_le size 8 then (0x14 + size) ∷ [] else 0x1D ∷ size ∷ []
int_code true size = if nat_le size 8 then (0x14 - size) ∷ [] else 0x0B ∷ (0xFF - size) ∷ []

-- the integer of this sign whose magnitude has these least bytes
unfoldable pub signed_spelled : Bool → List ℕ → List ℕ
signed_spelled negative bytes = int_code negative (length bytes) ++ with_sign negative bytes

abbrev pub int_spelled : ℤ → List ℕ
int_spelled z = signed_spelled (is_negative z) (least_bytes (unsigned_abs z))

-- ---- elements and tuples

-- null: inside a nested tuple an FF follows its 00, since a 00 alone ends the tuple there
abbrev pub null_spelled : Bool → List ℕ
null_spelled false = 0 ∷ []
null_spelled true = 0 ∷ 0xFF ∷ []

abbrev pub boolean_spelled : Bool → List ℕ
boolean_spelled false = 0x26 ∷ []
boolean_spelled true = 0x27 ∷ []

-- a scalar, at the top or inside a nested tuple
abbrev pub scalar_spelled : Bool → Scalar → List ℕ
scalar_spelled nested Null = null_spelled nested
scalar_spelled nested (Bytes bytes) = 0x01 ∷ string_spelled bytes
scalar_spelled nested (Text text) = 0x02 ∷ string_spelled text
scalar_spelled nested (Int z) = int_spelled z
scalar_spelled nested (Boolean value) = boolean_spelled value
scalar_spelled nested (Uuid bytes) = 0x30 ∷ bytes
scalar_spelled nested (Stamp stamp user) = 0x33 ∷ stamp ++ to_be_bytes w16 user

-- elements one after the other, at the top or inside a nested tuple
abbrev pub spelled_in : Bool → Elements → List ℕ
spelled_in nested Empty = []
spelled_in nested (Single scalar rest) = scalar_spelled nested scalar ++ spelled_in nested rest
spelled_in nested (Nested inner rest) = 0x05 ∷ spelled_in true inner ++ 0 ∷ spelled_in nested rest

abbrev pub spelling : Elements → List ℕ
spelling tuple = spelled_in false tuple
