-- The definitions computed at outside vectors: spellings, the first faults of readings, and the place of a versionstamp.
use Rattle.std.proofs.Common.{◌≡◌, ◌-◌, ◌^◌, List, ℕ, [], ◌∷◌, ◌++◌, replicate, Ok, Err, pos, negsuc, refl}
use Rattle.std.specs.Str.{is_utf8, chars}
use lib.Utf8
use Rattle.fdb_tuple.specs.declared.fault.UnpackFault.TheVariants as unpack
use Rattle.fdb_tuple.specs.declared.fault.StampPackFault.TheVariants as stamp
use Rattle.fdb_tuple.specs.Tuples.{Elements, Empty, Single, Nested, Null, Bytes, Text, Int, Stamp}
use Rattle.fdb_tuple.specs.Spelling.{low_first, least_bytes, signed_spelled, int_spelled, spelling}
use Rattle.fdb_tuple.specs.Kinds.{kind_of}
use Rattle.key_bytes.specs.Numbers.{number_low}
use Rattle.fdb_tuple.specs.Reading.{string_at, bytes_at, text_at, short_at, sized_at, coded_at, piece_at, elements_at, read_tuple}
use Rattle.fdb_tuple.specs.Stamps.{incomplete, stamp_packed}

-- ---- spellings

-- the bytes `foo 00 bar`
foo_bar : List ℕ
foo_bar = 0x66 ∷ 0x6F ∷ 0x6F ∷ 0 ∷ 0x62 ∷ 0x61 ∷ 0x72 ∷ []

empty_is : spelling Empty ≡ []
empty_is = refl

zero_byte_is : spelling (Single (Bytes foo_bar) Empty) ≡ 0x01 ∷ 0x66 ∷ 0x6F ∷ 0x6F ∷ 0 ∷ 0xFF ∷ 0x62 ∷ 0x61 ∷ 0x72 ∷ 0 ∷ []
unfolding foo_bar
zero_byte_is = refl

nested_is : spelling (Nested (Single (Bytes foo_bar) (Single Null (Nested Empty Empty))) Empty) ≡ 0x05 ∷ 0x01 ∷ 0x66 ∷ 0x6F ∷ 0x6F ∷ 0 ∷ 0xFF ∷ 0x62 ∷ 0x61 ∷ 0x72 ∷ 0 ∷ 0 ∷ 0xFF ∷ 0x05 ∷ 0 ∷ 0 ∷ []
unfolding foo_bar
nested_is = refl

zero_is : int_spelled (pos 0) ≡ 0x14 ∷ []
unfolding least_bytes low_first signed_spelled
zero_is = refl

byte_is : int_spelled (pos 255) ≡ 0x15 ∷ 0xFF ∷ []
unfolding least_bytes low_first signed_spelled
byte_is = refl

two_bytes_are : int_spelled (pos 256) ≡ 0x16 ∷ 1 ∷ 0 ∷ []
unfolding least_bytes low_first signed_spelled
two_bytes_are = refl

minus_one_is : int_spelled (negsuc 0) ≡ 0x13 ∷ 0xFE ∷ []
unfolding least_bytes low_first signed_spelled
minus_one_is = refl

minus_255_is : int_spelled (negsuc 254) ≡ 0x13 ∷ 0 ∷ []
unfolding least_bytes low_first signed_spelled
minus_255_is = refl

minus_256_is : int_spelled (negsuc 255) ≡ 0x12 ∷ 0xFE ∷ 0xFF ∷ []
unfolding least_bytes low_first signed_spelled
minus_256_is = refl

three_bytes_are : int_spelled (negsuc 5551211) ≡ 0x11 ∷ 0xAB ∷ 0x4B ∷ 0x93 ∷ []
unfolding least_bytes low_first signed_spelled
three_bytes_are = refl

eight_bytes_are : int_spelled (pos (2 ^ 64 - 1)) ≡ 0x1C ∷ replicate 8 0xFF
unfolding least_bytes low_first signed_spelled
eight_bytes_are = refl

nine_bytes_are : int_spelled (pos (2 ^ 64)) ≡ 0x1D ∷ 9 ∷ 1 ∷ replicate 8 0
unfolding least_bytes low_first signed_spelled
nine_bytes_are = refl

nine_bytes_below : int_spelled (negsuc (2 ^ 64 - 1)) ≡ 0x0B ∷ 0xF6 ∷ 0xFE ∷ replicate 8 0xFF
unfolding least_bytes low_first signed_spelled
nine_bytes_below = refl

greatest_is : int_spelled (pos (2 ^ 127 - 1)) ≡ 0x1D ∷ 0x10 ∷ 0x7F ∷ replicate 15 0xFF
unfolding least_bytes low_first signed_spelled
greatest_is = refl

least_is : int_spelled (negsuc (2 ^ 127 - 1)) ≡ 0x0B ∷ 0xEF ∷ 0x7F ∷ replicate 15 0xFF
unfolding least_bytes low_first signed_spelled
least_is = refl

-- ---- readings

not_minimal : read_tuple (0x16 ∷ 0 ∷ 5 ∷ []) ≡ Err (unpack.NotMinimal 0)
unfolding read_tuple elements_at piece_at coded_at kind_of short_at sized_at text_at bytes_at string_at number_low is_utf8 chars
not_minimal = refl

truncated_integer : read_tuple (0x16 ∷ 0 ∷ []) ≡ Err (unpack.Truncated 2)
unfolding read_tuple elements_at piece_at coded_at kind_of short_at sized_at text_at bytes_at string_at number_low is_utf8 chars
truncated_integer = refl

truncated_string : read_tuple (0x01 ∷ 0x61 ∷ []) ≡ Err (unpack.Truncated 2)
unfolding read_tuple elements_at piece_at coded_at kind_of short_at sized_at text_at bytes_at string_at number_low is_utf8 chars
truncated_string = refl

missing_end : read_tuple (0x05 ∷ 0x01 ∷ 0x61 ∷ 0 ∷ []) ≡ Err (unpack.Truncated 4)
unfolding read_tuple elements_at piece_at coded_at kind_of short_at sized_at text_at bytes_at string_at number_low is_utf8 chars
missing_end = refl

bad_code : read_tuple (0x21 ∷ 0 ∷ []) ≡ Err (unpack.BadCode 0)
unfolding read_tuple elements_at piece_at coded_at kind_of short_at sized_at text_at bytes_at string_at number_low is_utf8 chars
bad_code = refl

bad_code_later : read_tuple (0x14 ∷ 0x32 ∷ []) ≡ Err (unpack.BadCode 1)
unfolding read_tuple elements_at piece_at coded_at kind_of short_at sized_at text_at bytes_at string_at number_low is_utf8 chars
bad_code_later = refl

bad_utf8 : read_tuple (0x02 ∷ 0xFF ∷ 0 ∷ []) ≡ Err (unpack.BadUtf8 0)
unfolding read_tuple elements_at piece_at coded_at kind_of short_at sized_at text_at bytes_at string_at number_low is_utf8 chars
bad_utf8 = refl

long_form_of_8_bytes : read_tuple (0x1D ∷ 8 ∷ replicate 8 1) ≡ Err (unpack.NotMinimal 0)
unfolding read_tuple elements_at piece_at coded_at kind_of short_at sized_at text_at bytes_at string_at number_low is_utf8 chars
long_form_of_8_bytes = refl

too_big : read_tuple (0x1D ∷ 17 ∷ 1 ∷ replicate 16 0) ≡ Err (unpack.TooBig 0)
unfolding read_tuple elements_at piece_at coded_at kind_of short_at sized_at text_at bytes_at string_at number_low is_utf8 chars
too_big = refl

read_all : read_tuple (0x02 ∷ 0x61 ∷ 0 ∷ 0x13 ∷ 0xFE ∷ 0 ∷ 0x05 ∷ 0x01 ∷ 0 ∷ 0xFF ∷ 0 ∷ 0 ∷ 0xFF ∷ 0 ∷ []) ≡ Ok (Single (Text (0x61 ∷ [])) (Single (Int (negsuc 0)) (Single Null (Nested (Single (Bytes (0 ∷ [])) (Single Null Empty)) Empty))))
unfolding read_tuple elements_at piece_at coded_at kind_of short_at sized_at text_at bytes_at string_at number_low is_utf8 chars lib.Utf8.encode
read_all = refl

-- ---- versionstamps

-- the incomplete versionstamp of user order 7, before other elements
with_stamp : Elements → Elements
with_stamp rest = Single (Stamp incomplete 7) rest

one_stamp : stamp_packed (0x61 ∷ 0x62 ∷ []) (with_stamp Empty) ≡ Ok (0x61 ∷ 0x62 ∷ 0x33 ∷ replicate 10 0xFF ++ 0 ∷ 7 ∷ 3 ∷ 0 ∷ 0 ∷ 0 ∷ [])
unfolding stamp_packed with_stamp
one_stamp = refl

no_stamp : stamp_packed (0x61 ∷ 0x62 ∷ []) Empty ≡ Err stamp.NoStamp
unfolding stamp_packed
no_stamp = refl

two_stamps : stamp_packed (0x61 ∷ 0x62 ∷ []) (with_stamp (with_stamp Empty)) ≡ Err stamp.ManyStamps
unfolding stamp_packed with_stamp
two_stamps = refl
