-- The order of tuples, element by element (tuple.md). Where two tuples differ first, the kinds of the elements there
-- decide, and of one kind their values; a tuple stands before what it begins.
use Rattle.std.specs.Prelude.{ℕ, true, false}
use Rattle.std.specs.Ordering.{nat_cmp, int_cmp, ordering_then}
use Rattle.std.specs.declared.cmp.Ordering.{Ordering}
use Rattle.std.specs.declared.cmp.Ordering.TheVariants.{Less, Equal, Greater}
use Rattle.key_bytes.specs.Keys.{key_cmp}
use Rattle.fdb_tuple.specs.Tuples.{Scalar, Null, Bytes, Text, Int, Boolean, Uuid, Stamp, Elements, Empty, Single, Nested}

-- the order of kinds: null, byte strings, Unicode strings, nested tuples, integers, false, true, UUIDs, versionstamps
abbrev pub rank : Scalar → ℕ
rank Null = 0
rank (Bytes bytes) = 1
rank (Text text) = 2
rank (Int number) = 4
rank (Boolean false) = 5
rank (Boolean true) = 6
rank (Uuid bytes) = 7
rank (Stamp stamp user) = 8

abbrev pub nested_rank : ℕ
nested_rank = 3

-- the values of two scalars of one kind; a versionstamp before its user order
abbrev pub value_cmp : Scalar → Scalar → Ordering
value_cmp (Bytes a) (Bytes b) = key_cmp a b
value_cmp (Text a) (Text b) = key_cmp a b
value_cmp (Int a) (Int b) = int_cmp a b
value_cmp (Uuid a) (Uuid b) = key_cmp a b
value_cmp (Stamp a m) (Stamp b n) = ordering_then (key_cmp a b) (nat_cmp m n)
value_cmp _ _ = Equal

abbrev pub scalar_cmp : Scalar → Scalar → Ordering
scalar_cmp a b = ordering_then (nat_cmp (rank a) (rank b)) (value_cmp a b)

abbrev pub tuple_cmp : Elements → Elements → Ordering
tuple_cmp Empty Empty = Equal
tuple_cmp Empty (Single b ys) = Less
tuple_cmp Empty (Nested b ys) = Less
tuple_cmp (Single a xs) Empty = Greater
tuple_cmp (Single a xs) (Single b ys) = ordering_then (scalar_cmp a b) (tuple_cmp xs ys)
tuple_cmp (Single a xs) (Nested b ys) = nat_cmp (rank a) nested_rank
tuple_cmp (Nested a xs) Empty = Greater
tuple_cmp (Nested a xs) (Single b ys) = nat_cmp nested_rank (rank b)
tuple_cmp (Nested a xs) (Nested b ys) = ordering_then (tuple_cmp a b) (tuple_cmp xs ys)
