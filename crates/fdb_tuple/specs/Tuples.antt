-- What a tuple is (tuple.md): its elements in order, each of them null, a byte string, a Unicode string, a nested
-- tuple, an integer of 128 bits, a boolean, a UUID or a versionstamp.
use Rattle.std.specs.Prelude.{◌≡◌, ℕ, ◌+◌, ◌-◌, ◌^◌, ◌<◌, ◌≤◌, max, Bool, true, false, List, length, ℤ, unsigned_abs, IsUtf8}
use Rattle.std.specs.Int.{is_negative}
use Rattle.key_bytes.specs.Keys.{IsByteString}

-- an element that is no tuple
pub data Scalar : Type 0 where
  Null : Scalar
  Bytes : (bytes : List ℕ) → Scalar
  -- a Unicode string, by the bytes of its UTF-8
  Text : (text : List ℕ) → Scalar
  Int : (number : ℤ) → Scalar
  Boolean : (value : Bool) → Scalar
  Uuid : (bytes : List ℕ) → Scalar
  -- the 10 bytes of a versionstamp, and its user order
  Stamp : (stamp : List ℕ) (user : ℕ) → Scalar

-- the elements of a tuple in order: none; or a first one, which is a scalar or a nested tuple, and the rest
pub data Elements : Type 0 where
  Empty : Elements
  Single : (scalar : Scalar) (rest : Elements) → Elements
  Nested : (inner : Elements) (rest : Elements) → Elements

-- 0 where no element is a tuple, else 1 more than the greatest depth of one
abbrev pub depth_of : Elements → ℕ
depth_of Empty = 0
depth_of (Single scalar rest) = depth_of rest
depth_of (Nested inner rest) = max (depth_of inner + 1) (depth_of rest)

-- how many elements there are, those of nested tuples included
abbrev pub weight : Elements → ℕ
weight Empty = 0
weight (Single scalar rest) = weight rest + 1
weight (Nested inner rest) = weight inner + weight rest + 1

-- the greatest magnitude of an integer of this sign in 128 bits
abbrev pub greatest_magnitude : Bool → ℕ
greatest_magnitude false = 2 ^ 127 - 1
greatest_magnitude true = 2 ^ 127

-- bytes are bytes, a text is UTF-8, an integer has 128 bits, a UUID 16 bytes, a versionstamp 10 bytes and a user order of 16 bits
abbrev pub IsScalar : Scalar → Type 0
IsScalar Null = Unit {0}
IsScalar (Bytes bytes) = IsByteString bytes
IsScalar (Text text) = IsUtf8 text
IsScalar (Int number) = unsigned_abs number ≤ greatest_magnitude (is_negative number)
IsScalar (Boolean value) = Unit {0}
IsScalar (Uuid bytes) = IsByteString bytes × (length bytes ≡ 16)
IsScalar (Stamp stamp user) = IsByteString stamp × (length stamp ≡ 10) × (user < 2 ^ 16)

abbrev pub AreElements : Elements → Type 0
AreElements Empty = Unit {0}
AreElements (Single scalar rest) = IsScalar scalar × AreElements rest
AreElements (Nested inner rest) = AreElements inner × AreElements rest

-- a tuple: its elements are elements, and it has a depth of at most 100
abbrev pub IsTuple : Elements → Type 0
IsTuple tuple = AreElements tuple × (depth_of tuple ≤ 100)
