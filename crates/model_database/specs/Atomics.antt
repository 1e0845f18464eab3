-- What an atomic operation makes of a value (API reference of release 6.3, "fdb_transaction_atomic_op").
use Rattle.std.specs.Prelude.{ℕ, zero, suc, ◌+◌, ◌-◌, ◌*◌, ◌/◌, ◌%◌, ◌^◌, Bool, true, false, ◌||◌, if◌then◌else◌, List, [], ◌∷◌, ◌++◌, length, map, take, replicate, zip, nat_lt, nat_le, bit_and, bit_or, bit_xor, Option, Some, None, option_map, bytes_eq, codes}
use Rattle.key_bytes.specs.Keys.{lesser, greater}
use Rattle.key_bytes.specs.Numbers.{number_low}
use Rattle.model_database.specs.declared.TheConstants.{VALUE_LIMIT}
use Rattle.model_database.specs.declared.Api.{Api}
use Rattle.model_database.specs.declared.Api.TheVariants as api
use Rattle.model_database.specs.declared.StampForm.{StampForm}
use Rattle.model_database.specs.declared.StampForm.TheVariants as form
use Rattle.model_database.specs.declared.AtomicOp.{AtomicOp}
use Rattle.model_database.specs.declared.AtomicOp.TheVariants as atomic

-- ---- little-endian numbers

-- the lowest bytes of a number, so many of them, the lowest first
unfoldable pub little_bytes : ℕ → ℕ → List ℕ
little_bytes zero number = []
little_bytes (suc size) number = number % 256 ∷ little_bytes size (number / 256)

-- ---- an old value and an operand

-- the old value cut to as many bytes as the operand has, or filled with 00 to as many
unfoldable pub fitted : List ℕ → List ℕ → List ℕ
fitted old operand = take (length operand) old ++ replicate (length operand - length old) 0

-- the sum of the two as numbers, modulo 2 to the bits of the operand
unfoldable pub little_sum : List ℕ → List ℕ → List ℕ
little_sum kept operand = little_bytes (length operand) ((number_low kept + number_low operand) % 2 ^ (8 * length operand))

-- the greater and the lesser of the two as numbers
unfoldable pub little_max : List ℕ → List ℕ → List ℕ
little_max kept operand = if nat_lt (number_low kept) (number_low operand) then operand else kept

unfoldable pub little_min : List ℕ → List ℕ → List ℕ
little_min kept operand = if nat_lt (number_low kept) (number_low operand) then kept else operand

-- each byte of the one joined with the byte at its place in the other
unfoldable pub bytewise : (ℕ → ℕ → ℕ) → List ℕ → List ℕ → List ℕ
bytewise joined kept operand = map (λ pair. joined pair.0 pair.1) (zip kept operand)

-- the operand behind the old value, where the two have no more bytes than a value may have
unfoldable pub appended : List ℕ → List ℕ → List ℕ
appended old operand = if nat_le (length (old ++ operand)) VALUE_LIMIT then old ++ operand else old

unfoldable pub cleared_where_equal : List ℕ → List ℕ → Option (List ℕ)
cleared_where_equal old operand = if bytes_eq old operand then None else Some old

-- ---- the table

abbrev pub is_versionstamped : AtomicOp → Bool
is_versionstamped atomic.Add = false
is_versionstamped atomic.BitAnd = false
is_versionstamped atomic.BitOr = false
is_versionstamped atomic.BitXor = false
is_versionstamped atomic.AppendIfFits = false
is_versionstamped atomic.Max = false
is_versionstamped atomic.Min = false
is_versionstamped atomic.ByteMin = false
is_versionstamped atomic.ByteMax = false
is_versionstamped atomic.CompareAndClear = false
is_versionstamped atomic.SetVersionstampedKey = true
is_versionstamped atomic.SetVersionstampedValue = true
is_versionstamped atomic.OldAnd = false
is_versionstamped atomic.OldMin = false
is_versionstamped atomic.OldStampedKey = true
is_versionstamped atomic.OldStampedValue = true

-- how the stamped bytes of an operation with a versionstamp say where it goes
abbrev pub stamp_form : AtomicOp → StampForm
stamp_form atomic.OldStampedKey = form.Last2
stamp_form atomic.OldStampedValue = form.Front
stamp_form op = form.Last4

-- how many bytes the offset has at the end of stamped bytes of this form
abbrev pub offset_size : StampForm → ℕ
offset_size form.Last4 = 4
offset_size form.Last2 = 2
offset_size form.Front = 0

-- what it makes where there is no value
abbrev pub atom_of_none : AtomicOp → List ℕ → Option (List ℕ)
atom_of_none atomic.Add operand = Some operand
atom_of_none atomic.BitAnd operand = Some operand
atom_of_none atomic.BitOr operand = Some operand
atom_of_none atomic.BitXor operand = Some operand
atom_of_none atomic.AppendIfFits operand = Some operand
atom_of_none atomic.Max operand = Some operand
atom_of_none atomic.Min operand = Some operand
atom_of_none atomic.ByteMin operand = Some operand
atom_of_none atomic.ByteMax operand = Some operand
atom_of_none atomic.CompareAndClear operand = None
atom_of_none atomic.SetVersionstampedKey operand = None
atom_of_none atomic.SetVersionstampedValue operand = None
atom_of_none atomic.OldAnd operand = Some (replicate (length operand) 0)
atom_of_none atomic.OldMin operand = Some (replicate (length operand) 0)
atom_of_none atomic.OldStampedKey operand = None
atom_of_none atomic.OldStampedValue operand = None

-- what it makes of a value
abbrev pub atom_of_value : AtomicOp → List ℕ → List ℕ → Option (List ℕ)
atom_of_value atomic.Add old operand = Some (little_sum (fitted old operand) operand)
atom_of_value atomic.BitAnd old operand = Some (bytewise bit_and (fitted old operand) operand)
atom_of_value atomic.BitOr old operand = Some (bytewise bit_or (fitted old operand) operand)
atom_of_value atomic.BitXor old operand = Some (bytewise bit_xor (fitted old operand) operand)
atom_of_value atomic.AppendIfFits old operand = Some (appended old operand)
atom_of_value atomic.Max old operand = Some (little_max (fitted old operand) operand)
atom_of_value atomic.Min old operand = Some (little_min (fitted old operand) operand)
atom_of_value atomic.ByteMin old operand = Some (lesser old operand)
atom_of_value atomic.ByteMax old operand = Some (greater old operand)
atom_of_value atomic.CompareAndClear old operand = cleared_where_equal old operand
atom_of_value atomic.SetVersionstampedKey old operand = Some old
atom_of_value atomic.SetVersionstampedValue old operand = Some old
atom_of_value atomic.OldAnd old operand = Some (bytewise bit_and (fitted old operand) operand)
atom_of_value atomic.OldMin old operand = Some (little_min (fitted old operand) operand)
atom_of_value atomic.OldStampedKey old operand = Some old
atom_of_value atomic.OldStampedValue old operand = Some old

-- what an operation makes of the old value, with its operand; None is no value. Those with a versionstamp change nothing here
unfoldable pub atom : AtomicOp → Option (List ℕ) → List ℕ → Option (List ℕ)
atom op None operand = atom_of_none op operand
atom op (Some old) operand = atom_of_value op old operand

-- ---- names

-- the operation of a name under API version 630 (bindingApiTester.md, "ATOMIC_OP"); AND, OR and XOR are the older names of three
unfoldable pub named : List ℕ → Option AtomicOp
named name =
    if bytes_eq name (codes "ADD") then Some atomic.Add
    else if bytes_eq name (codes "BIT_AND") || bytes_eq name (codes "AND") then Some atomic.BitAnd
    else if bytes_eq name (codes "BIT_OR") || bytes_eq name (codes "OR") then Some atomic.BitOr
    else if bytes_eq name (codes "BIT_XOR") || bytes_eq name (codes "XOR") then Some atomic.BitXor
    else if bytes_eq name (codes "APPEND_IF_FITS") then Some atomic.AppendIfFits
    else if bytes_eq name (codes "MAX") then Some atomic.Max
    else if bytes_eq name (codes "MIN") then Some atomic.Min
    else if bytes_eq name (codes "BYTE_MIN") then Some atomic.ByteMin
    else if bytes_eq name (codes "BYTE_MAX") then Some atomic.ByteMax
    else if bytes_eq name (codes "COMPARE_AND_CLEAR") then Some atomic.CompareAndClear
    else if bytes_eq name (codes "SET_VERSIONSTAMPED_KEY") then Some atomic.SetVersionstampedKey
    else if bytes_eq name (codes "SET_VERSIONSTAMPED_VALUE") then Some atomic.SetVersionstampedValue
    else None

-- an operation as an API version has it: 500 has four in an older form
abbrev pub under : Api → AtomicOp → AtomicOp
under api.V630 op = op
under api.V500 atomic.BitAnd = atomic.OldAnd
under api.V500 atomic.Min = atomic.OldMin
under api.V500 atomic.SetVersionstampedKey = atomic.OldStampedKey
under api.V500 atomic.SetVersionstampedValue = atomic.OldStampedValue
under api.V500 op = op

-- the operation that a name means under an API version
unfoldable pub atomic_named : Api → List ℕ → Option AtomicOp
atomic_named api name = option_map (under api) (named name)
