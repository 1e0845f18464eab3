-- Why a byte string is the spelling of no tuple: the first faulty element from the left, and its place. Of an element
-- its code is judged first, and with it the depth of a nested tuple; then whether all its bytes are there; then its
-- content. The elements of a nested tuple are judged before its missing end.
use Rattle.std.specs.Prelude.{◌≡◌, ◌≢◌, ◌⊎◌, ℕ, ◌+◌, ◌-◌, ◌<◌, ◌≤◌, Bool, false, true, List, [], ◌∷◌, ◌++◌, length, take, Option, Some, None, IsTrue, IsFalse}
use Rattle.std.specs.Str.{is_utf8}
use Rattle.fdb_tuple.specs.declared.fault.UnpackFault.{UnpackFault}
use Rattle.fdb_tuple.specs.declared.fault.UnpackFault.TheVariants as fault
use Rattle.fdb_tuple.specs.declared.code.Kind.{Kind}
use Rattle.fdb_tuple.specs.declared.code.Kind.TheVariants as kind
use Rattle.fdb_tuple.specs.Tuples.{Scalar, Bytes, Text, Elements, Empty, Single, Nested, AreElements, depth_of, IsTuple, greatest_magnitude}
use Rattle.fdb_tuple.specs.Spelling.{escaped, string_spelled, signed_byte, with_sign, spelled_in, spelling}
use Rattle.fdb_tuple.specs.Zeros.{IsNoEscape}
use Rattle.fdb_tuple.specs.Kinds.{kind_of}
use Rattle.fdb_tuple.specs.Reading.{number_high, leads_with_zero}

-- ---- one faulty element

-- the bytes of a string go on to the end of the input
abbrev pub HasNoEnd : List ℕ → Type 0
HasNoEnd rest = (string : List ℕ) × (rest ≡ escaped string)

-- a string comes first that is not UTF-8
pub record BeginsNoText (rest : List ℕ) : Type 0 where
  pub string : List ℕ
  pub after : List ℕ
  pub begins : rest ≡ string_spelled string ++ after
  pub ends : IsNoEscape after
  pub is_no_text : is_utf8 string ≡ false

-- fewer bytes are left than the element has
abbrev pub IsCut : ℕ → ℕ → List ℕ → UnpackFault → Type 0
IsCut whole size rest fault' = (length rest < size) × (fault' ≡ fault.Truncated whole)

-- the bytes of a magnitude are there, and the first of them is 0
abbrev pub HasLeadingZero : Bool → ℕ → List ℕ → Type 0
HasLeadingZero negative size rest = (size ≤ length rest) × IsTrue (leads_with_zero (with_sign negative (take size rest)))

-- an integer by the long form: its bytes are cut; or it is not minimal; or it is minimal and past 128 bits
abbrev pub IsFaultyLong : ℕ → ℕ → Bool → ℕ → List ℕ → UnpackFault → Type 0
IsFaultyLong whole place negative size rest fault' =
    IsCut whole size rest fault'
    ⊎ ((size ≤ length rest) × (size < 9) × (fault' ≡ fault.NotMinimal place))
    ⊎ (HasLeadingZero negative size rest × (fault' ≡ fault.NotMinimal place))
    ⊎ ((size ≤ length rest) × (9 ≤ size) × IsFalse (leads_with_zero (with_sign negative (take size rest)))
    × (greatest_magnitude negative < number_high (with_sign negative (take size rest))) × (fault' ≡ fault.TooBig place))

-- the element of this kind at the place, in so many open tuples, has this fault; after its code comes the rest of an input of this length
abbrev pub IsFaultyKind : ℕ → ℕ → ℕ → Option Kind → List ℕ → UnpackFault → Type 0
IsFaultyKind whole place around None rest fault' = fault' ≡ fault.BadCode place
IsFaultyKind whole place around (Some kind.Null) rest fault' = ⊥
IsFaultyKind whole place around (Some kind.Bytes) rest fault' = HasNoEnd rest × (fault' ≡ fault.Truncated whole)
IsFaultyKind whole place around (Some kind.Text) rest fault' = (HasNoEnd rest × (fault' ≡ fault.Truncated whole)) ⊎ (BeginsNoText rest × (fault' ≡ fault.BadUtf8 place))
IsFaultyKind whole place around (Some kind.Nested) rest fault' = (around ≡ 100) × (fault' ≡ fault.TooDeep place)
IsFaultyKind whole place around (Some (kind.ShortInt negative size)) rest fault' = IsCut whole size rest fault' ⊎ (HasLeadingZero negative size rest × (fault' ≡ fault.NotMinimal place))
IsFaultyKind whole place around (Some (kind.LongInt negative)) [] fault' = fault' ≡ fault.Truncated whole
IsFaultyKind whole place around (Some (kind.LongInt negative)) (size ∷ rest) fault' = IsFaultyLong whole place negative (signed_byte negative size) rest fault'
IsFaultyKind whole place around (Some (kind.Bool value)) rest fault' = ⊥
IsFaultyKind whole place around (Some kind.Uuid) rest fault' = IsCut whole 16 rest fault'
IsFaultyKind whole place around (Some kind.Stamp) rest fault' = IsCut whole 12 rest fault'

-- where an element or the end of an open tuple must come, these bytes have this fault: the end is missing, or an element is faulty
abbrev pub IsFaulty : ℕ → ℕ → List ℕ → UnpackFault → Type 0
IsFaulty whole around [] fault' = (0 < around) × (fault' ≡ fault.Truncated whole)
IsFaulty whole around (code ∷ rest) fault' = IsFaultyKind whole (whole - (length rest + 1)) around (kind_of code) rest fault'

-- ---- the first faulty element

-- the bytes of nested tuples that are open, by their elements so far, the outermost first
abbrev pub opened : List Elements → List ℕ
opened [] = []
opened (elements ∷ inner) = 0x05 ∷ spelled_in true elements ++ opened inner

-- the elements so far of nested tuples that are open, each no deeper than 100 allows; so many tuples are open around them
abbrev pub AreOpen : ℕ → List Elements → Type 0
AreOpen around [] = around ≤ 100
AreOpen around (elements ∷ inner) = AreElements elements × (around + 1 + depth_of elements ≤ 100) × AreOpen (around + 1) inner

-- the bytes of a string end with a 00
abbrev pub IsString : Scalar → Type 0
IsString (Bytes bytes) = Unit {0}
IsString (Text text) = Unit {0}
IsString _ = ⊥

-- the last of the elements is a string or a nested tuple, which ends with the first 00 that no FF follows
abbrev pub EndsByZero : Elements → Type 0
EndsByZero Empty = ⊥
EndsByZero (Single scalar Empty) = IsString scalar
EndsByZero (Nested inner Empty) = Unit {0}
EndsByZero (Single scalar rest) = EndsByZero rest
EndsByZero (Nested inner rest) = EndsByZero rest

-- the elements so far of the innermost open tuple; of the top where none is open
abbrev pub innermost : Elements → List Elements → Elements
innermost elements [] = elements
innermost elements (deeper ∷ inner) = innermost deeper inner

-- no tuple is spelled by these bytes, and this is the fault of the first faulty element
pub record Stops (bytes : List ℕ) (fault' : UnpackFault) : Type 0 where
  -- whole elements come first: some at the top, and some in each of the nested tuples that are open
  pub elements : Elements
  pub are_elements : IsTuple elements
  pub inner : List Elements
  pub are_open : AreOpen 0 inner
  -- and then what is faulty
  pub rest : List ℕ
  pub begins : bytes ≡ spelled_in false elements ++ opened inner ++ rest
  -- the element before it is whole: where a 00 ends it, no FF follows
  pub ends : EndsByZero (innermost elements inner) → IsNoEscape rest
  pub is_faulty : IsFaulty (length bytes) (length inner) rest fault'
  pub is_no_spelling : (tuple : Elements) → IsTuple tuple → bytes ≢ spelling tuple
