-- A tuple as the list of its elements, as the code has them.
use Rattle.std.specs.Prelude.{◌≡◌, ◌≤◌, List, [], ◌∷◌, refl}
use Rattle.std.proofs.Common.{ap, ◌∙◌}
use Rattle.fdb_tuple.specs.declared.tuple.Elem.{Elem}
use Rattle.fdb_tuple.specs.declared.tuple.Elem.TheVariants as elem
use Rattle.fdb_tuple.specs.Tuples.{Scalar, Null, Bytes, Text, Int, Boolean, Uuid, Stamp, Elements, Empty, Single, Nested, depth_of}

-- an element before others
abbrev pub before : Elem → Elements → Elements
before elem.Null rest = Single Null rest
before (elem.Bytes bytes) rest = Single (Bytes bytes) rest
before (elem.Text text) rest = Single (Text text) rest
before (elem.Nested tuple) rest = Nested tuple rest
before (elem.Int number) rest = Single (Int number) rest
before (elem.Bool value) rest = Single (Boolean value) rest
before (elem.Uuid bytes) rest = Single (Uuid bytes) rest
before (elem.Stamp stamp) rest = Single (Stamp stamp.stamp stamp.user) rest

-- the tuple of these elements
abbrev pub tuple_of : List Elem → Elements
tuple_of [] = Empty
tuple_of (element ∷ elements) = before element (tuple_of elements)

abbrev pub element_of : Scalar → Elem
element_of Null = elem.Null
element_of (Bytes bytes) = elem.Bytes bytes
element_of (Text text) = elem.Text text
element_of (Int number) = elem.Int number
element_of (Boolean value) = elem.Bool value
element_of (Uuid bytes) = elem.Uuid bytes
element_of (Stamp stamp user) = elem.Stamp (record { stamp = stamp; user = user })

-- the elements of a tuple, in order
abbrev pub elements_of : Elements → List Elem
elements_of Empty = []
elements_of (Single scalar rest) = element_of scalar ∷ elements_of rest
elements_of (Nested inner rest) = elem.Nested inner ∷ elements_of rest

-- an element of some tuple: a nested tuple in it has a depth of at most 99
abbrev pub IsElement : Elem → Type 0
IsElement (elem.Nested tuple) = depth_of tuple ≤ 99
IsElement _ = Unit {0}

-- a nested tuple of depth 100, which no tuple holds
abbrev pub IsTooDeep : Elem → Type 0
IsTooDeep (elem.Nested tuple) = depth_of tuple ≡ 100
IsTooDeep _ = ⊥

-- ---- the two are one

elements_of-before : (element : Elem) (rest : Elements) → elements_of (before element rest) ≡ element ∷ elements_of rest
elements_of-before elem.Null rest = refl
elements_of-before (elem.Bytes bytes) rest = refl
elements_of-before (elem.Text text) rest = refl
elements_of-before (elem.Nested tuple) rest = refl
elements_of-before (elem.Int number) rest = refl
elements_of-before (elem.Bool value) rest = refl
elements_of-before (elem.Uuid bytes) rest = refl
elements_of-before (elem.Stamp stamp) rest = refl

pub elements_of-tuple_of : (elements : List Elem) → elements_of (tuple_of elements) ≡ elements
elements_of-tuple_of [] = refl
elements_of-tuple_of (element ∷ elements) = elements_of-before element (tuple_of elements)
    ∙ ap (λ (others : List Elem). element ∷ others) (elements_of-tuple_of elements)

pub before-element_of : (scalar : Scalar) (rest : Elements) → before (element_of scalar) rest ≡ Single scalar rest
before-element_of Null rest = refl
before-element_of (Bytes bytes) rest = refl
before-element_of (Text text) rest = refl
before-element_of (Int number) rest = refl
before-element_of (Boolean value) rest = refl
before-element_of (Uuid bytes) rest = refl
before-element_of (Stamp stamp user) rest = refl

pub tuple_of-elements_of : (tuple : Elements) → tuple_of (elements_of tuple) ≡ tuple
tuple_of-elements_of Empty = refl
tuple_of-elements_of (Single scalar rest) = before-element_of scalar (tuple_of (elements_of rest))
    ∙ ap (λ (others : Elements). Single scalar others) (tuple_of-elements_of rest)
tuple_of-elements_of (Nested inner rest) = ap (λ (others : Elements). Nested inner others) (tuple_of-elements_of rest)
