-- The places of versionstamps of elements one after the other.
use Rattle.std.proofs.Common.{◌≡◌, ◌<◌, ◌≤◌, ℕ, ◌+◌, Bool, true, false, if◌then◌else◌, bytes_eq, Result, Err, subst, List, [], ◌∷◌, ◌++◌, length, get_or, drop, refl, sym, ap, ◌∙◌, arith, length-append}
use Rattle.std.specs.Int.{w16, to_be_bytes}
use Rattle.std.specs.List.{AllByRecursion}
use Rattle.std.proofs.lemmas.List.{drop_more}
use Rattle.fdb_tuple.specs.declared.fault.StampPackFault.{StampPackFault}
use Rattle.fdb_tuple.specs.declared.fault.StampPackFault.TheVariants as fault
use Rattle.fdb_tuple.specs.declared.tuple.Elem.{Elem}
use Rattle.fdb_tuple.specs.declared.tuple.Elem.TheVariants as elem
use Rattle.fdb_tuple.specs.Tuples.{Scalar, Null, Bytes, Text, Int, Boolean, Uuid, Stamp, Elements, Empty, Single, Nested}
use Rattle.fdb_tuple.specs.Listed.{before, tuple_of}
use Rattle.fdb_tuple.specs.Spelling.{scalar_spelled, spelled_in}
use Rattle.fdb_tuple.specs.Stamps.{incomplete, scalar_places, stamp_places, GivesPacked}
use Rattle.fdb_tuple.proofs.Spellings.{spelled_in-before}

drop_element : (elements : List Elem) (i : ℕ) (element : Elem) → i < length elements → element ≡ get_or elements i element
    → drop i elements ≡ element ∷ drop (i + 1) elements
drop_element elements i element lt is = drop_more elements i element lt ∙ ap (λ (first : Elem). first ∷ drop (i + 1) elements) (sym is)

-- the element at a place and those behind it
pub length-spelled_in_left : (nested : Bool) (elements : List Elem) (i : ℕ) (element : Elem) → i < length elements
    → element ≡ get_or elements i element
    → length (spelled_in nested (tuple_of (drop i elements))) ≡ length (spelled_in nested (before element Empty)) + length (spelled_in nested (tuple_of (drop (i + 1) elements)))
length-spelled_in_left nested elements i element lt is =
    rw (drop_element elements i element lt is, spelled_in-before nested element (tuple_of (drop (i + 1) elements)), length-append) refl

-- ---- a place lies within the spelling

abbrev AreBelow : ℕ → List ℕ → Type 0
AreBelow bound places = AllByRecursion (λ place. place < bound) places

AreBelow-weaker : (low bound : ℕ) (places : List ℕ) → low ≤ bound → AreBelow low places → AreBelow bound places
AreBelow-weaker low bound [] le below = tt
AreBelow-weaker low bound (place ∷ places) le below = (omega (arith, below.0), AreBelow-weaker low bound places le below.1)

AreBelow-append : (low bound : ℕ) (xs ys : List ℕ) → low ≤ bound → AreBelow low xs → AreBelow bound ys → AreBelow bound (xs ++ ys)
AreBelow-append low bound [] ys le below others = others
AreBelow-append low bound (x ∷ xs) ys le below others = (omega (arith, below.0), AreBelow-append low bound xs ys le below.1 others)

stamp_below : (at : ℕ) (b : Bool) (spelled : ℕ) → 1 < spelled → AreBelow (at + spelled) (if b then (at + 1) ∷ [] else [])
stamp_below at true spelled lt = (omega arith, tt)
stamp_below at false spelled lt = tt

scalar_below : (nested : Bool) (at : ℕ) (scalar : Scalar) → AreBelow (at + length (scalar_spelled nested scalar)) (scalar_places at scalar)
scalar_below nested at Null = tt
scalar_below nested at (Bytes bytes) = tt
scalar_below nested at (Text text) = tt
scalar_below nested at (Int number) = tt
scalar_below nested at (Boolean value) = tt
scalar_below nested at (Uuid bytes) = tt
scalar_below nested at (Stamp stamp user) =
    stamp_below at (bytes_eq stamp incomplete) (length (scalar_spelled nested (Stamp stamp user))) (omega (arith, length-append stamp (to_be_bytes w16 user)))

stamp_places_below : (nested : Bool) (at : ℕ) (tuple : Elements)
    → AreBelow (at + length (spelled_in nested tuple)) (stamp_places nested at tuple)
stamp_places_below nested at Empty = tt
stamp_places_below nested at (Single scalar rest) =
    let first = scalar_spelled nested scalar in
    let len = length-append first (spelled_in nested rest) in
    AreBelow-append (at + length first) (at + length (spelled_in nested (Single scalar rest))) (scalar_places at scalar) (stamp_places nested (at + length first) rest) (omega (arith, len)) (scalar_below nested at scalar)
    (AreBelow-weaker (at + length first + length (spelled_in nested rest)) (at + length (spelled_in nested (Single scalar rest))) (stamp_places nested (at + length first) rest) (omega (arith, len)) (stamp_places_below nested (at + length first) rest))
stamp_places_below nested at (Nested inner rest) =
    let first = spelled_in true inner in
    let next = at + 1 + length first + 1 in
    let len = length-append first (0 ∷ spelled_in nested rest) in
    AreBelow-append (at + 1 + length first) (at + length (spelled_in nested (Nested inner rest))) (stamp_places true (at + 1) inner) (stamp_places nested next rest) (omega (arith, len)) (stamp_places_below true (at + 1) inner)
    (AreBelow-weaker (next + length (spelled_in nested rest)) (at + length (spelled_in nested (Nested inner rest))) (stamp_places nested next rest) (omega (arith, len)) (stamp_places_below nested next rest))

pub stamp_place_below : (nested : Bool) (at : ℕ) (tuple : Elements) (place : ℕ) → stamp_places nested at tuple ≡ place ∷ []
    → place < at + length (spelled_in nested tuple)
stamp_place_below nested at tuple place is = (subst (AreBelow (at + length (spelled_in nested tuple))) is (stamp_places_below nested at tuple)).0

-- ---- what a call answers

pub gives_fault : (refused : StampPackFault) (said : Result (List ℕ) StampPackFault) → said ≡ Err refused → GivesPacked (Err refused) said
gives_fault fault.NoStamp said is = is
gives_fault fault.ManyStamps said is = is
gives_fault fault.NoMemory said is = tt
