-- One more element behind those of a tuple.
use Rattle.std.proofs.Common.{◌≡◌, max, List, [], ◌∷◌, ◌++◌, arith}
use Rattle.fdb_tuple.specs.declared.tuple.Elem.{Elem}
use Rattle.fdb_tuple.specs.declared.tuple.Elem.TheVariants as elem
use Rattle.fdb_tuple.specs.Tuples.{Elements, Empty, depth_of, AreElements}
use Rattle.fdb_tuple.specs.Listed.{before, tuple_of}

depth_of-before : (element : Elem) (rest : Elements)
    → depth_of (before element rest) ≡ max (depth_of (before element Empty)) (depth_of rest)
depth_of-before elem.Null rest = omega arith
depth_of-before (elem.Bytes bytes) rest = omega arith
depth_of-before (elem.Text text) rest = omega arith
depth_of-before (elem.Nested tuple) rest = omega arith
depth_of-before (elem.Int number) rest = omega arith
depth_of-before (elem.Bool value) rest = omega arith
depth_of-before (elem.Uuid bytes) rest = omega arith
depth_of-before (elem.Stamp stamp) rest = omega arith

pub depth_of-push : (elements : List Elem) (element : Elem)
    → depth_of (tuple_of (elements ++ element ∷ [])) ≡ max (depth_of (tuple_of elements)) (depth_of (before element Empty))
depth_of-push [] element = omega arith
depth_of-push (first ∷ elements) element =
    omega (arith, depth_of-before first (tuple_of elements), depth_of-before first (tuple_of (elements ++ element ∷ [])), depth_of-push elements element)

AreElements-before : (element : Elem) (rest others : Elements) → AreElements (before element others) → AreElements rest
    → AreElements (before element rest)
AreElements-before elem.Null rest others h k = (tt, k)
AreElements-before (elem.Bytes bytes) rest others h k = (h.0, k)
AreElements-before (elem.Text text) rest others h k = (h.0, k)
AreElements-before (elem.Nested tuple) rest others h k = (h.0, k)
AreElements-before (elem.Int number) rest others h k = (h.0, k)
AreElements-before (elem.Bool value) rest others h k = (tt, k)
AreElements-before (elem.Uuid bytes) rest others h k = (h.0, k)
AreElements-before (elem.Stamp stamp) rest others h k = (h.0, k)

AreElements-rest : (element : Elem) (rest : Elements) → AreElements (before element rest) → AreElements rest
AreElements-rest elem.Null rest h = h.1
AreElements-rest (elem.Bytes bytes) rest h = h.1
AreElements-rest (elem.Text text) rest h = h.1
AreElements-rest (elem.Nested tuple) rest h = h.1
AreElements-rest (elem.Int number) rest h = h.1
AreElements-rest (elem.Bool value) rest h = h.1
AreElements-rest (elem.Uuid bytes) rest h = h.1
AreElements-rest (elem.Stamp stamp) rest h = h.1

pub AreElements-push : (elements : List Elem) (element : Elem) → AreElements (tuple_of elements) → AreElements (before element Empty)
    → AreElements (tuple_of (elements ++ element ∷ []))
AreElements-push [] element h k = k
AreElements-push (first ∷ elements) element h k =
    AreElements-before first (tuple_of (elements ++ element ∷ [])) (tuple_of elements) h (AreElements-push elements element (AreElements-rest first (tuple_of elements) h) k)
