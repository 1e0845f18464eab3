-- The elements of a tuple are elements.
use Rattle.std.proofs.Common.{◌≤◌, arith}
use Rattle.fdb_tuple.specs.Tuples.{Scalar, Null, Bytes, Text, Int, Boolean, Uuid, Stamp, Elements, Empty, Single, Nested, depth_of}
use Rattle.fdb_tuple.specs.Listed.{IsElement, element_of, elements_of}
use Rattle.stack_directories.specs.Directing.{AreElements}

IsElement-element_of : (scalar : Scalar) → IsElement (element_of scalar)
IsElement-element_of Null = tt
IsElement-element_of (Bytes bytes) = tt
IsElement-element_of (Text text) = tt
IsElement-element_of (Int number) = tt
IsElement-element_of (Boolean value) = tt
IsElement-element_of (Uuid bytes) = tt
IsElement-element_of (Stamp stamp user) = tt

pub AreElements-elements_of : (tuple : Elements) → depth_of tuple ≤ 100 → AreElements (elements_of tuple)
AreElements-elements_of Empty shallow = tt
AreElements-elements_of (Single scalar rest) shallow = (IsElement-element_of scalar, AreElements-elements_of rest shallow)
AreElements-elements_of (Nested inner rest) shallow = (omega arith, AreElements-elements_of rest (omega arith))
