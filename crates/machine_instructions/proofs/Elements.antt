-- The elements of a tuple are elements.
use Rattle.std.proofs.Common.{◌≤◌, arith}
use Rattle.std.specs.List.{AllByRecursion}
use Rattle.fdb_tuple.specs.Tuples.{Scalar, Null, Bytes, Text, Int, Boolean, Uuid, Stamp, Elements, Empty, Single, Nested, depth_of}
use Rattle.fdb_tuple.specs.Listed.{IsElement, element_of, elements_of}

IsElement-element_of : (scalar : Scalar) → IsElement (element_of scalar)
IsElement-element_of Null = tt
IsElement-element_of (Bytes bytes) = tt
IsElement-element_of (Text text) = tt
IsElement-element_of (Int number) = tt
IsElement-element_of (Boolean value) = tt
IsElement-element_of (Uuid bytes) = tt
IsElement-element_of (Stamp stamp user) = tt

pub elements_are : (tuple : Elements) → depth_of tuple ≤ 100 → AllByRecursion IsElement (elements_of tuple)
elements_are Empty shallow = tt
elements_are (Single scalar rest) shallow = (IsElement-element_of scalar, elements_are rest shallow)
elements_are (Nested inner rest) shallow = (omega arith, elements_are rest (omega arith))
