-- A nested tuple weighs less than the tuple that it is in.
use Rattle.std.specs.Prelude.{◌≤◌, List, [], ◌∷◌}
use Rattle.std.proofs.Common.{arith}
use denote.Param.Weighed.{most}
use Rattle.fdb_tuple.specs.declared.tuple.Elem.{Elem}
use Rattle.fdb_tuple.specs.declared.tuple.Elem.TheVariants as elem
use Rattle.fdb_tuple.specs.declared.tuple.Tuple.TheDeep.{deep-Elem}
use Rattle.fdb_tuple.specs.Tuples.{Elements, weight}
use Rattle.fdb_tuple.specs.Listed.{before, tuple_of}

first_below : (element : Elem) (rest : Elements) → deep-Elem element ≤ weight (before element rest)
first_below elem.Null rest = omega arith
first_below (elem.Bytes bytes) rest = omega arith
first_below (elem.Text text) rest = omega arith
first_below (elem.Nested tuple) rest = omega arith
first_below (elem.Int number) rest = omega arith
first_below (elem.Bool value) rest = omega arith
first_below (elem.Uuid bytes) rest = omega arith
first_below (elem.Stamp stamp) rest = omega arith

rest_below : (element : Elem) (rest : Elements) → weight rest ≤ weight (before element rest)
rest_below elem.Null rest = omega arith
rest_below (elem.Bytes bytes) rest = omega arith
rest_below (elem.Text text) rest = omega arith
rest_below (elem.Nested tuple) rest = omega arith
rest_below (elem.Int number) rest = omega arith
rest_below (elem.Bool value) rest = omega arith
rest_below (elem.Uuid bytes) rest = omega arith
rest_below (elem.Stamp stamp) rest = omega arith

pub most_below : (items : List Elem) → most deep-Elem items ≤ weight (tuple_of items)
most_below [] = omega arith
most_below (element ∷ rest) = omega (arith, most_below rest, first_below element (tuple_of rest), rest_below element (tuple_of rest))
