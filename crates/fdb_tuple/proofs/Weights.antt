-- An element of a tuple weighs no more than the tuple.
use Rattle.std.proofs.Common.{◌≡◌, ◌<◌, ◌≤◌, ℕ, zero, suc, ◌+◌, List, [], ◌∷◌, length, get_or, ap, arith}
use Rattle.fdb_tuple.specs.declared.tuple.Elem.{Elem}
use Rattle.fdb_tuple.specs.declared.tuple.Elem.TheVariants as elem
use Rattle.fdb_tuple.specs.Tuples.{Elements, Empty, weight}
use Rattle.fdb_tuple.specs.Listed.{before, tuple_of}

weight-before : (element : Elem) (rest : Elements) → weight (before element rest) ≡ weight (before element Empty) + weight rest
weight-before elem.Null rest = omega arith
weight-before (elem.Bytes bytes) rest = omega arith
weight-before (elem.Text text) rest = omega arith
weight-before (elem.Nested tuple) rest = omega arith
weight-before (elem.Int number) rest = omega arith
weight-before (elem.Bool value) rest = omega arith
weight-before (elem.Uuid bytes) rest = omega arith
weight-before (elem.Stamp stamp) rest = omega arith

weight-get_or : (elements : List Elem) (i : ℕ) (default : Elem) → i < length elements
    → weight (before (get_or elements i default) Empty) ≤ weight (tuple_of elements)
weight-get_or [] i default lt = absurd (omega arith)
weight-get_or (element ∷ elements) zero default lt = omega (arith, weight-before element (tuple_of elements))
weight-get_or (element ∷ elements) (suc i) default lt =
    omega (arith, weight-before element (tuple_of elements), weight-get_or elements i default (omega arith))

pub weight_within : (elements : List Elem) (i : ℕ) (element : Elem) → i < length elements → element ≡ get_or elements i element
    → weight (before element Empty) ≤ weight (tuple_of elements)
weight_within elements i element lt is = omega (arith, weight-get_or elements i element lt, ap (λ (e : Elem). weight (before e Empty)) is)
