-- The kinds of elements as the code has them, in their order.
use Rattle.std.specs.Prelude.{ℕ}
use Rattle.fdb_tuple.specs.declared.tuple.Elem.{Elem}
use Rattle.fdb_tuple.specs.declared.tuple.Elem.TheVariants as elem
use Rattle.fdb_tuple.specs.Tuples.{Null, Bytes, Text, Int, Boolean, Uuid, Stamp}
use Rattle.fdb_tuple.specs.Order.{rank, nested_rank}

abbrev pub rank_of : Elem → ℕ
rank_of elem.Null = rank Null
rank_of (elem.Bytes bytes) = rank (Bytes bytes)
rank_of (elem.Text text) = rank (Text text)
rank_of (elem.Nested tuple) = nested_rank
rank_of (elem.Int number) = rank (Int number)
rank_of (elem.Bool value) = rank (Boolean value)
rank_of (elem.Uuid bytes) = rank (Uuid bytes)
rank_of (elem.Stamp stamp) = rank (Stamp stamp.stamp stamp.user)
