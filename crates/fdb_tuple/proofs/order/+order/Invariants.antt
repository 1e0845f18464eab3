-- What is decided is decided by the elements that are left; these are as many fewer in both tuples, and weigh no more than the first tuple.
use Rattle.std.proofs.Common.{◌≡◌, ◌+◌, ◌-◌, ◌*◌, ◌≤◌, length}
use Rattle.fdb_tuple.specs.Tuples.{Empty, weight}
use Rattle.fdb_tuple.specs.Listed.{before, tuple_of}
use Rattle.fdb_tuple.specs.Order.{tuple_cmp}
use Rattle.fdb_tuple.proofs.order.+order.Given as goal

abbrev pub invariant-tuple_order-loop-x : goal.invariant-tuple_order-loop-x
invariant-tuple_order-loop-x l =
    (tuple_cmp l.a l.b ≡ tuple_cmp (tuple_of l.x-iterator.a.rest.now) (tuple_of l.x-iterator.b.rest.now))
    × (length l.left + length l.x-iterator.b.rest.now ≡ length l.right + length l.x-iterator.a.rest.now)
    × (weight (tuple_of l.x-iterator.a.rest.now) ≤ weight l.a)

abbrev pub decreases-tuple_order : goal.decreases-tuple_order
decreases-tuple_order l = 3 * weight l.a.now

abbrev pub decreases-element_order : goal.decreases-element_order
decreases-element_order l = 3 * weight (before l.a.now Empty) - 1

abbrev pub decreases-value_order : goal.decreases-value_order
decreases-value_order l = 3 * weight (before l.a.now Empty) - 2
