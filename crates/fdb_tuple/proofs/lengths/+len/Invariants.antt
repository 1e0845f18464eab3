use Rattle.std.proofs.Common.{◌≡◌, ◌+◌, ◌-◌, ◌*◌, ◌^◌, min, length, take}
use Rattle.fdb_tuple.specs.Tuples.{Empty, weight}
use Rattle.fdb_tuple.specs.Listed.{before, tuple_of}
use Rattle.fdb_tuple.specs.Spelling.{spelled_in}
use Rattle.fdb_tuple.proofs.lengths.+len.Given as goal

-- the elements so far are counted
abbrev pub invariant-tuple_len-loop-element : goal.invariant-tuple_len-loop-element
invariant-tuple_len-loop-element l = l.len ≡ min (length (spelled_in l.nested (tuple_of (take l.element-index l.element-items)))) (2 ^ 64 - 1)

abbrev pub decreases-tuple_len : goal.decreases-tuple_len
decreases-tuple_len l = 2 * weight l.tuple.now + 1

abbrev pub decreases-element_len : goal.decreases-element_len
decreases-element_len l = 2 * weight (before l.element.now Empty)
