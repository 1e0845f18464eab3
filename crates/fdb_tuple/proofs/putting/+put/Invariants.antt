use Rattle.std.proofs.Common.{◌≡◌, ◌+◌, ◌*◌, ◌++◌, take}
use Rattle.fdb_tuple.specs.Tuples.{Empty, weight}
use Rattle.fdb_tuple.specs.Listed.{before, tuple_of}
use Rattle.fdb_tuple.specs.Spelling.{spelled_in}
use Rattle.fdb_tuple.proofs.putting.+put.Given as goal

-- the elements so far are spelled
abbrev pub invariant-put_tuple-loop-element : goal.invariant-put_tuple-loop-element
invariant-put_tuple-loop-element l = l.out.items ≡ l.initial.out.items ++ spelled_in l.nested (tuple_of (take l.element-index l.element-items))

abbrev pub decreases-put_nested : goal.decreases-put_nested
decreases-put_nested l = 3 * weight l.tuple.now + 2

abbrev pub decreases-put_tuple : goal.decreases-put_tuple
decreases-put_tuple l = 3 * weight l.tuple.now + 1

abbrev pub decreases-put_element : goal.decreases-put_element
decreases-put_element l = 3 * weight (before l.element.now Empty)
