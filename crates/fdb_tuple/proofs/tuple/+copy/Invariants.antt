use Rattle.std.proofs.Common.{◌≡◌, take}
use Rattle.fdb_tuple.proofs.tuple.+copy.Given as goal

-- the elements so far are copied
abbrev pub invariant-Tuple::copy-loop-element : goal.invariant-Tuple::copy-loop-element
invariant-Tuple::copy-loop-element l = l.items.items ≡ take l.element-index l.element-items
