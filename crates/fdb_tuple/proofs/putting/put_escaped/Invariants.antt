use Rattle.std.proofs.Common.{◌≡◌, ◌++◌, length, take}
use Rattle.fdb_tuple.specs.Spelling.{escaped}
use Rattle.fdb_tuple.proofs.putting.put_escaped.Given as goal

-- what is written and what is left to write make the whole, and the bytes begin with those that were there
abbrev pub invariant-loop-run : goal.invariant-loop-run
invariant-loop-run l = record {
  whole : l.out.items ++ escaped l.rest ≡ l.initial.out.items ++ escaped l.bytes;
  front : take (length l.initial.out.items) l.out.items ≡ l.initial.out.items;
}

abbrev pub decreases-loop-run : goal.decreases-loop-run
decreases-loop-run l = length l.rest
