use Rattle.std.proofs.Common.{length}
use Rattle.fdb_tuple.proofs.ElementRuns.{IsReading}
use Rattle.fdb_tuple.proofs.unpacking.+elements_of.Given as goal

abbrev pub decreases-elements_of : goal.decreases-elements_of
decreases-elements_of l = length l.bytes.now

abbrev pub invariant-loop-tuple : goal.invariant-loop-tuple
invariant-loop-tuple l = IsReading l.whole l.around l.bytes l.tuple l.rest

abbrev pub decreases-loop-tuple : goal.decreases-loop-tuple
decreases-loop-tuple l = length l.rest
