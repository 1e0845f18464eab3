use Rattle.std.proofs.Common.{length}
use Rattle.instr_grammar.proofs.Elements.{IsReading}
use Rattle.instr_grammar.proofs.element.+elements_of.Given as goal

abbrev pub decreases-elements_of : goal.decreases-elements_of
decreases-elements_of l = length l.bytes.now

abbrev pub invariant-loop-tuple : goal.invariant-loop-tuple
invariant-loop-tuple l = IsReading l.around l.bytes l.tuple l.first l.rest

abbrev pub decreases-loop-tuple : goal.decreases-loop-tuple
decreases-loop-tuple l = length l.rest
