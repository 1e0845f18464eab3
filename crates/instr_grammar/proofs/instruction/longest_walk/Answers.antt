use Rattle.std.proofs.Common.{arith}
use Rattle.instr_grammar.proofs.NameLists.{walk_ends}
use Rattle.instr_grammar.proofs.instruction.longest_walk.Goals as goal

pub returns-clause-value : goal.returns-clause-value
returns-clause-value c = walk_ends c.loop-i.i c.loop-i.longest _ c.args.bytes.now (omega (arith, c.loop-i-test.false)) c.loop-i.invariant.all
