use Rattle.std.proofs.Common.{arith}
use Rattle.instr_grammar.specs.Names.{alike}
use Rattle.instr_grammar.proofs.Walks.{bytes_end}
use Rattle.instr_grammar.proofs.names.alike.Goals as goal

pub returns-else-i-bytes-clause-value : goal.returns-else-i-bytes-clause-value
returns-else-i-bytes-clause-value c =
    bytes_end c.args.name.now c.args.bytes.now c.loop-i.i (alike c.args.name.now c.args.bytes.now) (omega (arith, c.loop-i-test.true))
    (omega (arith, c.if-i-bytes.false)) c.loop-i.invariant.all
