use Rattle.std.proofs.Common.{arith}
use Rattle.fdb_tuple.proofs.SpelledLengths.{length-string_spelled}
use Rattle.fdb_tuple.proofs.lengths.string_len.Goals as goal

pub returns : goal.returns
returns c = omega (arith, length-string_spelled c.args.bytes.now)
