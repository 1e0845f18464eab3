use Rattle.std.proofs.Common.{arith}
use Rattle.fdb_tuple.specs.Spelling.{least_bytes}
use Rattle.fdb_tuple.proofs.SpelledLengths.{length-short_spelled, length-long_spelled}
use Rattle.fdb_tuple.proofs.lengths.int_len.Goals as goal

pub returns-then-size-le8 : goal.returns-then-size-le8
returns-then-size-le8 c negative = omega (arith, length-short_spelled negative (least_bytes c.args.magnitude) (omega arith))

pub returns-else-size-le8 : goal.returns-else-size-le8
returns-else-size-le8 c negative = omega (arith, length-long_spelled negative (least_bytes c.args.magnitude) (omega arith))
