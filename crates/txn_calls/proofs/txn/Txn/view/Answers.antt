use Rattle.std.proofs.Common.{arith}
use Rattle.txn_calls.proofs.txn.Txn.view.Goals as goal

pub invariant_of-result : goal.invariant_of-result
invariant_of-result c = record { readable = (omega (arith, c.max-version.ensures, c.oldest.ensures), omega (arith, c.max-version.ensures, c.min.ensures, c.last.ensures.value, c.last.ensures.readable, c.oldest.ensures)) }
