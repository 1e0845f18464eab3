use Rattle.std.proofs.Common.{arith}
use Rattle.txn_parts.proofs.changing.changes_at_last.Goals as goal

pub invariant_of-view : goal.invariant_of-view
invariant_of-view c = record { readable = (omega (arith, c.last.ensures.readable), omega (arith, c.last.ensures.value)) }
