use Rattle.std.proofs.Common.{arith}
use Rattle.outside.proofs.Pieces.{Consumes-more}
use Rattle.outside.proofs.transfers.read_all.Goals as goal

pub loop-filled-preserved : goal.loop-filled-preserved
loop-filled-preserved g c =
    let read = c.in-Ok-Got.ensures in
    let before = c.loop-filled.invariant in
    let bound = rw c.in-Ok-Got.field-0-is at read.bound in
    let bytes = rw c.in-Ok-Got.field-0-is at read.bytes in
    record {
      below = omega (arith, before.below, read.clipped, read.within, bound);
      within = omega (arith, read.within, bound);
      clipped = read.clipped;
      consumed = Consumes-more _ _ _ _ _ c.loop-filled.filled c.in-Ok-Got.n before.consumed read.front bytes;
      later = omega (arith, before.later, read.later);
    }
