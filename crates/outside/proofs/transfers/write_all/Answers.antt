use Rattle.std.proofs.Common.{arith, ℕ, length-take, length-drop}
use Rattle.outside.proofs.Pieces.{Appends-more}
use Rattle.outside.proofs.transfers.write_all.Goals as goal

pub loop-done-preserved : goal.loop-done-preserved
loop-done-preserved g c =
    let took = c.in-Took.ensures in
    let before = c.loop-done.invariant in
    let bytes = c.args.bytes.now in
    record {
      within = omega (arith, took.bound, length-take {A = ℕ}, length-drop {A = ℕ});
      front = Appends-more _ _ _ bytes c.loop-done.done c.in-Took.n before.front took.bytes;
      later = omega (arith, before.later, took.later);
    }
