-- What was read so far is the front of the buffer, and the count of faults didn't fall.
use Rattle.std.proofs.Common.{◌-◌, ◌≤◌, take, vec_len, vec_items}
use Rattle.std.specs.Io.KnownBytes.{Consumes}
use Rattle.outside.proofs.transfers.read_all.Given as goal

abbrev pub invariant-loop-filled : goal.invariant-loop-filled
invariant-loop-filled g l = record {
  below : l.filled ≤ l.limit;
  within : l.filled ≤ vec_len l.bytes;
  clipped : vec_len l.bytes ≤ l.limit;
  consumed : Consumes (g.S.Source.left l.initial.source) (g.S.Source.left l.source) (take l.filled (vec_items l.bytes));
  later : g.S.Source.faults l.initial.source ≤ g.S.Source.faults l.source;
}

abbrev pub decreases-loop-filled : goal.decreases-loop-filled
decreases-loop-filled g l = l.limit - l.filled
