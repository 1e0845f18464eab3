-- What was read so far are bytes behind which reading stands, and the counts of faults didn't fall.
use Rattle.std.proofs.Common.{◌≤◌, ◌-◌, ℕ, List}
use Rattle.std.specs.Io.KnownBytes.{Consumes}
use Rattle.fdb_shell.specs.Endings.{IsAt}
use Rattle.fdb_shell.specs.Limits.{input_limit}
use Rattle.fdb_shell.proofs.position.Reading.run.Given as goal

abbrev pub invariant-loop-byte : goal.invariant-loop-byte
invariant-loop-byte g l = record {
  bytes : List ℕ;
  consumed : Consumes (g.S.Source.left l.fn.source) (g.S.Source.left l.source) bytes;
  at : IsAt (g.K.Sink.written l.fn.out) (g.K.Sink.written l.out) l.self bytes;
  later_read : g.S.Source.faults l.fn.source ≤ g.S.Source.faults l.source;
  later : g.K.Sink.faults l.fn.out ≤ g.K.Sink.faults l.out;
}

abbrev pub decreases-loop-byte : goal.decreases-loop-byte
decreases-loop-byte g l = input_limit - l.self.count
