use Rattle.std.proofs.Common.{◌≡◌}
use Rattle.request_line.specs.Line.{receiver_line, taken, closed}
use Rattle.request_line.proofs.ends.Receiver.watch.Given as goal

abbrev pub invariant-loop-looks : goal.invariant-loop-looks
invariant-loop-looks g l = record {
  taken : taken l.self ≡ taken l.initial.self;
  closed : closed l.self ≡ closed l.initial.self;
  line : receiver_line l.self ≡ receiver_line l.initial.self;
}
