use Rattle.std.proofs.Common.{◌≡◌}
use Rattle.request_line.specs.Line.{receiver_line, taken, closed}
use Rattle.request_line.proofs.ends.Receiver.take.Given as goal

abbrev pub invariant-loop : goal.invariant-loop
invariant-loop g l = record {
  can_next : (goal.iterator-loop g).can_next l.iterator';
  is_finite : (goal.iterator-loop g).is_finite l.iterator';
  taken : taken l.self ≡ taken l.initial.self;
  closed : closed l.self ≡ closed l.initial.self;
  line : receiver_line l.self ≡ receiver_line l.initial.self;
}
