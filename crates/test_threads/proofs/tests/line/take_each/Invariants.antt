use Rattle.std.proofs.Common.{◌≡◌}
use Rattle.request_line.specs.Line.{receiver_line}
use Rattle.test_threads.proofs.tests.line.take_each.Given as goal

abbrev pub invariant-loop : goal.invariant-loop
invariant-loop g l = receiver_line l.receiver ≡ receiver_line l.initial.receiver
