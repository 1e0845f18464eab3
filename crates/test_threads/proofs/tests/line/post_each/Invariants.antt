use Rattle.std.proofs.Common.{◌≡◌}
use Rattle.request_line.specs.Line.{sender_line}
use Rattle.test_threads.proofs.tests.line.post_each.Given as goal

abbrev pub invariant-loop-item : goal.invariant-loop-item
invariant-loop-item g l = sender_line l.sender ≡ sender_line l.fn.sender
