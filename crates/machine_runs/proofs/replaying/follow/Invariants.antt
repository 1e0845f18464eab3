use Rattle.std.proofs.Common.{◌≡◌, take}
use Rattle.machine_runs.specs.Driving.{GoesOn, IsGoing}
use Rattle.machine_runs.proofs.replaying.follow.Given as goal

abbrev pub invariant-loop-machine : goal.invariant-loop-machine
invariant-loop-machine g l = record {
  goes_on : GoesOn l.fn.core (g.W.Words.words l.fn.words) l.fn.suspended_machines.items l.fn.order
      l.core (g.W.Words.words l.words) l.suspended_machines.items l.order;
  going : IsGoing l.core l.suspended_machines.items l.order;
  followed : l.order ≡ take l.machine-index l.given;
}
