use Rattle.std.proofs.Common.{◌-◌, length}
use Rattle.model_machine.specs.declared.TheConstants.{MACHINES}
use Rattle.machine_runs.specs.Driving.{GoesOnByTurns, IsGoing}
use Rattle.machine_runs.proofs.driving.drive.Given as goal

abbrev pub invariant-loop : goal.invariant-loop
invariant-loop g l = record {
  goes_on : GoesOnByTurns l.fn.core (g.W.Words.words l.fn.words) l.fn.suspended_machines.items l.fn.order l.fn.from
      l.core (g.W.Words.words l.words) l.suspended_machines.items l.order l.from;
  going : IsGoing l.core l.suspended_machines.items l.order;
}

-- how many machines may still be started
abbrev pub decreases-loop : goal.decreases-loop
decreases-loop g l = MACHINES - length l.suspended_machines.items
