use Rattle.std.proofs.Common.{◌≡◌, length}
use Rattle.machine_runs.specs.Driving.{effort_of, work_of, GoesOnByTurns, IsGoing}
use Rattle.machine_runs.proofs.driving.run_until_finished.Given as goal

abbrev pub invariant-loop-number : goal.invariant-loop-number
invariant-loop-number g l = record {
  goes_on : GoesOnByTurns l.fn.core (g.W.Words.words l.fn.words) l.fn.suspended_machines.items l.fn.order l.fn.from
      l.core (g.W.Words.words l.words) l.suspended_machines.items l.order l.from;
  going : IsGoing l.core l.suspended_machines.items l.order;
  same : length l.suspended_machines.items ≡ length l.fn.suspended_machines.items;
  work : work_of l.suspended_machines.items ≡ work_of l.fn.suspended_machines.items;
}

-- what is left to poll for and to log
abbrev pub decreases-loop-number : goal.decreases-loop-number
decreases-loop-number g l = effort_of l.suspended_machines.items
