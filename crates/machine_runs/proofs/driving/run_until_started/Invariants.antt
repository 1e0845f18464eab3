use Rattle.std.proofs.Common.{◌≡◌, length}
use Rattle.machine_runs.specs.Driving.{work_of, GoesOnByTurns, IsGoing}
use Rattle.machine_runs.proofs.driving.run_until_started.Given as goal

abbrev pub invariant-loop-pause : goal.invariant-loop-pause
invariant-loop-pause g l = record {
  goes_on : GoesOnByTurns l.fn.core (g.W.Words.words l.fn.words) l.fn.suspended_machines.items l.fn.order l.fn.from
      l.core (g.W.Words.words l.words) l.suspended_machines.items l.order l.from;
  going : IsGoing l.core l.suspended_machines.items l.order;
  same : length l.suspended_machines.items ≡ length l.fn.suspended_machines.items;
}

-- the instructions that all machines have left
abbrev pub decreases-loop-pause : goal.decreases-loop-pause
decreases-loop-pause g l = work_of l.suspended_machines.items
