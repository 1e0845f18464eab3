use Rattle.std.proofs.Common.{◌≡◌, ℕ, ◌-◌, ◌<◌, ◌≤◌, false, length}
use Rattle.machine_runs.specs.Driving.{asks_at}
use Rattle.machine_runs.proofs.driving.first_asking.Given as goal

abbrev pub invariant-loop-number : goal.invariant-loop-number
invariant-loop-number l = record {
  onward : l.fn.from ≤ l.number;
  none : (other : ℕ) → l.fn.from ≤ other → other < l.number → asks_at l.fn.suspended_machines other ≡ false;
}

abbrev pub decreases-loop-number : goal.decreases-loop-number
decreases-loop-number l = length l.fn.suspended_machines - l.number
