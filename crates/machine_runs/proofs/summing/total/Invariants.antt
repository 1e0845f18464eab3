use Rattle.std.proofs.Common.{◌≡◌, take}
use Rattle.machine_runs.specs.Dumps.{total_at}
use Rattle.machine_runs.proofs.summing.total.Given as goal

abbrev pub invariant-loop-suspended : goal.invariant-loop-suspended
invariant-loop-suspended l = l.total ≡ total_at l.which (take l.suspended-index l.suspended_machines)
