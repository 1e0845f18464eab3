use Rattle.std.proofs.Common.{◌≡◌, true, take}
use Rattle.std.specs.List.{list_all}
use Rattle.model_machine.specs.Runs.{has_ended}
use Rattle.machine_runs.proofs.running.status_of.Given as goal

abbrev pub invariant-loop-suspended : goal.invariant-loop-suspended
invariant-loop-suspended l = list_all (λ suspended. has_ended suspended.machine.machine.state) (take l.suspended-index l.suspended_machines) ≡ true
