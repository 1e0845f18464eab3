use Rattle.std.proofs.Common.{◌≡◌, ◌++◌, take}
use Rattle.std.specs.List.{flat_map}
use Rattle.machine_runs.specs.Dumps.{suspended_stack}
use Rattle.machine_runs.proofs.dumping.add_stacks.Given as goal

abbrev pub invariant-loop-suspended : goal.invariant-loop-suspended
invariant-loop-suspended l = l.to.items ≡ l.fn.to.items ++ flat_map suspended_stack (take l.suspended-index l.suspended_machines)
