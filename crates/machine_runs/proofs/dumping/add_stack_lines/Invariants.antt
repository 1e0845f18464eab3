use Rattle.std.proofs.Common.{◌≡◌, ◌++◌}
use Rattle.model_machine.specs.Runs.{stack_lines}
use Rattle.machine_runs.proofs.Stacks.{lines_from}
use Rattle.machine_runs.proofs.dumping.add_stack_lines.Given as goal

-- what was written, and the lines of the items that are left, are all
abbrev pub invariant-loop-place : goal.invariant-loop-place
invariant-loop-place l = l.to.items ++ lines_from l.number l.items l.place ≡ l.fn.to.items ++ stack_lines l.machine.machine
