use Rattle.std.proofs.Common.{◌≡◌, ◌++◌}
use Rattle.model_lines.specs.Inputs.{pair_lines}
use Rattle.machine_runs.specs.Dumps.{newest_pairs}
use Rattle.machine_runs.proofs.dumping.add_pair_lines.Given as goal

-- what was written, and the lines of the pairs that are left, are all
abbrev pub invariant-loop-key : goal.invariant-loop-key
invariant-loop-key l = l.to.items ++ pair_lines l.key-iterator ≡ l.fn.to.items ++ pair_lines (newest_pairs l.core.store)
