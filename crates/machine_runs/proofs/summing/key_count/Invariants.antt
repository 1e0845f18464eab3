use Rattle.std.proofs.Common.{◌≡◌, ◌+◌, length}
use Rattle.machine_runs.specs.Dumps.{newest_pairs}
use Rattle.machine_runs.proofs.summing.key_count.Given as goal

-- what was counted, and the pairs that are left, are all
abbrev pub invariant-loop-pair : goal.invariant-loop-pair
invariant-loop-pair l = l.count + length l._pair-iterator ≡ length (newest_pairs l.core.store)
