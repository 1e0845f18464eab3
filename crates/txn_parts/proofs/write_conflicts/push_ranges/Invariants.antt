use Rattle.std.proofs.Common.{◌≡◌, ◌++◌}
use Rattle.txn_parts.proofs.write_conflicts.push_ranges.Given as goal

-- with the ranges that are left they are those of both
abbrev pub invariant-loop-begin : goal.invariant-loop-begin
invariant-loop-begin l = l.ranges.items ++ l.begin-iterator ≡ l.fn.ranges.items ++ l.fn.set
