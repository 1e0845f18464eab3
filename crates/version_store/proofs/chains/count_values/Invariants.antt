use Rattle.std.proofs.Common.{◌≡◌, ◌+◌, length}
use Rattle.version_store.specs.Chains.{total}
use Rattle.version_store.proofs.chains.count_values.Given as goal

-- the values so far and those that are left are all
abbrev pub invariant-loop-place : goal.invariant-loop-place
invariant-loop-place l = l.count + total length l.nodes.slots l.span ≡ total length l.nodes.slots l.fn.span

abbrev pub decreases-loop-place : goal.decreases-loop-place
decreases-loop-place l = length l.span
