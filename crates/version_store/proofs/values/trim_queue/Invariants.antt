use Rattle.std.proofs.Common.{◌≡◌, ◌≤◌, ◌++◌, ℕ, length}
use Rattle.version_store.specs.Values.{givens}
use Rattle.version_store.specs.Versions.{Chain, holding}
use Rattle.version_store.proofs.values.trim_queue.Given as goal

-- from the oldest version on the queue holds what it held, and it lost its end alone
abbrev pub invariant-loop-queue : goal.invariant-loop-queue
invariant-loop-queue l =
    ((version : ℕ) → l.oldest ≤ version → holding version (givens l.queue.items) ≡ holding version (givens l.fn.queue.items))
    × ((gone : Chain) × (givens l.fn.queue.items ≡ givens l.queue.items ++ gone))

abbrev pub decreases-loop-queue : goal.decreases-loop-queue
decreases-loop-queue l = length l.queue.items
