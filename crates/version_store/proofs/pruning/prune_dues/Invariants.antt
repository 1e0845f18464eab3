use Rattle.std.proofs.Common.{◌≡◌, ℕ, length}
use Rattle.version_store.specs.Chains.{Sound}
use Rattle.version_store.specs.Dues.{IsComplete}
use Rattle.version_store.specs.Kept.{KeepsFrom}
use Rattle.version_store.proofs.pruning.prune_dues.Given as goal

-- so far all is kept from the oldest version on, and what has to be noted is
abbrev pub invariant-loop-due : goal.invariant-loop-due
invariant-loop-due l =
    KeepsFrom l.oldest l.fn.nodes.slots l.fn.tree.entries l.nodes.slots l.tree.entries
    × (l.dues.noting ≡ l.fn.dues.noting)
    × ((low high next : ℕ) → Sound l.fn.nodes.slots next l.fn.tree.entries
    → IsComplete low high l.fn.dues l.fn.nodes.slots l.fn.tree.entries
    → IsComplete low high l.dues l.nodes.slots l.tree.entries)

abbrev pub decreases-loop-due : goal.decreases-loop-due
decreases-loop-due l = length l.dues.queue.items
