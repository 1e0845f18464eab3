use Rattle.std.proofs.Common.{◌≡◌, ℕ, false, length}
use Rattle.version_store.specs.Chains.{Slots, Places, chain_of}
use Rattle.version_store.specs.Kept.{AreTrimmed, KeepsFrom}
use Rattle.version_store.specs.Values.{is_needless}
use Rattle.version_store.proofs.pruning.trim_span.Given as goal

-- so far all is kept from the oldest version on, and once those that are left are trimmed, all are
abbrev pub invariant-loop-place : goal.invariant-loop-place
invariant-loop-place l =
    ((places : Places) → KeepsFrom l.oldest l.fn.nodes.slots places l.nodes.slots places)
    × ((slots : Slots)
    → ((place : ℕ) → is_needless l.oldest (chain_of l.nodes.slots place) ≡ false → is_needless l.oldest (chain_of slots place) ≡ false)
    → AreTrimmed l.oldest slots l.span → AreTrimmed l.oldest slots l.fn.span)

abbrev pub decreases-loop-place : goal.decreases-loop-place
decreases-loop-place l = length l.span
