use Rattle.std.proofs.Common.{◌≡◌, length}
use Rattle.key_map.specs.Ends.{last}
use Rattle.version_store.specs.Chains.{chains_of}
use Rattle.version_store.specs.Versions.{present}
use Rattle.version_store.proofs.chains.last_present.Given as goal

-- the last of those that are left is the last of all
abbrev pub invariant-loop-key : goal.invariant-loop-key
invariant-loop-key l =
    last (present l.version (chains_of l.nodes.slots l.span)) ≡ last (present l.version (chains_of l.nodes.slots l.fn.span))

abbrev pub decreases-loop-key : goal.decreases-loop-key
decreases-loop-key l = length l.span
