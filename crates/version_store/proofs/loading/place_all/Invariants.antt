use Rattle.std.proofs.Common.{◌≡◌, ◌++◌, take, drop}
use Rattle.key_bytes.specs.Entries.{entries_of}
use Rattle.version_store.specs.Chains.{chains_of}
use Rattle.version_store.specs.Loading.{first_chains, places_from, AreAlone}
use Rattle.version_store.proofs.loading.place_all.Given as goal

-- the chains so far and those of the pairs that are left are all
abbrev pub invariant-loop-place : goal.invariant-loop-place
invariant-loop-place l =
    (chains_of l.nodes.slots (places_from 0 (take l.place l.pairs)) ++ first_chains (entries_of (drop l.place l.pairs))
    ≡ first_chains (entries_of l.fn.pairs))
    × AreAlone l.nodes.slots (places_from 0 (take l.place l.pairs))
