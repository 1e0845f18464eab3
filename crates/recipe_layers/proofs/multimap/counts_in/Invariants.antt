use Rattle.std.proofs.Common.{◌≡◌, drop}
use Rattle.key_bytes.specs.Entries.{entries_of}
use Rattle.model_recipes.specs.Multimaps.{counts_in}
use Rattle.recipe_layers.proofs.Counts.{behind_found}
use Rattle.recipe_layers.proofs.multimap.counts_in.Given as goal

-- those that were found and those of the pairs that are left are all
abbrev pub invariant-loop-pair : goal.invariant-loop-pair
invariant-loop-pair l =
    behind_found l.counts (counts_in l.front.prefix (entries_of (drop l.pair-index l.pair-items))) ≡ counts_in l.front.prefix l.pairs
