use Rattle.recipe_layers.proofs.Chunks.{IsReadTo}
use Rattle.recipe_layers.proofs.blob.bytes_in.Given as goal

abbrev pub invariant-loop-place : goal.invariant-loop-place
invariant-loop-place l = IsReadTo l.s.prefix l.pairs l.place l.bytes.items
