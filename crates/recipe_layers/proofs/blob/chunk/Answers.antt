use Rattle.std.proofs.Common.{ℕ, ◌*◌, List, take, drop, ap, ◌∙◌}
use Rattle.model_recipes.specs.declared.TheConstants.{CHUNK_BYTES}
use Rattle.model_recipes.specs.Blobs.{chunk}
use Rattle.recipe_layers.proofs.blob.chunk.Goals as goal

pub returns : goal.returns
unfolding chunk
returns c = c.part.ensures ∙ ap (λ (bytes : List ℕ). take CHUNK_BYTES (drop (CHUNK_BYTES * c.args.place) bytes)) c.as_slice.ensures
