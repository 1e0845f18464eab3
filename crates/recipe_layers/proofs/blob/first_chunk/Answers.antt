use Rattle.std.proofs.Common.{refl}
use Rattle.model_recipes.specs.Blobs.{first_chunk}
use Rattle.recipe_layers.proofs.blob.first_chunk.Goals as goal

pub returns : goal.returns
unfolding first_chunk
returns c = refl
