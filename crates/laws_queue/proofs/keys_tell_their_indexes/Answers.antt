use Rattle.model_recipes.proofs.Indexes.{index_in_is, index_in_again}
use Rattle.std.proofs.Common.{ap, ◌∙◌}
use Rattle.model_recipes.specs.Queues.{index_in}
use Rattle.laws_queue.proofs.keys_tell_their_indexes.Goals as goal

pub returns : goal.returns
returns c space key index = (
  λ is. let was = index_in_is space key index is in record { is = was.0; small = was.1 },
  λ h. ap (index_in space) h.is ∙ index_in_again space index h.small,
)
