use Rattle.std.proofs.Common.{rules}
use Rattle.model_recipes.specs.Multimaps.{count_in}
use Rattle.recipe_layers.proofs.multimap.count_in.Goals as goal

pub returns-in_ok-copy-in-None : goal.returns-in_ok-copy-in-None
unfolding count_in
returns-in_ok-copy-in-None c = search rules

pub returns-in-Some : goal.returns-in-Some
unfolding count_in
returns-in-Some c = search rules
