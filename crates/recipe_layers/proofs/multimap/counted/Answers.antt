use Rattle.std.proofs.Common.{rules}
use Rattle.std.proofs.lemmas.Grind.{common_steps}
use Rattle.model_recipes.specs.Multimaps.{counted}
use Rattle.recipe_layers.proofs.multimap.counted.Goals as goal

pub returns-in_default : goal.returns-in_default
unfolding counted
returns-in_default c = search rules

pub returns-in_default-count_said : goal.returns-in_default-count_said
unfolding counted
returns-in_default-count_said c = search rules

pub returns : goal.returns
unfolding counted
returns c = search rules
