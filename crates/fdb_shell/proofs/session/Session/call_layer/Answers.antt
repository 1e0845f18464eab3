use Rattle.std.proofs.Common.{subst}
use Rattle.model_shell.specs.Recipes.{recipe_done}
use Rattle.shell_recipes.specs.declared.calls.End.{End}
use Rattle.shell_recipes.specs.Running.{is_refused}
use Rattle.fdb_shell.specs.Doing.{HasDone}
use Rattle.fdb_shell.proofs.Layers.{layer_done}
use Rattle.fdb_shell.proofs.session.Session.call_layer.Goals as goal

pub returns-in-Done : goal.returns-in-Done
returns-in-Done c = λ world stands.
    subst (λ (its_end : End). HasDone (is_refused its_end) c.args.self.now (record c.args.self.now { core = c.run.new.core; text = c.run.new.text }) (recipe_done c.args.recipe.now world)) c.in-Done.is
    (layer_done c.in_ok-end.end c.args.self.now c.run.new.core c.run.new.text world (recipe_done c.args.recipe.now world) stands
    (c.in_ok-end.ensures {u = tt} world stands.core))

pub returns-in-Refused : goal.returns-in-Refused
returns-in-Refused c = λ world stands.
    subst (λ (its_end : End). HasDone (is_refused its_end) c.args.self.now (record c.args.self.now { core = c.run.new.core; text = c.run.new.text }) (recipe_done c.args.recipe.now world)) c.in-Refused.is
    (layer_done c.in_ok-end.end c.args.self.now c.run.new.core c.run.new.text world (recipe_done c.args.recipe.now world) stands
    (c.in_ok-end.ensures {u = tt} world stands.core))
