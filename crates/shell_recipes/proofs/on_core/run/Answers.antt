use Rattle.std.proofs.Common.{◌≡◌, sym, subst}
use Rattle.std.specs.Prelude.{IfOk}
use Rattle.client_core.specs.Stands.{CoreModel}
use Rattle.model_shell.specs.Recipes.{recipe_done}
use Rattle.shell_recipes.specs.Running.{HasRun}
use Rattle.shell_recipes.proofs.on_core.run.Goals as goal

-- the core stays as the call left it
pub returns : goal.returns
returns c world stands =
    let same : _ ≡ c.call_on-end.new.tr.core.now = c.core-1.given.1 (sym c.call_on-end.ensures.same_core) in
    subst (λ (core : CoreModel). IfOk c.call_on-end.result
    (λ end. HasRun end core c.args.text.now c.call_on-end.new.text world (recipe_done c.args.recipe.now world))) (sym same)
    (c.call_on-end.ensures.done world stands)
