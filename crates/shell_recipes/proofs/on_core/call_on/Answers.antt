use Rattle.std.proofs.Common.{◌≡◌, inr, ℕ, List, sym, subst, ◌∙◌}
use Rattle.model_shell.specs.Requests.{name}
use Rattle.fdb_calls.specs.declared.Request.TheVariants as request
use Rattle.fdb_calls.specs.declared.TxnCall.TheVariants as call
use Rattle.model_machine.specs.Worlds.{step}
use Rattle.client_core.specs.Stands.{StandsFor}
use Rattle.core_tr.specs.Standing.{StandsIn}
use Rattle.shell_recipes.proofs.Assembling.{settling, its_own, settled_stands}
use Rattle.shell_recipes.proofs.Runs.{runs_on}
use Rattle.shell_recipes.proofs.on_core.call_on.Goals as goal

pub returns-clause-done : goal.returns-clause-done
returns-clause-done c world stands =
    let settled = c.in_ok-settle.ensures {u = tt} in
    let made = c.in_ok-end.ensures {u = tt} in
    let one : c.settle.new.self.name ≡ name = settled.same_name ∙ c.requires in
    let ready = subst (λ (n : List ℕ). StandsFor c.settle.new.self.core.now (step world (request.On n call.CommittedVersion)).world) c.requires (settled.settled world stands) in
    runs_on world c.in_ok-end.end c.make.new.tr.core.now c.settle.new.self.core.now c.args.text.now c.make.new.text
    c.settle.new.self.is_spent c.make.new.tr.is_spent c.settle.new.self.name c.make.new.tr.name ready one c.if-tr.false made.same.1 c.args.recipe.now
    (made.made (settling world).world.setting (its_own world)
    (inr (subst (λ (n : List ℕ). StandsIn c.settle.new.self.core.now n (settling world).world.setting (its_own world)) (sym one)
    (settled_stands c.settle.new.self.core.now world ready))))
