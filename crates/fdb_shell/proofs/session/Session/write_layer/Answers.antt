use Rattle.std.proofs.Common.{false, Err}
use Rattle.std.proofs.lemmas.Result.{err_from_is_err_and}
use Rattle.model_shell.specs.Requests.{followed, made}
use Rattle.model_shell.specs.Recipes.{recipe_done}
use Rattle.fdb_shell.proofs.Doing.{does_on, does_stopped, done_on}
use Rattle.fdb_shell.proofs.Commands.{unwritten_open, unwritten_outside, written_open, written_outside}
use Rattle.fdb_shell.proofs.session.Session.write_layer.Goals as goal

pub returns-in_err-make : goal.returns-in_err-make
returns-in_err-make c =
    let p = err_from_is_err_and c.from_residual.result c.from_residual.ensures.1 in
    rw (p.1, p.2) (λ world stands.
    unwritten_outside c.args.self.now.is_open _ c.args.self.now c.make.new.self (recipe_done c.args.recipe.now) world c.if-not-self.true
    (does_stopped _ c.args.self.now c.make.new.self (made world) (recipe_done c.args.recipe.now) (c.in_err-make.ensures world stands)))

pub returns-in_err-call_layer : goal.returns-in_err-call_layer
returns-in_err-call_layer c =
    let p = err_from_is_err_and c.from_residual-in_err-call_layer.result c.from_residual-in_err-call_layer.ensures.1 in
    rw (p.1, p.2) (λ world stands.
    let made_it = c.in_ok-make.ensures world stands in
    unwritten_outside c.args.self.now.is_open _ c.args.self.now c.call_layer.new.self (recipe_done c.args.recipe.now) world c.if-not-self.true
    (does_on (Err c.in_err-call_layer.field-0.0) c.args.self.now c.make.new.self c.call_layer.new.self (made world) (recipe_done c.args.recipe.now) made_it
    (c.in_err-call_layer.ensures (made world).world made_it.stands)))

pub returns-then-not-self : goal.returns-then-not-self
returns-then-not-self c = λ world stands.
    let made_it = c.in_ok-make.ensures world stands in
    let did = done_on false c.args.self.now c.make.new.self c.call_layer.new.self (made world) (recipe_done c.args.recipe.now) made_it
    (c.in_ok-call_layer.ensures (made world).world made_it.stands) in
    written_outside c.args.self.now.is_open _ c.args.self.now c.call_layer.new.self c.commit.new.self (recipe_done c.args.recipe.now) world c.if-not-self.true
    did (c.commit.ensures (followed (made world) (recipe_done c.args.recipe.now)).world did.stands)

pub returns-in_err-call_layer-2 : goal.returns-in_err-call_layer-2
returns-in_err-call_layer-2 c =
    let p = err_from_is_err_and c.from_residual-in_err-call_layer-2.result c.from_residual-in_err-call_layer-2.ensures.1 in
    rw (p.1, p.2) (λ world stands.
    unwritten_open c.args.self.now.is_open _ c.args.self.now c.call_layer-2.new.self (recipe_done c.args.recipe.now) world c.if-not-self.false
    (c.in_err-call_layer-2.ensures world stands))

pub returns : goal.returns
returns c = λ world stands.
    let called_it = c.in_ok-call_layer-2.ensures world stands in
    written_open c.args.self.now.is_open _ c.args.self.now c.call_layer-2.new.self c.say.new.self (recipe_done c.args.recipe.now) world c.if-not-self.false
    called_it (c.say.ensures (recipe_done c.args.recipe.now world).world called_it.stands)
