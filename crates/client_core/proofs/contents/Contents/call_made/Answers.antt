use Rattle.std.proofs.Common.{refl, sym, subst, ap, ◌∙◌}
use Rattle.std.specs.Option.{is_some}
use Rattle.std.proofs.lemmas.Result.{on_err_weaker}
use Rattle.model_machine.specs.Worlds.{World, with_new, call_named}
use Rattle.client_core.specs.Contents.{model_of}
use Rattle.client_core.specs.Sound.{Took}
use Rattle.client_core.proofs.Named.{made_took, named_none}
use Rattle.client_core.proofs.Kept.{named_still}
use Rattle.client_core.proofs.Results.{ok_so}
use Rattle.client_core.proofs.contents.Contents.call_made.Goals as goal

pub returns-in-Some-clause-step : goal.returns-in-Some-clause-step
returns-in-Some-clause-step c =
    ok_so _ _ c.call_on.result (λ reply made world stands.
    made_took (model_of c.args.self.now) _ world c.args.name.now c.args.call.now c.in-Some.transaction.now c.call_on.new.transaction
    reply (sym c.in-Some.ensures.value) made refl refl stands)
    c.call_on.ensures.made

pub returns-in-Some-clause-kept : goal.returns-in-Some-clause-kept
returns-in-Some-clause-kept c =
    on_err_weaker c.call_on.result (λ still.
    named_still (model_of c.args.self.now) c.call_on.new.store c.call_on.new.index c.args.name.now c.in-Some.transaction.now (sym c.in-Some.ensures.value) still)
    c.call_on.ensures.kept

pub returns-clause-kept : goal.returns-clause-kept
returns-clause-kept c =
    on_err_weaker c.call_named.result (λ still world stands.
    still (with_new world c.args.name.now) (c.in_ok-make_new.ensures.stands world stands).stands)
    c.call_named.ensures.kept

-- the name has no transaction, so one is made for it
pub returns-clause-step : goal.returns-clause-step
returns-clause-step c =
    ok_so _ _ c.call_named.result (λ reply takes world stands.
    subst (λ (named : World). Took reply (model_of c.call_named.new.self) (call_named named c.args.name.now c.args.call.now))
    (sym (named_none (model_of c.args.self.now) world c.args.name.now stands (ap is_some (sym c.in_default.ensures.value))))
    (takes (with_new world c.args.name.now) (c.in_ok-make_new.ensures.stands world stands).stands))
    c.call_named.ensures.step
