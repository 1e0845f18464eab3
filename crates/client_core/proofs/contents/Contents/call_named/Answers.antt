use Rattle.std.proofs.Common.{sym, refl, ap, ◌∙◌}
use Rattle.std.proofs.lemmas.Result.{on_err_weaker}
use Rattle.std.specs.Option.{option_copied_mut}
use Rattle.client_core.specs.Contents.{model_of}
use Rattle.client_core.proofs.Named.{named_took}
use Rattle.client_core.proofs.Kept.{named_still}
use Rattle.client_core.proofs.Results.{ok_so}
use Rattle.client_core.proofs.contents.Contents.call_named.Goals as goal

pub returns-clause-step : goal.returns-clause-step
returns-clause-step c =
    ok_so _ _ c.call_on.result (λ reply made world stands.
    named_took (model_of c.args.self.now) _ world c.args.name.now c.args.call.now c.unwrap-transaction.result.now c.call_on.new.transaction
    reply (sym c.get_mut.ensures.value ∙ ap option_copied_mut c.unwrap-transaction.ensures) made refl refl stands)
    c.call_on.ensures.made

pub returns-clause-kept : goal.returns-clause-kept
returns-clause-kept c =
    on_err_weaker c.call_on.result (λ still.
    named_still (model_of c.args.self.now) c.call_on.new.store c.call_on.new.index c.args.name.now c.unwrap-transaction.result.now
    (sym c.get_mut.ensures.value ∙ ap option_copied_mut c.unwrap-transaction.ensures) still)
    c.call_on.ensures.kept
