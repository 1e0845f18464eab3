use Rattle.std.proofs.Common.{sym, refl, ap, ◌∙◌}
use Rattle.std.specs.Option.{option_copied_mut}
use Rattle.client_core.specs.Contents.{model_of}
use Rattle.client_core.proofs.Layers.{named_drew}
use Rattle.client_core.proofs.contents.Contents.directory_named.Goals as goal

pub returns-clause-step : goal.returns-clause-step
returns-clause-step g c = λ world stands.
    named_drew (model_of c.args.self.now) _ world c.args.name.now c.args.kind c.args.layer.now c.args.args.now c.life-life.result
    c.outcome_after-outcome.result c.unwrap-transaction.result.now _ c.in_ok-reply.reply _ _
    (sym c.get_mut.ensures.value ∙ ap option_copied_mut c.unwrap-transaction.ensures) c.in_ok-reply.ensures.reaches refl refl refl refl
    c.life-life.ensures c.outcome_after-outcome.ensures c.in_ok-go_on.ensures.ok stands
