use Rattle.std.proofs.Common.{sym}
use Rattle.std.proofs.lemmas.Result.{IfOk-weaker}
use Rattle.model_machine.specs.Worlds.{with_named}
use Rattle.client_core.proofs.Layers.{named_has_words}
use Rattle.client_core.proofs.contents.Contents.call_directory.Goals as goal

pub returns-in_ok-make-in-Some-clause-step : goal.returns-in_ok-make-in-Some-clause-step
returns-in_ok-make-in-Some-clause-step g c = rw c.in-Some.is rw (sym c.get-layer.ensures) rw (sym c.get-args.ensures)
    (IfOk-weaker c.directory_named.result _ _ (λ reply drew world stands has.
    drew (with_named world c.in-Some.name) (c.in_ok-make-in-Some.ensures.stands world stands) (named_has_words world c.in-Some.name _ has))
    c.directory_named.ensures.step)

pub returns-in-None-clause-step : goal.returns-in-None-clause-step
returns-in-None-clause-step g c = rw c.in-None.is rw (sym c.get-layer.ensures) rw (sym c.get-args.ensures) c.directory_alone.ensures.step
