use Rattle.std.proofs.Common.{◌∙◌}
use Rattle.std.proofs.lemmas.Result.{on_ok_weaker}
use Rattle.generator.specs.Generated.{busy_key}
use Rattle.generator.proofs.Adding.{more, pushes}
use Rattle.generator.proofs.worker.close.Goals as goal

pub returns : goal.returns
returns c =
    let start = c.args.script.now in
    let key = pushes start _ (busy_key c.args.worker) (c.as_slice.ensures ∙ c.in_ok-busy_key.ensures) c.in_ok-push_bytes.ensures in
    on_ok_weaker c.bare.result (λ last. more start _ _ key last) c.bare.ensures
