use Rattle.std.proofs.lemmas.Result.{on_ok_weaker}
use Rattle.generator.proofs.Adding.{more}
use Rattle.generator.proofs.worker.add.Goals as goal

pub returns : goal.returns
returns c =
    let start = c.args.script.now in
    on_ok_weaker c.bare.result
    (λ last. more start _ _ (more start _ _ (more start _ _ c.in_ok-push_bytes.ensures c.in_ok-push_bytes-2.ensures) c.in_ok-push_text.ensures) last)
    c.bare.ensures
