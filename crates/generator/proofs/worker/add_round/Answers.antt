use Rattle.std.proofs.lemmas.Result.{on_ok_weaker}
use Rattle.generator.proofs.Adding.{more}
use Rattle.generator.proofs.worker.add_round.Goals as goal

pub returns : goal.returns
returns c =
    let start = c.args.script.now in
    on_ok_weaker c.commit.result
    (λ last. more start _ _ (more start _ _ (more start _ _ c.in_ok-set.ensures c.in_ok-add.ensures) c.in_ok-read.ensures) last)
    c.commit.ensures
