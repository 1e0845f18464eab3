use Rattle.std.proofs.Common.{◌∙◌}
use Rattle.generator.proofs.Placing.{next_worker}
use Rattle.generator.proofs.pairs.add_workers.Goals as goal

pub loop-before-preserved : goal.loop-before-preserved
loop-before-preserved c =
    next_worker c.args.pairs.now c.loop-before.before _ _ c.loop-before.invariant
    (c.into_bytes-prefix.ensures ∙ c.in_ok-worker_prefix.ensures)
    (c.as_slice-in-loop-before.ensures ∙ c.in_ok-worker_script.ensures) c.in_ok-place.ensures
