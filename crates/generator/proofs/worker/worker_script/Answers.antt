use Rattle.std.proofs.Common.{◌≡◌, arith}
use Rattle.generator.proofs.Adding.{whole}
use Rattle.generator.proofs.worker.worker_script.Goals as goal
use Rattle.generator.proofs.worker.worker_script.Goals.{In_ok-close}

all_rounds : (c : In_ok-close) → c.loop-round.round ≡ 20
all_rounds c = omega (arith, c.loop-round-test.false, c.loop-round.auto.round-end)

pub returns : goal.returns
returns c = whole c.args.worker c.loop-round.round (all_rounds c) c.loop-round.invariant c.in_ok-close.ensures
