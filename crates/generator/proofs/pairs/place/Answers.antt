use Rattle.std.proofs.Common.{◌∙◌}
use Rattle.generator.proofs.Placing.{places_one}
use Rattle.generator.proofs.pairs.place.Goals as goal

pub loop-at-preserved : goal.loop-at-preserved
loop-at-preserved c =
    places_one c.loop-at.pairs c.args.prefix.now c.loop-at.at c.args.script.now c.in_ok-instruction_key.field-0 c.in_ok-copy.field-0
    c.index-script-at.result
    c.loop-at-test.true (c.in_ok-instruction_key.ensures c.args.prefix.now c.in_ok-begin.ensures) (c.in_ok-copy.ensures ∙ c.index-script-at.is) c.in_ok-push.ensures.ok
    ∙ c.loop-at.invariant
