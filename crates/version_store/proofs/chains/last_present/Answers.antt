use Rattle.std.proofs.Common.{sym, ap, ◌∙◌}
use Rattle.key_map.specs.Ends.{last}
use Rattle.version_store.specs.Versions.{present}
use Rattle.version_store.proofs.Spans.{present_of, last-present_of, present_of-passed_last}
use Rattle.version_store.proofs.chains.last_present.Goals as goal

pub returns-in-Some-value_at : goal.returns-in-Some-value_at
returns-in-Some-value_at c =
    sym
    (last-present_of c.args.version c.args.nodes.now.slots _ _ c.in-Some.key.now c.in-Some.place.now c.in-Some-value_at.value.now
    (c.in-Some.ensures {u = tt}).steps (c.in-Some-value_at.ensures {u = tt}))
    ∙ c.loop-key.invariant

pub loop-key-preserved : goal.loop-key-preserved
loop-key-preserved c =
    sym
    (ap last
    (present_of-passed_last c.args.version c.args.nodes.now.slots _ _ c.in-Some.key.now c.in-Some.place.now
    (c.in-Some.ensures {u = tt}).steps (c.in_default-value_at.ensures {u = tt})))
    ∙ c.loop-key.invariant

pub returns : goal.returns
unfolding present
returns c =
    sym (ap (λ left. last (present_of c.args.version c.args.nodes.now.slots left)) (c.in_default.ensures {u = tt}).steps.0)
    ∙ c.loop-key.invariant
