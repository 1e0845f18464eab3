use Rattle.std.proofs.Common.{◌≡◌, ◌∷◌, length, sym, ap, ◌∙◌, arith}
use Rattle.version_store.specs.Versions.{present}
use Rattle.version_store.proofs.Spans.{present_of, present_of-here, present_of-passed}
use Rattle.version_store.proofs.pairs_left.PairsLeftIterator.next.Goals as goal
use Rattle.version_store.proofs.pairs_left.PairsLeftIterator.next.Goals.{In-Some-value_at}

taken : (c : In-Some-value_at)
    → c.args.self.now
    ≡ (c.in-Some.key.now, c.in-Some-value_at.value.now) ∷ present_of c.loop-key.self-inside.version c.loop-key.self-inside.nodes.now.slots
    c.next.new.self
taken c =
    sym c.loop-key.invariant
    ∙ present_of-here c.loop-key.self-inside.version c.loop-key.self-inside.nodes.now.slots _ _ c.in-Some.key.now c.in-Some.place.now
    c.in-Some-value_at.value.now (c.in-Some.ensures {u = tt}).steps (c.in-Some-value_at.ensures {u = tt})

pub returns-in-Some-value_at-clause-steps : goal.returns-in-Some-value_at-clause-steps
returns-in-Some-value_at-clause-steps c = taken c

pub returns-in-Some-value_at-clause-goes : goal.returns-in-Some-value_at-clause-goes
returns-in-Some-value_at-clause-goes c =
    let shorter = ap length (taken c) in
    record { on = λ _. (tt, tt, omega (arith, shorter)); keeps = tt; rests = λ _. tt }

pub loop-key-preserved : goal.loop-key-preserved
loop-key-preserved c =
    sym
    (present_of-passed c.loop-key.self-inside.version c.loop-key.self-inside.nodes.now.slots _ _ c.in-Some.key.now c.in-Some.place.now
    (c.in-Some.ensures {u = tt}).steps (c.in_default-value_at.ensures {u = tt}))
    ∙ c.loop-key.invariant

pub returns-clause-steps : goal.returns-clause-steps
unfolding present
returns-clause-steps c =
    let ended = (c.in_default.ensures {u = tt}).steps in
    let left = present_of c.loop-key.self-inside.version c.loop-key.self-inside.nodes.now.slots in
    (sym c.loop-key.invariant ∙ ap left ended.0, ap left ended.1)
