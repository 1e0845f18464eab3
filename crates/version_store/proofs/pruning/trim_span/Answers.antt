use Rattle.std.proofs.Common.{sym, subst, arith}
use Rattle.version_store.specs.Kept.{AreTrimmed}
use Rattle.version_store.proofs.Bounds.{trimmed-others}
use Rattle.version_store.proofs.Drops.{KeepsFrom-then, KeepsFrom-trimmed}
use Rattle.version_store.proofs.pruning.trim_span.Goals as goal

pub loop-place-preserved : goal.loop-place-preserved
loop-place-preserved c =
    let oldest = c.args.oldest in let place = c.in-Some.place.now in
    let slots = c.loop-place.nodes.slots in let trimmed = c.trim_at.new.nodes.slots in (
      λ places.
          KeepsFrom-then oldest oldest oldest (omega arith) (omega arith) c.args.nodes.now.slots slots trimmed places places places
          (c.loop-place.invariant.0 places) (KeepsFrom-trimmed oldest place slots trimmed places c.trim_at.ensures),
      λ later stay left.
          c.loop-place.invariant.1 later
          (λ other was. stay other (trimmed-others oldest place slots trimmed c.trim_at.ensures other was))
          (subst (AreTrimmed oldest later) (sym (c.in-Some.ensures {u = tt}).steps) (stay place c.trim_at.ensures.trimmed, left)),
    )

pub returns-clause-trimmed : goal.returns-clause-trimmed
returns-clause-trimmed c =
    let slots = c.loop-place.nodes.slots in
    c.loop-place.invariant.1 slots (λ place was. was)
    (subst (AreTrimmed c.args.oldest slots) (sym (c.in_default.ensures {u = tt}).steps.0) tt)
