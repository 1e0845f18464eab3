use Rattle.std.proofs.Common.{sym, subst, ◌∙◌, ◌+◌, arith}
use Rattle.version_store.specs.Dues.{AreDues, AreNoted}
use Rattle.version_store.proofs.Drops.{KeepsFrom-then}
use Rattle.version_store.proofs.Notes.{AreDues-after, AreDues-rest}
use Rattle.version_store.proofs.pruning.prune_dues.Goals as goal

pub loop-due-preserved-in-Some : goal.loop-due-preserved-in-Some
loop-due-preserved-in-Some c = (
  KeepsFrom-then c.args.oldest c.args.oldest c.args.oldest (omega arith) (omega arith) c.args.nodes.now.slots c.loop-due.nodes.slots
      c.settle.new.nodes.slots c.args.tree.now.entries c.loop-due.tree.entries c.settle.new.tree.entries c.loop-due.invariant.0
      c.settle.ensures.keeps,
  c.pop.ensures.noting ∙ c.loop-due.invariant.1,
  λ low high next sound complete noting.
      let was = c.loop-due.invariant.2 low high next sound complete (sym c.pop.ensures.noting ∙ noting) in
      let popped = (c.in-Some.ensures {u = tt}).some in (
        AreDues-rest c.loop-due.dues.queue.items c.pop.new.self.queue.items c.in-Some.due low high popped.1 was.0,
        c.settle.ensures.noted popped.0 next (c.loop-due.invariant.0 next sound).sound c.pop.new.self.queue.items
            (subst (λ dues. AreNoted dues c.loop-due.nodes.slots c.loop-due.tree.entries) popped.1 was.1),
      ),
)

pub loop-due-preserved : goal.loop-due-preserved
loop-due-preserved c = (
  KeepsFrom-then c.args.oldest c.args.oldest c.args.oldest (omega arith) (omega arith) c.args.nodes.now.slots c.loop-due.nodes.slots
      c.settle.new.nodes.slots c.args.tree.now.entries c.loop-due.tree.entries c.settle.new.tree.entries c.loop-due.invariant.0
      c.settle.ensures.keeps,
  c.pop.ensures.noting ∙ c.loop-due.invariant.1,
  λ low high next sound complete noting.
      let was = c.loop-due.invariant.2 low high next sound complete (sym c.pop.ensures.noting ∙ noting) in
      let popped = (c.in-Some.ensures {u = tt}).some in (
        AreDues-rest c.loop-due.dues.queue.items c.pop.new.self.queue.items c.in-Some.due low high popped.1 was.0,
        c.settle.ensures.noted popped.0 next (c.loop-due.invariant.0 next sound).sound c.pop.new.self.queue.items
            (subst (λ dues. AreNoted dues c.loop-due.nodes.slots c.loop-due.tree.entries) popped.1 was.1),
      ),
)

pub returns-clause-complete : goal.returns-clause-complete
returns-clause-complete c low high next sound complete noting =
    let was = c.loop-due.invariant.2 low high next sound complete (sym c.pop.ensures.noting ∙ noting) in
    let left = (c.in_default.ensures {u = tt}).none in (
      subst (AreDues (c.args.oldest + 1) high) (sym left.1) (AreDues-after c.loop-due.dues.queue.items c.args.oldest low high left.0 was.0),
      subst (λ dues. AreNoted dues c.loop-due.nodes.slots c.loop-due.tree.entries) (sym left.1) was.1,
    )
