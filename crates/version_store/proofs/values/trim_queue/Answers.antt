use Rattle.std.proofs.Common.{sym, ◌∙◌}
use Rattle.version_store.proofs.Trims.{begins-popped, holding-popped}
use Rattle.version_store.proofs.values.trim_queue.Goals as goal

pub loop-queue-preserved-in-loop-queue : goal.loop-queue-preserved-in-loop-queue
loop-queue-preserved-in-loop-queue c = (
  λ version from.
      holding-popped c.args.oldest c.loop-queue.queue.items c.pop_back.new.self.items c.pop_back.result c.pop_back.ensures.items
      (sym c.is_needless.ensures ∙ c.loop-queue-test.true) version from
      ∙ c.loop-queue.invariant.0 version from,
  begins-popped c.args.queue.now.items c.loop-queue.queue.items c.pop_back.new.self.items c.pop_back.result c.pop_back.ensures.items
      c.loop-queue.invariant.1,
)

pub loop-queue-preserved-in-loop-queue-2 : goal.loop-queue-preserved-in-loop-queue-2
loop-queue-preserved-in-loop-queue-2 c = (
  λ version from.
      holding-popped c.args.oldest c.loop-queue.queue.items c.pop_back.new.self.items c.pop_back.result c.pop_back.ensures.items
      (sym c.is_needless.ensures ∙ c.loop-queue-test.true) version from
      ∙ c.loop-queue.invariant.0 version from,
  begins-popped c.args.queue.now.items c.loop-queue.queue.items c.pop_back.new.self.items c.pop_back.result c.pop_back.ensures.items
      c.loop-queue.invariant.1,
)
