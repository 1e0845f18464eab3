use Rattle.stack_items.proofs.Refusals.{tuple_taken}
use Rattle.stack_items.proofs.stack.Stack.pop_tuple.Goals as goal

pub returns-clause-popped : goal.returns-clause-popped
returns-clause-popped c =
    tuple_taken c.take_elements.result c.in_ok-count.count c.args.self.now c.pop_count.new.self c.take_elements.new.self
    c.in_ok-count.ensures c.take_elements.ensures.taken c.take_elements.ensures.cause
