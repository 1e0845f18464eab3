use Rattle.std.proofs.Common.{◌≡◌, ◌-◌}
use Rattle.fdb_tuple.specs.Listed.{elements_of}
use Rattle.model_machine.specs.Operands.{element_operand, operands_by}
use Rattle.stack_items.proofs.Repeats.{operands_after}
use Rattle.stack_items.proofs.stack.Stack.take_elements.Given as goal

abbrev pub invariant-loop-taken : goal.invariant-loop-taken
invariant-loop-taken l =
    operands_by element_operand l.count l.fn.self ≡ operands_after element_operand (elements_of l.tuple) (l.count - l._taken) l.self
