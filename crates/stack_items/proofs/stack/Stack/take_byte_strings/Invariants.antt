use Rattle.std.proofs.Common.{◌≡◌, ◌-◌}
use Rattle.model_machine.specs.Operands.{bytes_operand, operands_by}
use Rattle.stack_items.proofs.Repeats.{operands_after}
use Rattle.stack_items.proofs.stack.Stack.take_byte_strings.Given as goal

abbrev pub invariant-loop-taken : goal.invariant-loop-taken
invariant-loop-taken l =
    operands_by bytes_operand l.count l.fn.self ≡ operands_after bytes_operand l.strings.items (l.count - l._taken) l.self
