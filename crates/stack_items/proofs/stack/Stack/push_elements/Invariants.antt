use Rattle.std.proofs.Common.{◌≡◌, map, take}
use Rattle.model_machine.specs.StackOperations.{pushed, packed_alone}
use Rattle.stack_items.proofs.stack.Stack.push_elements.Given as goal

abbrev pub invariant-loop-element : goal.invariant-loop-element
invariant-loop-element l = l.self ≡ pushed l.instruction (map packed_alone (take l.element-index l.element-items)) l.initial.self
