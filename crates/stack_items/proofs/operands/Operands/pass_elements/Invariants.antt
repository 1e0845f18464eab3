use Rattle.std.proofs.Common.{◌≡◌, ◌-◌, List}
use Rattle.fdb_tuple.specs.declared.tuple.Elem.{Elem}
use Rattle.model_machine.specs.Operands.{element_operand, operands_by}
use Rattle.stack_items.specs.Looks.{left_in}
use Rattle.stack_items.proofs.Repeats.{operands_after}
use Rattle.stack_items.proofs.operands.Operands.pass_elements.Given as goal

abbrev pub invariant-loop-passed : goal.invariant-loop-passed
invariant-loop-passed l = record {
  whole : l.self.whole ≡ l.initial.self.whole;
  firsts : List Elem;
  found : operands_by element_operand l.count (left_in l.initial.self) ≡ operands_after element_operand firsts (l.count - l._passed) (left_in l.self);
}
