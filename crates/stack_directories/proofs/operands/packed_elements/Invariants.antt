use Rattle.std.proofs.Common.{◌≡◌, ◌-◌, List}
use Rattle.fdb_tuple.specs.declared.tuple.Elem.{Elem}
use Rattle.model_machine.specs.Operands.{element_operand, operands_by}
use Rattle.stack_items.specs.Looks.{left_in}
use Rattle.stack_items.proofs.Repeats.{operands_after}
use Rattle.stack_directories.proofs.Packing.{PacksFirst}
use Rattle.stack_directories.proofs.operands.packed_elements.Given as goal

abbrev pub invariant-loop-seen : goal.invariant-loop-seen
invariant-loop-seen l = record {
  whole : l.operands.whole ≡ l.initial.operands.whole;
  firsts : List Elem;
  packed : PacksFirst l.packed.items firsts;
  found : operands_by element_operand l.count (left_in l.initial.operands)
      ≡ operands_after element_operand firsts (l.count - l._seen) (left_in l.operands);
}
