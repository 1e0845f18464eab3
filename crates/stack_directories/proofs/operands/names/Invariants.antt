use Rattle.std.proofs.Common.{◌≡◌, ◌-◌}
use Rattle.model_machine.specs.Operands.{operand_by, operands_by}
use Rattle.model_machine.specs.Directories.{text_of}
use Rattle.stack_items.specs.Looks.{left_in}
use Rattle.stack_items.proofs.Repeats.{operands_after}
use Rattle.stack_directories.proofs.operands.names.Given as goal

abbrev pub invariant-loop-seen : goal.invariant-loop-seen
invariant-loop-seen l = record {
  whole : l.operands.whole ≡ l.initial.operands.whole;
  found : operands_by (λ stack. operand_by text_of stack) l.count (left_in l.initial.operands)
      ≡ operands_after (λ stack. operand_by text_of stack) l.path (l.count - l._seen) (left_in l.operands);
}
