use Rattle.std.proofs.Common.{◌≡◌, ℕ, ◌-◌, List}
use Rattle.model_machine.specs.Operands.{bytes_operand, operands_by}
use Rattle.stack_items.specs.Looks.{left_in}
use Rattle.stack_items.proofs.Repeats.{operands_after}
use Rattle.stack_items.proofs.operands.Operands.pass_bytes.Given as goal

abbrev pub invariant-loop-passed : goal.invariant-loop-passed
invariant-loop-passed l = record {
  whole : l.self.whole ≡ l.initial.self.whole;
  firsts : List (List ℕ);
  found : operands_by bytes_operand l.count (left_in l.initial.self) ≡ operands_after bytes_operand firsts (l.count - l._passed) (left_in l.self);
}
