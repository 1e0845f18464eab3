use Rattle.std.proofs.Common.{◌+◌, ◌-◌, ◌≤◌, length}
use Rattle.model_lines.specs.Reading.{input_limit}
use Rattle.instr_grammar.specs.Lines.{assembled}
use Rattle.instr_text.proofs.Steps.{Stands}
use Rattle.instr_text.proofs.assembling.read_all.Given as goal

abbrev pub invariant-loop-left : goal.invariant-loop-left
invariant-loop-left l = record {
  stands : Stands l.sections l.number l.text l.left l.pairs (assembled l.text);
  within : length l.left ≤ length l.text;
  counted : l.number ≤ length l.text - length l.left + 1;
  size : length l.text - length l.left ≤ input_limit;
  index : l.sections.index + 1 ≤ l.number;
  instructions : l.sections.instructions + 1 ≤ l.number;
}

abbrev pub decreases-loop-left : goal.decreases-loop-left
decreases-loop-left l = length l.left
