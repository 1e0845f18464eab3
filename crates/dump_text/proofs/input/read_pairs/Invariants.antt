use Rattle.std.proofs.Common.{◌≡◌, ◌+◌, ◌-◌, ◌≤◌, [], length}
use Rattle.model_lines.specs.Reading.{input_limit, lines_of, read_lines}
use Rattle.dump_text.specs.Places.{place_at}
use Rattle.dump_text.proofs.Inputs.{before}
use Rattle.dump_text.proofs.input.read_pairs.Given as goal

abbrev pub invariant-loop-left : goal.invariant-loop-left
invariant-loop-left l = record {
  all : before l.pairs (read_lines (place_at l.number l.bytes l.left l.pairs) (lines_of l.left))
      ≡ read_lines (place_at l.fn.number l.bytes l.fn.left []) (lines_of l.fn.left);
  within : length l.left ≤ length l.bytes;
  counted : l.number ≤ length l.bytes - length l.left + 1;
  size : length l.bytes - length l.left ≤ input_limit;
}

abbrev pub decreases-loop-left : goal.decreases-loop-left
decreases-loop-left l = length l.left
