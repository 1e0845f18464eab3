use Rattle.std.proofs.Common.{◌≡◌, ◌≤◌, ◌++◌, length}
use Rattle.key_bytes.specs.Keys.{IsByteString}
use Rattle.model_lines.specs.Printing.{printable_but}
use Rattle.dump_reading.proofs.printable.read_printable.Given as goal

-- what was read is spelled before what is left
abbrev pub invariant-loop-left : goal.invariant-loop-left
invariant-loop-left l = record {
  all : printable_but l.escaped l.read.items ++ l.left ≡ l.bytes;
  small : IsByteString l.read.items;
  within : length l.left ≤ length l.bytes;
}

abbrev pub decreases-loop-left : goal.decreases-loop-left
decreases-loop-left l = length l.left
