use Rattle.std.proofs.Common.{◌≡◌, ◌+◌, ◌*◌, ◌≤◌, ◌++◌, length, take}
use Rattle.model_lines.specs.Printing.{printable}
use Rattle.dump_text.proofs.room.put_forms.Given as goal

-- what was put, before what is still to put, is all, and there is room for what is still to put
abbrev pub invariant-loop-left : goal.invariant-loop-left
invariant-loop-left l = record {
  all : take l.end l.room ++ printable l.left ≡ take l.at l.fn.room ++ printable l.bytes;
  fits : l.end + 4 * length l.left ≤ l.at + 4 * length l.bytes;
}

abbrev pub decreases-loop-left : goal.decreases-loop-left
decreases-loop-left l = length l.left
