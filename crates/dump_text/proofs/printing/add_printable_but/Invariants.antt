use Rattle.std.proofs.Common.{◌≡◌, ◌≤◌, ◌++◌, Some, length}
use Rattle.model_lines.specs.Printing.{printable_but}
use Rattle.dump_text.specs.Growing.{Grew}
use Rattle.dump_text.proofs.printing.add_printable_but.Given as goal

-- what was added, before what is still to add, is all
abbrev pub invariant-loop-n : goal.invariant-loop-n
invariant-loop-n l = record {
  all : l.to.items ++ printable_but (Some l.escaped) l.left ≡ l.fn.to.items ++ printable_but (Some l.escaped) l.bytes;
  within : length l.left ≤ length l.bytes;
  grew : Grew l.fn.to.items l.to.items;
}

abbrev pub decreases-loop-n : goal.decreases-loop-n
decreases-loop-n l = length l.left
