use Rattle.std.proofs.Common.{◌≡◌, ◌==◌, length, drop}
use Rattle.std.specs.List.{find, slice_split}
use Rattle.test_files.specs.Blocks.{begins_with}
use Rattle.test_files.proofs.blocks.value_of.Given as goal

abbrev pub invariant-loop-line : goal.invariant-loop-line
invariant-loop-line l = record {
  can : (goal.iterator-loop-line).can_next l.line-iterator;
  finite : (goal.iterator-loop-line).is_finite l.line-iterator;
  left : find (begins_with l.tag) (drop (length l.yielded) (slice_split (λ byte. byte == 10) l.block)) ≡ find (begins_with l.tag) (slice_split (λ byte. byte == 10) l.block);
}
