use Rattle.std.proofs.Common.{◌≡◌}
use Rattle.std.specs.List.{filter, range_with_len}
use Rattle.test_files.specs.Blocks.{begins_case}
use Rattle.test_files.proofs.blocks.starts.Given as goal

abbrev pub invariant-loop-place : goal.invariant-loop-place
invariant-loop-place l = l.starts.items ≡ filter (begins_case l.text) (range_with_len 0 l.place)
