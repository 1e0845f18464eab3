use Rattle.std.proofs.Common.{◌≡◌, ◌+◌, ◌-◌, ◌≤◌, length, drop}
use Rattle.std.specs.List.{prefix_len}
use Rattle.model_lines.specs.Printing.{is_plain}
use Rattle.dump_text.proofs.plain.plain_len.Given as goal

-- what was passed is plain
abbrev pub invariant-loop-i : goal.invariant-loop-i
invariant-loop-i l = record {
  passed : prefix_len is_plain l.bytes ≡ l.i + prefix_len is_plain (drop l.i l.bytes);
  within : l.i ≤ length l.bytes;
}

abbrev pub decreases-loop-i : goal.decreases-loop-i
decreases-loop-i l = length l.bytes - l.i
