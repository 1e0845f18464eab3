use Rattle.std.proofs.Common.{◌≡◌, ◌+◌, ◌-◌, ◌≤◌, length, drop}
use Rattle.std.specs.List.{prefix_len}
use Rattle.model_input.specs.Orders.{is_digit}
use Rattle.dump_reading.proofs.field.digits_len.Given as goal

-- what was passed belongs to the run
abbrev pub invariant-loop-i : goal.invariant-loop-i
invariant-loop-i l = record {
  passed : prefix_len is_digit l.bytes ≡ l.i + prefix_len is_digit (drop l.i l.bytes);
  within : l.i ≤ length l.bytes;
}

abbrev pub decreases-loop-i : goal.decreases-loop-i
decreases-loop-i l = length l.bytes - l.i
