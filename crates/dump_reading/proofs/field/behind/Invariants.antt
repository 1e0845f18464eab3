use Rattle.std.proofs.Common.{◌≡◌, ◌-◌, ◌≤◌, length, drop}
use Rattle.dump_reading.specs.Fields.{behind}
use Rattle.dump_reading.proofs.field.behind.Given as goal

-- the rest of the word is to stand at the front of what is left
abbrev pub invariant-loop-i : goal.invariant-loop-i
invariant-loop-i l = record {
  all : behind (drop l.i l.word) (drop l.i l.bytes) ≡ behind l.word l.bytes;
  in_word : l.i ≤ length l.word;
  within : l.i ≤ length l.bytes;
}

abbrev pub decreases-loop-i : goal.decreases-loop-i
decreases-loop-i l = length l.word - l.i
