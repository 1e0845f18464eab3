use Rattle.std.proofs.Common.{◌≡◌, ◌+◌, ◌≤◌, length, take}
use Rattle.model_lines.specs.Reading.{text_of}
use Rattle.dump_text.specs.Texts.{with_front}
use Rattle.dump_text.proofs.text.read_on.Given as goal

-- what was read, before what is still to read, is all, and there is room for what is still to read
abbrev pub invariant-loop-byte : goal.invariant-loop-byte
invariant-loop-byte l = record {
  all : with_front (take l.len l.room) (text_of l.left) ≡ text_of l.bytes;
  within : length l.left ≤ length l.bytes;
  fits : l.len + length l.left ≤ length l.room;
}

abbrev pub decreases-loop-byte : goal.decreases-loop-byte
decreases-loop-byte l = length l.left
