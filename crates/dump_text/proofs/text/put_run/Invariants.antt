use Rattle.std.proofs.Common.{◌≡◌, ◌+◌, ◌≤◌, length, take}
use Rattle.model_lines.specs.Reading.{text_of}
use Rattle.dump_text.specs.Texts.{with_front}
use Rattle.dump_text.proofs.text.put_run.Given as goal

-- what was put, before what is still to read, is all, and as much is left as there was room for
abbrev pub invariant-loop-count : goal.invariant-loop-count
invariant-loop-count l = record {
  read : with_front (take l.end l.room) (text_of l.left) ≡ with_front (take l.at l.fn.room) (text_of l.bytes);
  place : l.end + length l.left ≡ l.at + length l.bytes;
  within : length l.left ≤ length l.bytes;
}

abbrev pub decreases-loop-count : goal.decreases-loop-count
decreases-loop-count l = length l.left + l.count
