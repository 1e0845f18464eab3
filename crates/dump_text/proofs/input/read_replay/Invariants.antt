use Rattle.std.proofs.Common.{◌≡◌, ◌+◌, ◌-◌, ◌≤◌, [], length}
use Rattle.model_lines.specs.Reading.{input_limit, start, lines_of}
use Rattle.model_input.specs.Forms.{read_replay}
use Rattle.dump_text.specs.Places.{place_at}
use Rattle.dump_text.proofs.Replays.{before}
use Rattle.dump_text.proofs.input.read_replay.Given as goal

abbrev pub invariant-loop-place : goal.invariant-loop-place
invariant-loop-place l = record {
  all : before l.order (read_replay (place_at l.number l.bytes l.left []) (lines_of l.left)) ≡ read_replay start (lines_of l.bytes);
  within : length l.left ≤ length l.bytes;
  counted : l.number ≤ length l.bytes - length l.left + 1;
  size : length l.bytes - length l.left ≤ input_limit;
}

abbrev pub decreases-loop-place : goal.decreases-loop-place
decreases-loop-place l = length l.left
