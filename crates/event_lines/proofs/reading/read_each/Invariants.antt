use Rattle.std.proofs.Common.{◌≡◌, ◌+◌, ◌-◌, ◌≤◌, length}
use Rattle.model_lines.specs.Reading.{input_limit, lines_of}
use Rattle.model_events.specs.Events.{start, read_events}
use Rattle.event_lines.specs.Lines.{place_is}
use Rattle.event_lines.proofs.EventReading.{before}
use Rattle.event_lines.proofs.reading.read_each.Given as goal

abbrev pub invariant-loop-left : goal.invariant-loop-left
invariant-loop-left l = record {
  all : before l.events (read_events (place_is l.number l.place) (lines_of l.left)) ≡ read_events start (lines_of l.bytes);
  within : length l.left ≤ length l.bytes;
  stands : l.place.bytes ≡ length l.bytes - length l.left;
  counted : l.number ≤ length l.bytes - length l.left + 1;
  size : length l.bytes - length l.left ≤ input_limit;
  pairs : l.place.pairs ≤ l.number;
  watches : l.place.watches ≤ l.number;
}

abbrev pub decreases-loop-left : goal.decreases-loop-left
decreases-loop-left l = length l.left
