use Rattle.std.proofs.Common.{◌≡◌, ◌+◌, ◌<◌, ◌≤◌, length}
use Rattle.model_lines.specs.Reading.{input_limit, lines_of}
use Rattle.dump_reading.specs.Dumps.{read_lines, dump_in}
use Rattle.dump_reading.specs.Seen.{place_is}
use Rattle.dump_reading.proofs.DumpSteps.{before}
use Rattle.dump_reading.proofs.dump.read_all.Given as goal

-- what was read, before what is still to read, is all; each line has a byte at least, and no line is two of pairs
abbrev pub invariant-loop-left : goal.invariant-loop-left
invariant-loop-left l = record {
  all : before l.lines (read_lines l.rank (place_is l.number l.place) (lines_of l.left)) ≡ dump_in l.bytes;
  sum : l.place.bytes + length l.left ≡ length l.bytes;
  size : l.place.bytes ≤ input_limit;
  counted : l.number ≤ l.place.bytes + 1;
  few : l.place.pairs < l.number;
}

abbrev pub decreases-loop-left : goal.decreases-loop-left
decreases-loop-left l = length l.left
