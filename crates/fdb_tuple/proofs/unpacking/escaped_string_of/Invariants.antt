use Rattle.std.proofs.Common.{◌≡◌, length}
use Rattle.fdb_tuple.specs.Reading.{after_run, string_at}
use Rattle.fdb_tuple.proofs.unpacking.escaped_string_of.Given as goal

-- what is read so far and what is left to read make the string
abbrev pub invariant-loop-run : goal.invariant-loop-run
invariant-loop-run l = after_run l.string.items (string_at l.whole l.rest) ≡ string_at l.whole l.bytes

abbrev pub decreases-loop-run : goal.decreases-loop-run
decreases-loop-run l = length l.rest
