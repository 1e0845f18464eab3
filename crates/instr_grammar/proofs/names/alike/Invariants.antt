use Rattle.std.proofs.Common.{length, drop, ◌+◌, ◌-◌, ◌≡◌, ◌≤◌}
use Rattle.instr_grammar.specs.Names.{alike}
use Rattle.instr_grammar.proofs.names.alike.Given as goal

abbrev pub invariant-loop-i : goal.invariant-loop-i
invariant-loop-i l = record {
  all : l.i + alike (drop l.i l.name) (drop l.i l.bytes) ≡ alike l.name l.bytes;
  in_name : l.i ≤ length l.name;
  within : l.i ≤ length l.bytes;
}

abbrev pub decreases-loop-i : goal.decreases-loop-i
decreases-loop-i l = length l.name - l.i
