use Rattle.std.proofs.Common.{◌≡◌, ◌-◌, ◌≤◌, take, length}
use Rattle.instr_grammar.specs.Reading.{with_bytes, hexadecimal_at}
use Rattle.instr_grammar.proofs.string.hexadecimal_of.Given as goal

-- what was read stands in front of what is read of the bytes that are left
abbrev pub invariant-loop-i : goal.invariant-loop-i
invariant-loop-i g l = record {
  all : with_bytes (take l.i l.read) (hexadecimal_at (g.row.N - l.i) l.left) ≡ hexadecimal_at g.row.N l.bytes;
  len : length l.read ≡ g.row.N;
  within : l.i ≤ g.row.N;
}

abbrev pub decreases-loop-i : goal.decreases-loop-i
decreases-loop-i g l = g.row.N - l.i
