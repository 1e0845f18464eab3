use Rattle.std.proofs.Common.{◌≡◌, ◌++◌, length}
use Rattle.instr_grammar.specs.Reading.{run_of}
use Rattle.instr_grammar.proofs.string.run_of.Given as goal

-- what was read stands in front of what is read of the bytes that are left
abbrev pub invariant-loop-byte : goal.invariant-loop-byte
invariant-loop-byte l = (l.read.items ++ (run_of l.escaped l.left).0, (run_of l.escaped l.left).1) ≡ run_of l.escaped l.bytes

abbrev pub decreases-loop-byte : goal.decreases-loop-byte
decreases-loop-byte l = length l.left
