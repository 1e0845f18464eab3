use Rattle.std.proofs.Common.{◌≡◌, ◌++◌, take}
use Rattle.instr_grammar.specs.Texts.{in_hexadecimal}
use Rattle.instr_grammar.proofs.writing.put_hexadecimal.Given as goal

abbrev pub invariant-loop-byte : goal.invariant-loop-byte
invariant-loop-byte l = l.to.items ≡ l.initial.to.items ++ in_hexadecimal (take l.byte-index l.bytes)
