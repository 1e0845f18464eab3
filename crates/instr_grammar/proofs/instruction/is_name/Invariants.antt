use Rattle.std.proofs.Common.{drop, ◌-◌, ◌≡◌, ◌≤◌}
use Rattle.instr_grammar.specs.Names.{names, is_among}
use Rattle.instr_grammar.proofs.instruction.is_name.Given as goal

abbrev pub invariant-loop-i : goal.invariant-loop-i
invariant-loop-i l = record {
  all : is_among l.bytes (drop l.i names) ≡ is_among l.bytes names;
  within : l.i ≤ 92;
}

abbrev pub decreases-loop-i : goal.decreases-loop-i
decreases-loop-i l = 92 - l.i
