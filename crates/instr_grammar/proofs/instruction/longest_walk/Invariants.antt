use Rattle.std.proofs.Common.{drop, ◌-◌, ◌≡◌, ◌≤◌, length, max}
use Rattle.std.specs.Prelude.{codes, ◌∷◌}
use Rattle.instr_grammar.specs.Names.{names, longest}
use Rattle.instr_grammar.proofs.instruction.longest_walk.Given as goal

abbrev pub invariant-loop-i : goal.invariant-loop-i
invariant-loop-i l = record {
  all : max l.longest (longest (drop l.i names) l.bytes) ≡ longest (codes "PUSH " ∷ names) l.bytes;
  within : l.i ≤ 92;
  inside : l.longest ≤ length l.bytes;
}

abbrev pub decreases-loop-i : goal.decreases-loop-i
decreases-loop-i l = 92 - l.i
