use Rattle.std.proofs.Common.{◌≡◌, ◌+◌, ◌≤◌, drop}
use Rattle.key_bytes.specs.Entries.{entries_of}
use Rattle.instr_grammar.specs.Taking.{disassembled}
use Rattle.instr_text.proofs.TakingSteps.{StandsIn}
use Rattle.instr_text.proofs.disassembling.take_all.Given as goal

abbrev pub invariant-loop-pair : goal.invariant-loop-pair
invariant-loop-pair l = record {
  stands : StandsIn l.taker l.line l.text.items (drop l.pair-index l.pair-items) (disassembled (entries_of l.pair-items));
  line : l.line ≡ l.pair-index + 1;
  index : l.taker.index ≤ l.pair-index;
}
