use Rattle.std.proofs.Common.{take}
use Rattle.std.specs.List.{AllByRecursion}
use Rattle.key_bytes.specs.Entries.{entries_of}
use Rattle.instr_text.specs.Taken.{IsPairOfBytes}
use Rattle.instr_text.proofs.disassembling.shows_bytes.Given as goal

abbrev pub invariant-loop-pair : goal.invariant-loop-pair
invariant-loop-pair l = AllByRecursion IsPairOfBytes (entries_of (take l.pair-index l.pairs))
