-- The words of the ends.
use Rattle.std.specs.Prelude.{ℕ, List, codes}
use Rattle.dump_text.specs.declared.line.EndWord.{EndWord}
use Rattle.dump_text.specs.declared.line.EndWord.TheVariants.{Ended, BadInstruction, Underflow, WaitBound, MachineLimit}

abbrev pub word_of : EndWord → List ℕ
word_of Ended = codes "ended"
word_of BadInstruction = codes "bad-instruction"
word_of Underflow = codes "underflow"
word_of WaitBound = codes "wait-bound"
word_of MachineLimit = codes "machine-limit"
