-- What the program's values stand for.
use Rattle.std.specs.Prelude.{ℕ, List, Option, Some, None}
use Rattle.fdb_tuple.specs.declared.tuple.Elem.{Elem}
use Rattle.fdb_tuple.specs.Tuples.{Empty}
use Rattle.fdb_tuple.specs.Listed.{before}
use Rattle.instr_grammar.specs.Texts.{Instruction}

-- an operation's name and the element behind it
abbrev pub instruction_is : List ℕ → Option Elem → Instruction
instruction_is name None = record { name = name; operand = Empty }
instruction_is name (Some element) = record { name = name; operand = before element Empty }
