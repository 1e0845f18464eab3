-- What an instruction pushes.
use Rattle.std.specs.Prelude.{Option, Some, ⊤}
use Rattle.fdb_tuple.specs.Listed.{IsElement}
use Rattle.model_machine.specs.declared.Instruction.{Instruction}
use Rattle.model_machine.specs.declared.Instruction.TheVariants as instruction

-- a PUSH has an element of a tuple
abbrev pub PushesAnElement : Option Instruction → Type 0
PushesAnElement (Some (instruction.Push element)) = IsElement element
PushesAnElement _ = ⊤
