use Rattle.std.proofs.Common.{All, take}
use Rattle.stack_items.specs.Unpacked.{PacksSome}
use Rattle.stack_items.proofs.tuples.unpack_each.Given as goal

abbrev pub invariant-loop-string : goal.invariant-loop-string
invariant-loop-string l = All PacksSome (take l.string-index l.strings)
