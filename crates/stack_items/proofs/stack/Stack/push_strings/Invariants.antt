use Rattle.std.proofs.Common.{◌≡◌, map}
use Rattle.fdb_tuple.specs.declared.tuple.Elem.TheVariants as elem
use Rattle.model_machine.specs.StackOperations.{pushed}
use Rattle.stack_items.proofs.stack.Stack.push_strings.Given as goal

abbrev pub invariant-loop-string : goal.invariant-loop-string
invariant-loop-string l = l.self ≡ pushed l.instruction (map elem.Bytes l.yielded) l.initial.self
