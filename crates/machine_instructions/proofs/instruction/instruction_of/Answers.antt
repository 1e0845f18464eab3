use Rattle.std.proofs.Common.{subst, sym}
use Rattle.std.specs.List.{AllByRecursion}
use Rattle.fdb_tuple.specs.Listed.{IsElement}
use Rattle.machine_instructions.proofs.Elements.{elements_are}
use Rattle.machine_instructions.proofs.instruction.instruction_of.Goals as goal

pub instruction_in-requires : goal.instruction_in-requires
instruction_in-requires c = subst (AllByRecursion IsElement) (sym c.into_vec.ensures.elements) (elements_are c.in-Ok.tuple c.in-Ok.ensures.found.0.1)
