use Rattle.std.proofs.Common.{◌≡◌}
use Rattle.key_bytes.specs.Entries.{entries_of}
use Rattle.stack_machine.specs.MachineModel.{values_of}
use Rattle.stack_machine.proofs.machine.values_of.Given as goal

abbrev pub invariant-loop-pair : goal.invariant-loop-pair
invariant-loop-pair l = l.values.items ≡ values_of (entries_of l.yielded)
