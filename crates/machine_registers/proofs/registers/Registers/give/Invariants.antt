use Rattle.std.proofs.Common.{◌≡◌}
use Rattle.model_machine.specs.StackOperations.{pushed}
use Rattle.model_machine.specs.Machines.{with_stack}
use Rattle.stack_directories.specs.Directing.{AreElements}
use Rattle.machine_registers.proofs.registers.Registers.give.Given as goal

-- the elements so far lie on top, and those that are left are elements
abbrev pub invariant-loop-element : goal.invariant-loop-element
invariant-loop-element l = record {
  lies : l.self ≡ with_stack l.initial.self (pushed l.number l.yielded l.initial.self.stack);
  left : AreElements l.element-iterator.rest.items;
}
