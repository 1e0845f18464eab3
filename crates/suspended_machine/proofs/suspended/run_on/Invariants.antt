use Rattle.std.proofs.Common.{◌≡◌, ◌≤◌, false}
use Rattle.model_machine.specs.Machines.{silent}
use Rattle.model_machine.specs.Runs.{at_rest}
use Rattle.model_machine.specs.Laws.{is_awaiting}
use Rattle.suspended_machine.specs.SuspendedMachines.{work_left}
use Rattle.suspended_machine.proofs.suspended.run_on.Given as goal

abbrev pub invariant-loop-request : goal.invariant-loop-request
invariant-loop-request l = record {
  rests : at_rest (silent l.machine.machine) ≡ at_rest (silent l.fn.machine.machine);
  ready : l.machine.is_out_of_memory ≡ false;
  silent : is_awaiting l.machine.machine.state ≡ false;
  nearer : work_left l.machine.machine ≤ work_left l.fn.machine.machine;
}

abbrev pub decreases-loop-request : goal.decreases-loop-request
decreases-loop-request l = work_left l.machine.machine
