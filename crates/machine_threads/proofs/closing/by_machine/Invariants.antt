use Rattle.std.proofs.Common.{◌≡◌, length}
use Rattle.machine_threads.proofs.Settling.{AreSorted}
use Rattle.machine_threads.proofs.closing.by_machine.Given as goal

-- the receipts so far stand each at the place of its machine
abbrev pub invariant-loop-machine : goal.invariant-loop-machine
invariant-loop-machine l = record {
  as_many : length l.sorted.items ≡ l.machines;
  sorted : AreSorted l.yielded l.sorted.items;
}
