use Rattle.std.proofs.Common.{◌≡◌, map}
use Rattle.std.specs.List.{All}
use Rattle.std.specs.Global.{Vec}
use Rattle.fdb_calls.specs.declared.Reply.{Reply}
use Rattle.future_cell.specs.declared.setter.Receipt.{Receipt}
use Rattle.future_cell.specs.declared.wake.Wake.{Wake}
use Rattle.machine_threads.specs.declared.closing.Unsettled.{Unsettled}
use Rattle.machine_threads.proofs.Settling.{IsSettledBy}
use Rattle.machine_threads.proofs.closing.settle_each.Given as goal

-- the machines so far were settled, and are at their suspended machines
abbrev pub invariant-loop-one : goal.invariant-loop-one
invariant-loop-one l = record {
  suspended_machines : l.suspended_machines.items ≡ map (λ (both : Unsettled × Vec (Receipt Reply Wake)). both.0.suspended) l.yielded;
  settled : All IsSettledBy l.yielded;
}
