use Rattle.std.proofs.Common.{◌≡◌, ◌<◌, ◌++◌, length, map}
use Rattle.request_line.specs.Line.{receiver_line, taken, closed}
use Rattle.request_line.specs.Taking.{Agrees}
use Rattle.machine_threads.specs.declared.closing.Unsettled.{Unsettled}
use Rattle.threaded_machine.specs.declared.threaded.ThreadedMachine.{ThreadedMachine}
use Rattle.threaded_machine.specs.Threaded.{history_of}
use Rattle.machine_threads.proofs.closing.close_all.Given as goal

-- the senders of the machines so far were closed
abbrev pub invariant-loop-one : goal.invariant-loop-one
invariant-loop-one l = record {
  line_is : receiver_line l.receiver ≡ receiver_line l.fn.receiver;
  closed_are : closed l.receiver ≡ closed l.fn.receiver ++ map history_of l.yielded;
  agree : 0 < length l.yielded → Agrees (taken l.receiver) (closed l.receiver);
  taken_are : taken l.receiver ≡ taken l.fn.receiver;
  suspended_machines : map (λ (one : Unsettled). one.suspended) l.unsettled.items ≡ map (λ (one : ThreadedMachine). one.suspended) l.yielded;
  waiters : map (λ (one : Unsettled). one.waiters.items) l.unsettled.items ≡ map (λ (one : ThreadedMachine). one.waiters.items) l.yielded;
}
