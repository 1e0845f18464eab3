use Rattle.std.proofs.Common.{◌≡◌, [], length}
use Rattle.std.specs.List.{All}
use Rattle.std.specs.Global.{Vec}
use Rattle.fdb_calls.specs.declared.Reply.{Reply}
use Rattle.future_cell.specs.declared.setter.Receipt.{Receipt}
use Rattle.future_cell.specs.declared.wake.Wake.{Wake}
use Rattle.machine_threads.proofs.closing.none_yet.Given as goal

abbrev pub invariant-loop : goal.invariant-loop
invariant-loop l = record {
  as_many : length l.sorted.items ≡ l.counter;
  none : All (λ (own : Vec (Receipt Reply Wake)). own.items ≡ []) l.sorted.items;
}
