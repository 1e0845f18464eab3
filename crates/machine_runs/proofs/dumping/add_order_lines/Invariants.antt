use Rattle.std.proofs.Common.{◌≡◌, ◌++◌, take}
use Rattle.std.specs.List.{flat_map}
use Rattle.model_lines.specs.Printing.{order_line}
use Rattle.machine_runs.proofs.dumping.add_order_lines.Given as goal

abbrev pub invariant-loop-machine : goal.invariant-loop-machine
invariant-loop-machine l = l.to.items ≡ l.fn.to.items ++ flat_map order_line (take l.machine-index l.machine-items)
