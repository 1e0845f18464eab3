use Rattle.std.proofs.Common.{◌≡◌, ◌+◌, ◌++◌, drop, map}
use Rattle.std.specs.List.{enumerate_from}
use Rattle.model_machine.specs.Calls.{log_entry}
use Rattle.stack_items.proofs.logging.entries_from.Given as goal

-- the entries so far, and those of the items that are left, are all
abbrev pub invariant-loop-above : goal.invariant-loop-above
invariant-loop-above l =
    l.entries ++ map log_entry (enumerate_from (l.first + l.above) (drop l.above l.items)) ≡ map log_entry (enumerate_from l.first l.items)
