-- The dump and the summary of suspended machines and of what a store keeps.
use Rattle.std.specs.Prelude.{ℕ, List, ◌++◌, codes, flat_map, length}
use Rattle.std.specs.List.{sum_by}
use Rattle.std.specs.FinMap as finite
use Rattle.model_lines.specs.Inputs.{pair_lines}
use Rattle.model_lines.specs.Printing.{order_line}
use Rattle.model_machine.specs.Runs.{end_line, stack_lines, error_lines}
use Rattle.version_store.specs.Versions.{Versions, at, last_of}
use Rattle.suspended_machine.specs.declared.suspended.SuspendedMachine.{SuspendedMachine}
use Rattle.machine_runs.specs.Summaries.{count_of, summary_line}
use Rattle.machine_runs.specs.declared.summing.Counted.{Counted}
use Rattle.machine_runs.specs.declared.summing.Counted.TheVariants as counted

-- the pairs of the map at the last version, in the order of their keys
abbrev pub newest_pairs : Versions → List (List ℕ × List ℕ)
newest_pairs store = finite.entries (at store (last_of store))

-- how the machine at a suspended machine ended, its stack, and its errors
abbrev pub suspended_end : SuspendedMachine → List ℕ
suspended_end suspended = end_line suspended.machine.machine suspended.machine.machine.state

abbrev pub suspended_stack : SuspendedMachine → List ℕ
suspended_stack suspended = stack_lines suspended.machine.machine

abbrev pub suspended_errors : SuspendedMachine → List ℕ
suspended_errors suspended = error_lines suspended.machine.machine

-- how the machines ended, their stacks, their errors, the order, and the pairs of the map
unfoldable pub dump_of : List SuspendedMachine → List ℕ → List (List ℕ × List ℕ) → List ℕ
dump_of suspended_machines order pairs =
    flat_map suspended_end suspended_machines ++ flat_map suspended_stack suspended_machines ++ flat_map suspended_errors suspended_machines ++ flat_map order_line order ++ pair_lines pairs

-- ---- counts

-- how many a suspended machine has, and how many all have
abbrev pub count_at : Counted → SuspendedMachine → ℕ
count_at which suspended = count_of which suspended.machine.machine

abbrev pub total_at : Counted → List SuspendedMachine → ℕ
total_at which suspended_machines = sum_by (count_at which) suspended_machines

-- the summary
unfoldable pub summary_of : List SuspendedMachine → List ℕ → Versions → List ℕ
summary_of suspended_machines order store =
    summary_line (codes "machines") (length suspended_machines)
    ++ summary_line (codes "instructions") (total_at counted.Instructions suspended_machines)
    ++ summary_line (codes "requests") (length order)
    ++ summary_line (codes "commits") (last_of store)
    ++ summary_line (codes "errors") (total_at counted.Errors suspended_machines)
    ++ summary_line (codes "items") (total_at counted.Items suspended_machines)
    ++ summary_line (codes "keys") (length (newest_pairs store))
