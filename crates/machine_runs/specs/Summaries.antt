-- The summary of a run.
use Rattle.std.specs.Prelude.{ℕ, List, [], ◌∷◌, ◌++◌, length, codes, decimal}
use Rattle.std.specs.List.{sum_by}
use Rattle.std.specs.FinMap as finite
use Rattle.model_database.specs.Histories.{last}
use Rattle.model_lines.specs.Printing.{line_feed}
use Rattle.model_machine.specs.Machines.{Machine, Progress}
use Rattle.model_machine.specs.Runs.{Run}
use Rattle.model_machine.specs.Worlds.{newest}
use Rattle.machine_runs.specs.declared.summing.Counted.{Counted}
use Rattle.machine_runs.specs.declared.summing.Counted.TheVariants as counted

-- a name and a count
abbrev pub summary_line : List ℕ → ℕ → List ℕ
summary_line name count = name ++ codes " " ++ decimal count ++ line_feed ∷ []

-- how many a machine has: instructions that it was started with, errors that it noted, items on its stack
abbrev pub count_of : Counted → Machine → ℕ
count_of counted.Instructions machine = length machine.instructions
count_of counted.Errors machine = length machine.registers.errors
count_of counted.Items machine = length machine.registers.stack

-- and all machines
abbrev pub total_of : Counted → List Progress → ℕ
total_of which machines = sum_by (λ progress. count_of which progress.machine) machines

-- how many machines there are, and how many instructions they were started with; the requests, which are the places of the order; the
-- last version; errors, items and keys, each as many as a dump has lines of them
unfoldable pub summary : List ℕ → Run → List ℕ
summary order run =
    summary_line (codes "machines") (length run.machines)
    ++ summary_line (codes "instructions") (total_of counted.Instructions run.machines)
    ++ summary_line (codes "requests") (length order)
    ++ summary_line (codes "commits") (last run.world.setting.history)
    ++ summary_line (codes "errors") (total_of counted.Errors run.machines)
    ++ summary_line (codes "items") (total_of counted.Items run.machines)
    ++ summary_line (codes "keys") (length (finite.entries (newest run.world)))
