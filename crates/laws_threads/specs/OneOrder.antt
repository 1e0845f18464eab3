-- Pairs and arguments have one order by turns.
use Rattle.std.specs.Prelude.{◌≡◌, ℕ, List}
use Rattle.model_commands.specs.declared.args.RunArgs.{RunArgs}
use Rattle.model_machine.specs.Runs.{AreByTurns, Run, RunsTo}

-- two orders by turns that lead to complete runs of the same pairs by the same arguments
abbrev pub HaveOneOrder : Type 0
HaveOneOrder = (pairs : List (List ℕ × List ℕ)) (arguments : RunArgs) (order other : List ℕ) (run other_run : Run)
    → RunsTo pairs arguments order run → RunsTo pairs arguments other other_run
    → AreByTurns pairs arguments order → AreByTurns pairs arguments other → order ≡ other
