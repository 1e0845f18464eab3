-- What a run renders: the dump, or the summary, and the status where that was written whole.
use Rattle.std.specs.Prelude.{◌≡◌, ℕ, List}
use Rattle.model_commands.specs.declared.args.RunArgs.{RunArgs}
use Rattle.model_machine.specs.Runs.{Run, RunsTo, status_of, dump}
use Rattle.machine_runs.specs.declared.running.Rendered.{Rendered}
use Rattle.machine_runs.specs.Summaries.{summary}

-- the dump and the status of the complete run of the order
pub record Dumps (pairs : List (List ℕ × List ℕ)) (arguments : RunArgs) (order output : List ℕ) (status : ℕ) : Type 0 where
  pub run : Run
  pub runs : RunsTo pairs arguments order run
  pub dump_is : output ≡ dump order run
  pub status_is : status ≡ status_of run

abbrev pub Renders : (pairs : List (List ℕ × List ℕ)) → RunArgs → Rendered → Type 0
Renders pairs arguments rendered = Dumps pairs arguments rendered.order rendered.output.items rendered.status

-- the summary of the complete run of the order, and status 0
pub record Sums (pairs : List (List ℕ × List ℕ)) (arguments : RunArgs) (order output : List ℕ) (status : ℕ) : Type 0 where
  pub run : Run
  pub runs : RunsTo pairs arguments order run
  pub summary_is : output ≡ summary order run
  pub status_is : status ≡ 0

abbrev pub Summarizes : (pairs : List (List ℕ × List ℕ)) → RunArgs → Rendered → Type 0
Summarizes pairs arguments rendered = Sums pairs arguments rendered.order rendered.output.items rendered.status
