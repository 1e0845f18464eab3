-- What is summed of the suspended machines is the summary of the run.
use Rattle.std.proofs.Common.{◌≡◌, ℕ, ◌+◌, false, List, [], ◌∷◌, ◌++◌, fold, length, map, Result, Ok, Err, refl, sym, ap, ◌∙◌, subst}
use Rattle.std.specs.Prelude.{IfOk, codes}
use Rattle.std.proofs.lemmas.List.{length-map}
use Rattle.std.specs.declared.alloc.AllocError.{AllocError}
use Rattle.std.specs.FinMap as finite
use Rattle.client_core.specs.Stands.{CoreModel, StandsFor}
use Rattle.model_commands.specs.declared.args.RunArgs.{RunArgs}
use Rattle.model_machine.specs.Machines.{Progress}
use Rattle.model_machine.specs.Worlds.{World}
use Rattle.suspended_machine.specs.declared.suspended.SuspendedMachine.{SuspendedMachine}
use Rattle.suspended_machine.specs.SuspendedMachines.{progress_of}
use Rattle.machine_runs.specs.declared.running.Rendered.{Rendered}
use Rattle.machine_runs.specs.declared.summing.Counted.{Counted}
use Rattle.machine_runs.specs.declared.summing.Counted.TheVariants as counted
use Rattle.machine_runs.specs.Driving.{asks_at, AreSuspended, Leads}
use Rattle.machine_runs.specs.Outputs.{Summarizes}
use Rattle.machine_runs.specs.Dumps.{count_at, summary_of, total_at}
use Rattle.machine_runs.specs.Summaries.{count_of, summary, summary_line, total_of}
use Rattle.machine_runs.proofs.Finished.{all_stopped, kept_newest}

total_from : (which : Counted) (count : ℕ) (suspended_machines : List SuspendedMachine)
    → fold (λ (sum : ℕ) (progress : Progress). sum + count_of which progress.machine) count (map progress_of suspended_machines)
    ≡ fold (λ (sum : ℕ) (suspended : SuspendedMachine). sum + count_at which suspended) count suspended_machines
total_from which count [] = refl
total_from which count (suspended ∷ suspended_machines) = total_from which (count + count_at which suspended) suspended_machines

total_is : (which : Counted) (suspended_machines : List SuspendedMachine) → total_of which (map progress_of suspended_machines) ≡ total_at which suspended_machines
total_is which suspended_machines = total_from which 0 suspended_machines

summary_is_of : (core : CoreModel) (world : World) (suspended_machines : List SuspendedMachine) (order : List ℕ) → StandsFor core world
    → summary_of suspended_machines order core.store ≡ summary order (record { world = world; machines = map progress_of suspended_machines })
unfolding summary summary_of
summary_is_of core world suspended_machines order stands =
    λ i. summary_line (codes "machines") (sym (length-map suspended_machines progress_of) i)
    ++ summary_line (codes "instructions") (sym (total_is counted.Instructions suspended_machines) i)
    ++ summary_line (codes "requests") (length order)
    ++ summary_line (codes "commits") (stands.contents.keeps.last_is i)
    ++ summary_line (codes "errors") (sym (total_is counted.Errors suspended_machines) i)
    ++ summary_line (codes "items") (sym (total_is counted.Items suspended_machines) i)
    ++ summary_line (codes "keys") (length (finite.entries (kept_newest core world stands i)))

-- where no machine asks, what was summed is the summary of the run
summed : (pairs : List (List ℕ × List ℕ)) (arguments : RunArgs) (core : CoreModel) (words : ℕ → ℕ) (suspended_machines : List SuspendedMachine) (order : List ℕ)
    (rendered : Rendered) → Leads pairs arguments core words suspended_machines rendered.order → AreSuspended suspended_machines
    → ((number : ℕ) → asks_at suspended_machines number ≡ false) → rendered.order ≡ order → rendered.output.items ≡ summary_of suspended_machines order core.store
    → rendered.status ≡ 0 → Summarizes pairs arguments rendered
summed pairs arguments core words suspended_machines order rendered leads is_suspended none order_is summary_is status_is = record {
  run = record { world = leads.world; machines = map progress_of suspended_machines };
  runs = record { runs = leads.runs; complete = all_stopped suspended_machines is_suspended none };
  summary_is =
      summary_is ∙ ap (λ (o : List ℕ). summary_of suspended_machines o core.store) (sym order_is)
      ∙ summary_is_of core leads.world suspended_machines rendered.order leads.stands;
  status_is = status_is;
}

-- and so where memory may have run out
pub run_summarizes : (pairs : List (List ℕ × List ℕ)) (arguments : RunArgs) (core : CoreModel) (words : ℕ → ℕ) (suspended_machines : List SuspendedMachine)
    (order : List ℕ) (result : Result Rendered AllocError)
    → Leads pairs arguments core words suspended_machines order → AreSuspended suspended_machines → ((number : ℕ) → asks_at suspended_machines number ≡ false)
    → IfOk result (λ rendered. rendered.order ≡ order)
    → IfOk result (λ rendered. rendered.output.items ≡ summary_of suspended_machines order core.store)
    → IfOk result (λ rendered. rendered.status ≡ 0) → IfOk result (Summarizes pairs arguments)
run_summarizes pairs arguments core words suspended_machines order (Ok rendered) leads is_suspended none order_is summary_is status_is =
    summed pairs arguments core words suspended_machines order rendered (subst (λ (o : List ℕ). Leads pairs arguments core words suspended_machines o) (sym order_is) leads)
    is_suspended none order_is summary_is status_is
run_summarizes pairs arguments core words suspended_machines order (Err short) leads is_suspended none order_is summary_is status_is = tt
