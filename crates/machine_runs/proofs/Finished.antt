-- Where no machine asks the run has ended: what is rendered is its dump and its status.
use Rattle.std.proofs.Common.{◌≡◌, ℕ, zero, suc, true, false, cond, List, [], ◌∷◌, ◌++◌, length, Some, Result, Ok, Err, refl, sym, ap, subst, ◌∙◌, arith}
use Rattle.std.specs.Prelude.{IfOk, is_some, map}
use Rattle.std.specs.declared.alloc.AllocError.{AllocError}
use Rattle.std.specs.List.{flat_map, list_all}
use Rattle.std.specs.FinMap as finite
use Rattle.std.proofs.lemmas.List.Concat.{flat_map-cons}
use Rattle.std.proofs.lemmas.List.Folds.{list_all-map}
use Rattle.std.proofs.lemmas.Option.{none-some, same_Some}
use Rattle.txn_calls.proofs.Stored.{low_inside}
use Rattle.client_core.specs.Stands.{CoreModel, StandsFor}
use Rattle.version_store.specs.Versions.{at, last_of}
use Rattle.model_database.specs.Databases.{Database}
use Rattle.model_database.specs.Histories.{last}
use Rattle.model_lines.specs.Inputs.{pair_lines}
use Rattle.model_lines.specs.Printing.{order_line}
use Rattle.model_machine.specs.declared.State.{State}
use Rattle.model_machine.specs.declared.State.TheVariants as state
use Rattle.model_commands.specs.declared.args.RunArgs.{RunArgs}
use Rattle.model_machine.specs.Worlds.{World, HasWords, begun, instruction_pairs, newest}
use Rattle.model_machine.specs.Machines.{Progress, silent}
use Rattle.model_machine.specs.Laws.{is_awaiting}
use Rattle.model_machine.specs.Runs.{AreByTurns, at_rest, dump, end_line, error_lines, has_ended, has_stopped, is_running, machine_options, run_from, stack_lines, started}
use Rattle.suspended_machine.specs.declared.suspended.SuspendedMachine.{SuspendedMachine}
use Rattle.machine_runs.specs.declared.running.Rendered.{Rendered}
use Rattle.suspended_machine.specs.SuspendedMachines.{progress_of, IsSuspended}
use Rattle.machine_runs.specs.Driving.{asks_at, AreFirst, AreSuspended, IsAtStart, IsFirst, IsGoing, IsStarted, Leads, LeadsByTurns}
use Rattle.machine_runs.specs.Dumps.{dump_of, newest_pairs}
use Rattle.machine_runs.specs.Outputs.{Renders}
use Rattle.machine_runs.proofs.Turns.{none_behind}

-- the map at the last version that a core keeps
abbrev pub kept_map : CoreModel → Database
kept_map core = at core.store (last_of core.store)

pub kept_newest : (core : CoreModel) (world : World) → StandsFor core world → kept_map core ≡ newest world
kept_newest core world stands =
    ap (at core.store) stands.contents.keeps.last_is ∙ stands.contents.keeps.at_is (last world.setting.history) (low_inside world.setting) (omega arith)

-- machine 0, as it is started over what a core keeps, is the one machine of the start
pub is_first : (suspended : SuspendedMachine) (arguments : RunArgs) (core : CoreModel) → IsStarted suspended arguments core → IsFirst suspended arguments core
is_first suspended arguments core is pairs stands =
    ap (λ (d : Database). at_rest (silent (started 0 arguments.prefix (machine_options arguments) (instruction_pairs arguments.prefix d))) ∷ [])
    (sym (kept_newest core (begun pairs arguments) stands))
    ∙ ap (λ (p : Progress). p ∷ []) (sym is)

-- before any request the empty order leads to the start
begins : (pairs : List (List ℕ × List ℕ)) (arguments : RunArgs) (core : CoreModel) (words : ℕ → ℕ) (suspended : SuspendedMachine)
    → StandsFor core (begun pairs arguments)
    → HasWords (begun pairs arguments) words
    → IsStarted suspended arguments core
    → LeadsByTurns pairs arguments core words (suspended ∷ []) [] 0
unfolding run_from
begins pairs arguments core words suspended stands has_words is =
    let world : World = begun pairs arguments in
    record {
      leads = record {
        world = world;
        stands = stands;
        has_words = has_words;
        runs =
            ap (λ (ms : List Progress). Some (record { world = world; machines = ms })) (is_first suspended arguments core is pairs stands);
      };
      turns = λ front rest number run e runs. absurd (none_behind front number rest e);
      from_is = refl;
    }

pub leads_first : (pairs : List (List ℕ × List ℕ)) (arguments : RunArgs) (core : CoreModel) (words : ℕ → ℕ) (suspended_machines : List SuspendedMachine) (order : List ℕ)
    → StandsFor core (begun pairs arguments)
    → HasWords (begun pairs arguments) words
    → AreFirst suspended_machines arguments core → order ≡ []
    → LeadsByTurns pairs arguments core words suspended_machines order 0
leads_first pairs arguments core words suspended_machines order stands has_words first none =
    subst (λ (all : List SuspendedMachine). LeadsByTurns pairs arguments core words all order 0) (sym first.alone)
    (subst (λ (o : List ℕ). LeadsByTurns pairs arguments core words (first.suspended ∷ []) o 0) (sym none)
    (begins pairs arguments core words first.suspended stands has_words first.started))

alone_is_suspended : (suspended : SuspendedMachine) → IsSuspended suspended → AreSuspended (suspended ∷ [])
alone_is_suspended suspended own zero other e = subst IsSuspended (same_Some suspended other e) own
alone_is_suspended suspended own (suc number) other e = absurd (none-some other e)

pub going_first : (pairs : List (List ℕ × List ℕ)) (arguments : RunArgs) (core : CoreModel) (suspended_machines : List SuspendedMachine) (order : List ℕ)
    → StandsFor core (begun pairs arguments) → core.applied ≡ 0 → AreFirst suspended_machines arguments core → order ≡ []
    → IsGoing core suspended_machines order
going_first pairs arguments core suspended_machines order stands unapplied first none =
    let one : length suspended_machines ≡ 1 = ap length first.alone in
    record {
      is_suspended = subst AreSuspended (sym first.alone) (alone_is_suspended first.suspended first.is_suspended);
      counted = unapplied ∙ sym (ap length none);
      started = ap length stands.started ∙ sym one;
      few = omega (arith, one);
    }

-- a run is at its start over a core that was loaded
pub starts_at : (pairs : List (List ℕ × List ℕ)) (arguments : RunArgs) (core : CoreModel) (words : ℕ → ℕ) (suspended : SuspendedMachine)
    → StandsFor core (begun pairs arguments) → HasWords (begun pairs arguments) words → IsFirst suspended arguments core
    → IsAtStart pairs arguments core words suspended
starts_at pairs arguments core words suspended stands has_words first = record {
  stands = stands;
  has_words = has_words;
  starts = first pairs stands;
}

-- before any request the empty order leads to the start
pub leads_alone : (pairs : List (List ℕ × List ℕ)) (arguments : RunArgs) (core : CoreModel) (words : ℕ → ℕ) (suspended : SuspendedMachine) (suspended_machines : List SuspendedMachine)
    (order : List ℕ) → IsAtStart pairs arguments core words suspended → suspended_machines ≡ suspended ∷ [] → order ≡ []
    → LeadsByTurns pairs arguments core words suspended_machines order 0
unfolding run_from
leads_alone pairs arguments core words suspended suspended_machines order at_start alone none =
    subst (λ (all : List SuspendedMachine). LeadsByTurns pairs arguments core words all order 0) (sym alone)
    (subst (λ (o : List ℕ). LeadsByTurns pairs arguments core words (suspended ∷ []) o 0) (sym none) (record {
      leads = record {
        world = begun pairs arguments;
        stands = at_start.stands;
        has_words = at_start.has_words;
        runs = ap (λ (ms : List Progress). Some (record { world = begun pairs arguments; machines = ms })) at_start.starts;
      };
      turns = λ front rest number run e runs. absurd (none_behind front number rest e);
      from_is = refl;
    }))

pub going_alone : (core : CoreModel) (suspended : SuspendedMachine) (suspended_machines : List SuspendedMachine) (order : List ℕ) → IsSuspended suspended → core.applied ≡ 0
    → length core.started ≡ 1 → suspended_machines ≡ suspended ∷ [] → order ≡ [] → IsGoing core suspended_machines order
going_alone core suspended suspended_machines order is_suspended unapplied alone_started alone none =
    let one : length suspended_machines ≡ 1 = ap length alone in
    record {
      is_suspended = subst AreSuspended (sym alone) (alone_is_suspended suspended is_suspended);
      counted = unapplied ∙ sym (ap length none);
      started = alone_started ∙ sym one;
      few = omega (arith, one);
    }

-- ---- the end

at_rest_stopped : (its_state : State) → is_running its_state ≡ false → is_awaiting its_state ≡ false → has_stopped its_state ≡ true
at_rest_stopped state.Running runs awaits = absurd cc
at_rest_stopped (state.Awaiting awaiting) runs awaits = absurd cc
at_rest_stopped (state.Stopped end) runs awaits = refl

-- a machine that asks nothing has stopped
suspended_stopped : (suspended : SuspendedMachine) → IsSuspended suspended → is_some suspended.asks ≡ false → has_stopped suspended.machine.machine.state ≡ true
suspended_stopped suspended is_suspended none = at_rest_stopped suspended.machine.machine.state is_suspended.rests (is_suspended.awaits ∙ none)

pub all_stopped : (suspended_machines : List SuspendedMachine) → AreSuspended suspended_machines → ((number : ℕ) → asks_at suspended_machines number ≡ false)
    → list_all (λ (progress : Progress). has_stopped progress.machine.state) (map progress_of suspended_machines) ≡ true
all_stopped [] all none = refl
all_stopped (suspended ∷ suspended_machines) all none =
    rw (suspended_stopped suspended (all 0 suspended refl) (none 0))
    (all_stopped suspended_machines (λ number other e. all (suc number) other e) (λ number. none (suc number)))

-- ---- what is rendered

flat_map-map : {X Y : Type 0} (f : Y → List ℕ) (g : X → Y) (xs : List X) → flat_map f (map g xs) ≡ flat_map (λ x. f (g x)) xs
flat_map-map f g [] = refl
flat_map-map f g (x ∷ xs) =
    flat_map-cons f (g x) (map g xs) ∙ ap (λ (rest : List ℕ). f (g x) ++ rest) (flat_map-map f g xs)
    ∙ sym (flat_map-cons (λ y. f (g y)) x xs)

abbrev ends : Progress → List ℕ
ends progress = end_line progress.machine progress.machine.state

abbrev stacks : Progress → List ℕ
stacks progress = stack_lines progress.machine

abbrev errors : Progress → List ℕ
errors progress = error_lines progress.machine

dump_is_of : (order : List ℕ) (world : World) (suspended_machines : List SuspendedMachine)
    → dump order (record { world = world; machines = map progress_of suspended_machines }) ≡ dump_of suspended_machines order (finite.entries (newest world))
unfolding dump dump_of
dump_is_of order world suspended_machines =
    let pairs = pair_lines (finite.entries (newest world)) in
    (λ i. flat_map-map ends progress_of suspended_machines i ++ flat_map-map stacks progress_of suspended_machines i ++ flat_map-map errors progress_of suspended_machines i
    ++ flat_map order_line order ++ pairs)

-- where no machine asks, what was rendered is what the run leaves
finishes : (pairs : List (List ℕ × List ℕ)) (arguments : RunArgs) (core : CoreModel) (words : ℕ → ℕ) (suspended_machines : List SuspendedMachine)
    (rendered : Rendered)
    → Leads pairs arguments core words suspended_machines rendered.order → AreSuspended suspended_machines → ((number : ℕ) → asks_at suspended_machines number ≡ false)
    → rendered.output.items ≡ dump_of suspended_machines rendered.order (finite.entries (kept_map core))
    → rendered.status ≡ cond (list_all (λ (suspended : SuspendedMachine). has_ended suspended.machine.machine.state) suspended_machines) 0 3
    → Renders pairs arguments rendered
finishes pairs arguments core words suspended_machines rendered leads is_suspended none dump_is status_is = record {
  run = record { world = leads.world; machines = map progress_of suspended_machines };
  runs = record { runs = leads.runs; complete = all_stopped suspended_machines is_suspended none };
  dump_is =
      dump_is ∙ ap (λ (d : Database). dump_of suspended_machines rendered.order (finite.entries d)) (kept_newest core leads.world leads.stands)
      ∙ sym (dump_is_of rendered.order leads.world suspended_machines);
  status_is = status_is
      ∙ ap (λ b. cond b 0 3) (sym (list_all-map (λ (progress : Progress). has_ended progress.machine.state) progress_of suspended_machines));
}

-- what was rendered of the suspended machines and of the order
pub rendered_finishes : (pairs : List (List ℕ × List ℕ)) (arguments : RunArgs) (core : CoreModel) (words : ℕ → ℕ) (suspended_machines : List SuspendedMachine)
    (order : List ℕ) (rendered : Rendered)
    → Leads pairs arguments core words suspended_machines order → AreSuspended suspended_machines → ((number : ℕ) → asks_at suspended_machines number ≡ false)
    → rendered.order ≡ order → rendered.output.items ≡ dump_of suspended_machines order (newest_pairs core.store)
    → rendered.status ≡ cond (list_all (λ (suspended : SuspendedMachine). has_ended suspended.machine.machine.state) suspended_machines) 0 3
    → Renders pairs arguments rendered
rendered_finishes pairs arguments core words suspended_machines order rendered leads is_suspended none order_is dump_is status_is =
    finishes pairs arguments core words suspended_machines rendered
    (subst (λ (o : List ℕ). Leads pairs arguments core words suspended_machines o) (sym order_is) leads) is_suspended none
    (dump_is ∙ ap (λ (o : List ℕ). dump_of suspended_machines o (newest_pairs core.store)) (sym order_is)) status_is

-- and so where memory may have run out
pub run_renders : (pairs : List (List ℕ × List ℕ)) (arguments : RunArgs) (core : CoreModel) (words : ℕ → ℕ) (suspended_machines : List SuspendedMachine)
    (order : List ℕ) (result : Result Rendered AllocError)
    → Leads pairs arguments core words suspended_machines order → AreSuspended suspended_machines → ((number : ℕ) → asks_at suspended_machines number ≡ false)
    → IfOk result (λ rendered. rendered.order ≡ order)
    → IfOk result (λ rendered. rendered.output.items ≡ dump_of suspended_machines order (newest_pairs core.store))
    → IfOk result (λ rendered. rendered.status ≡ cond (list_all (λ (suspended : SuspendedMachine). has_ended suspended.machine.machine.state) suspended_machines) 0 3)
    → IfOk result (Renders pairs arguments)
run_renders pairs arguments core words suspended_machines order (Ok rendered) leads is_suspended none order_is dump_is status_is =
    rendered_finishes pairs arguments core words suspended_machines order rendered leads is_suspended none order_is dump_is status_is
run_renders pairs arguments core words suspended_machines order (Err short) leads is_suspended none order_is dump_is status_is = tt

pub run_turns : (pairs : List (List ℕ × List ℕ)) (arguments : RunArgs) (order : List ℕ) (result : Result Rendered AllocError)
    → AreByTurns pairs arguments order → IfOk result (λ rendered. rendered.order ≡ order)
    → IfOk result (λ rendered. AreByTurns pairs arguments rendered.order)
run_turns pairs arguments order (Ok rendered) turns is = subst (λ (o : List ℕ). AreByTurns pairs arguments o) (sym is) turns
run_turns pairs arguments order (Err short) turns is = tt
