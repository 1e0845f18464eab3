-- In a run a machine that asks awaits the reply, so one that has stopped asks nothing.
use Rattle.std.proofs.Common.{◌≡◌, ℕ, zero, suc, ◌+◌, ◌-◌, Bool, true, false, cond, ◌&&◌, List, [], ◌∷◌, ◌++◌, length, Option, Some, None, refl, sym, subst, ◌∙◌}
use Rattle.std.specs.Prelude.{is_some, option_and_then, option_map, slice_get, slice_set}
use Rattle.std.specs.List.{AllByRecursion, list_all}
use Rattle.std.proofs.lemmas.Option.{same_Some}
use Rattle.model_commands.specs.declared.args.RunArgs.{RunArgs}
use Rattle.fdb_calls.specs.declared.Request.{Request}
use Rattle.fdb_calls.specs.declared.Reply.{Reply}
use Rattle.fdb_calls.specs.declared.Reply.TheVariants as reply
use Rattle.model_machine.specs.declared.MachineOptions.{MachineOptions}
use Rattle.model_machine.specs.declared.State.{State}
use Rattle.model_machine.specs.declared.State.TheVariants as state
use Rattle.model_machine.specs.Machines.{Act, Does, Stops, Asks, Machine, Progress, acted, advance, replied_act, resumed, resumed_by, silent}
use Rattle.model_machine.specs.Laws.{AsksAwaiting, advance_asks, is_awaiting}
use Rattle.model_machine.specs.Worlds.{begun, instruction_pairs, newest, step}
use Rattle.model_machine.specs.Runs.{Run, at_rest, has_request, has_stopped, is_complete, is_running, machine_options, replied, rested, run_from, start, start_prefix, started, started_by, take_place, taken}

-- ---- one machine

silent_asks : (machine : Machine) → AsksAwaiting (silent machine)
silent_asks machine request e = absurd cc

acted_asks : (machine : Machine) (act : Act) → AsksAwaiting (acted machine act)
acted_asks machine (Does registers) request e = absurd cc
acted_asks machine (Stops registers end) request e = absurd cc
acted_asks machine (Asks registers asked awaits) request e = refl

resumed_by_asks : (its_state : State) (machine : Machine) (given : Reply) → AsksAwaiting (resumed_by its_state machine given)
resumed_by_asks state.Running machine given = silent_asks machine
resumed_by_asks (state.Awaiting awaits) machine given = acted_asks machine (replied_act awaits machine given)
resumed_by_asks (state.Stopped end) machine given = silent_asks machine

resumed_asks : (machine : Machine) (given : Reply) → AsksAwaiting (resumed machine given)
unfolding resumed
resumed_asks machine given = resumed_by_asks machine.state machine given

rested_asks : (steps : ℕ) (progress : Progress) → AsksAwaiting progress → AsksAwaiting (rested steps progress)
unfolding rested
rested_asks zero progress asks = asks
rested_asks (suc more) progress asks =
    elim (is_running progress.machine.state) as (λ b. AsksAwaiting (cond b (rested more (advance progress.machine)) progress)) [
      | true ↦ rested_asks more (advance progress.machine) (advance_asks progress.machine)
      | false ↦ asks
    ]

at_rest_asks : (progress : Progress) → AsksAwaiting progress → AsksAwaiting (at_rest progress)
unfolding at_rest
at_rest_asks progress asks = rested_asks (length progress.machine.instructions - progress.machine.next + 1) progress asks

-- ---- all machines of a run

abbrev AllAwait : List Progress → Type 0
AllAwait machines = AllByRecursion AsksAwaiting machines

await_set : (machines : List Progress) (number : ℕ) (progress : Progress) → AsksAwaiting progress → AllAwait machines
    → AllAwait (slice_set machines number progress)
await_set [] number progress asks all = tt
await_set (machine ∷ machines) zero progress asks all = (asks, all.1)
await_set (machine ∷ machines) (suc number) progress asks all = (all.0, await_set machines number progress asks all.1)

await_append : (machines more : List Progress) → AllAwait machines → AllAwait more → AllAwait (machines ++ more)
await_append [] more all others = others
await_append (machine ∷ machines) more all others = (all.0, await_append machines more all.1 others)

started_await : (prefix : Option (List ℕ)) (options : MachineOptions) (given : Reply) → AllAwait (started_by prefix options given)
started_await None options given = tt
started_await (Some prefix) options (reply.Started number pairs) =
    (at_rest_asks (silent (started number prefix options pairs)) (silent_asks (started number prefix options pairs)), tt)
started_await (Some prefix) options given = tt

taken_await : (run : Run) (number : ℕ) (progress : Progress) (asks : Option Request) (next : Run) → AllAwait run.machines
    → option_map (λ (request : Request). replied run number progress.machine request (step run.world request)) asks ≡ Some next
    → AllAwait next.machines
taken_await run number progress None next all e = absurd cc
taken_await run number progress (Some request) next all e =
    let stepped = step run.world request in
    let used = at_rest (resumed progress.machine stepped.reply) in
    subst (λ (r : Run). AllAwait r.machines) (same_Some (replied run number progress.machine request stepped) next e)
    (await_append (slice_set run.machines number used) (started_by (start_prefix request) progress.machine.options stepped.reply)
    (await_set run.machines number used
    (at_rest_asks (resumed progress.machine stepped.reply) (resumed_asks progress.machine stepped.reply)) all)
    (started_await (start_prefix request) progress.machine.options stepped.reply))

place_await : (number : ℕ) (run next : Run) → AllAwait run.machines → take_place number run ≡ Some next → AllAwait next.machines
unfolding take_place
place_await number run next all e = by (slice_get run.machines number) e
  where
    by : (found : Option Progress) → option_and_then (λ (progress : Progress). taken run number progress) found ≡ Some next
        → AllAwait next.machines
    by None e = absurd cc
    by (Some progress) e = taken_await run number progress progress.asks next all e

run_await : (order : List ℕ) (run last : Run) → AllAwait run.machines → run_from order run ≡ Some last → AllAwait last.machines
unfolding run_from
run_await [] run last all e = subst (λ (r : Run). AllAwait r.machines) (same_Some run last e) all
run_await (number ∷ order) run last all e = by (λ next awaiting f. run_await order next last awaiting f) (take_place number run) refl e
  where
    by : ((next : Run) → AllAwait next.machines → run_from order next ≡ Some last → AllAwait last.machines)
        → (next : Option Run) → take_place number run ≡ next → option_and_then (λ (r : Run). run_from order r) next ≡ Some last
        → AllAwait last.machines
    by later None is e = absurd cc
    by later (Some next) is e = later next (place_await number run next all is) e

-- ---- a complete run

stopped_awaits_none : (its_state : State) → has_stopped its_state ≡ true → is_awaiting its_state ≡ false
stopped_awaits_none state.Running e = absurd cc
stopped_awaits_none (state.Awaiting awaits) e = absurd cc
stopped_awaits_none (state.Stopped end) e = refl

asks_none : (progress : Progress) (asks : Option Request) → progress.asks ≡ asks → AsksAwaiting progress
    → has_stopped progress.machine.state ≡ true → is_some asks ≡ false
asks_none progress None is awaiting stops = refl
asks_none progress (Some request) is awaiting stops =
    absurd (let both : true ≡ false = sym (awaiting request is) ∙ stopped_awaits_none progress.machine.state stops in cc)

both_of : (a b : Bool) → (a && b) ≡ true → (a ≡ true) × (b ≡ true)
both_of true b e = (refl, e)
both_of false b e = absurd cc

none_of : (machines : List Progress) (number : ℕ) → AllAwait machines
    → list_all (λ (progress : Progress). has_stopped progress.machine.state) machines ≡ true
    → is_some (option_and_then (λ (progress : Progress). progress.asks) (slice_get machines number)) ≡ false
none_of [] number all stops = refl
none_of (machine ∷ machines) zero all stops =
    asks_none machine machine.asks refl all.0
    (both_of (has_stopped machine.machine.state) (list_all (λ (progress : Progress). has_stopped progress.machine.state) machines) stops).0
none_of (machine ∷ machines) (suc number) all stops =
    none_of machines number all.1
    (both_of (has_stopped machine.machine.state) (list_all (λ (progress : Progress). has_stopped progress.machine.state) machines) stops).1

-- machine 0, as it is started
abbrev first_machine : List (List ℕ × List ℕ) → RunArgs → Machine
first_machine pairs arguments =
    started 0 arguments.prefix (machine_options arguments) (instruction_pairs arguments.prefix (newest (begun pairs arguments)))

-- no machine of a complete run has a next request
pub complete_asks_none : (pairs : List (List ℕ × List ℕ)) (arguments : RunArgs) (order : List ℕ) (run : Run)
    → run_from order (start pairs arguments) ≡ Some run → is_complete run ≡ true → (number : ℕ) → has_request run number ≡ false
complete_asks_none pairs arguments order run runs complete number =
    let first = silent (first_machine pairs arguments) in
    none_of run.machines number
    (run_await order (start pairs arguments) run (at_rest_asks first (silent_asks (first_machine pairs arguments)), tt) runs)
    complete
