-- What a machine comes to that runs on, or uses the reply to what it asked.
use Rattle.std.proofs.Common.{◌≡◌, ◌≢◌, ℕ, ◌+◌, ◌-◌, ◌<◌, ◌≤◌, Bool, true, false, cond}
use Rattle.std.proofs.Common.{List, length, Option, Some, None, IsSome, is_some, refl, sym, ap, subst, ◌∙◌, arith}
use Rattle.fdb_calls.specs.declared.Request.{Request}
use Rattle.fdb_calls.specs.declared.Reply.{Reply}
use Rattle.stack_machine.specs.MachineModel.{MachineModel}
use Rattle.stack_machine.specs.Steps.{answer_in, answer_by, answer_of, Moves}
use Rattle.stack_machine.specs.declared.machine.Step.{Step}
use Rattle.stack_machine.specs.declared.machine.Step.TheVariants as step
use Rattle.model_machine.specs.declared.End.{End}
use Rattle.model_machine.specs.declared.State.{State}
use Rattle.model_machine.specs.declared.State.TheVariants as state
use Rattle.model_machine.specs.Machines.{Machine, Progress, silent, advance, resumed}
use Rattle.model_machine.specs.Runs.{at_rest, is_running, has_stopped}
use Rattle.model_machine.specs.Laws.{HasItsItemIn, effort_in, is_awaiting, quiet_item, advance_item, resumed_item, advance_finishes, advance_asks, advance_quiet, advance_still, advance_asks_inside}
use Rattle.model_machine.specs.Laws.{GoesOn as HasUsed, Further, Again, Halts, resumed_goes, at_rest_advance, at_rest_still}
use Rattle.suspended_machine.specs.declared.suspended.SuspendedMachine.{SuspendedMachine}
use Rattle.suspended_machine.specs.SuspendedMachines.{asked_by, with_asked, progress_of, work_left, Awaits, IsNearer, IsSuspended}

-- ---- what an answer of a step says

asked_is : (asks : Option Request) (state : State) → asked_by (answer_by asks state) ≡ asks
asked_is (Some request) state = refl
asked_is None state.Running = refl
asked_is None (state.Awaiting awaits) = refl
asked_is None (state.Stopped end) = refl

-- the machine after a step, with what it asked, is what the step was to lead to
pub moved_is : (old new : MachineModel) (progress : Progress) (answer : Step) → Moves old progress answer new
    → with_asked new.machine (asked_by answer) ≡ progress
moved_is old new progress answer moves =
    ap (λ (m : Machine). with_asked m (asked_by answer)) moves.machine
    ∙ ap (λ (s : Step). with_asked progress.machine (asked_by s)) moves.answer_is
    ∙ ap (with_asked progress.machine) (asked_is progress.asks progress.machine.state)

-- and so with the request that it names
moved_asking : (old new : MachineModel) (progress : Progress) (answer : Step) (asks : Option Request) → Moves old progress answer new
    → asked_by answer ≡ asks → progress ≡ with_asked new.machine asks
moved_asking old new progress answer asks moves e = sym (moved_is old new progress answer moves) ∙ ap (with_asked new.machine) e

-- ---- running on

-- a step without a reply leads to the same rest
advance_rests : (machine : Machine) → at_rest (silent machine) ≡ at_rest (advance machine)
advance_rests machine = by (is_running machine.state) refl
  where
    by : (b : Bool) → is_running machine.state ≡ b → at_rest (silent machine) ≡ at_rest (advance machine)
    by true e = at_rest_advance machine e
    by false e = ap at_rest (sym (advance_still machine e))

-- where it answers otherwise than that the machine has stopped, a machine that awaits nothing runs
runs_by : (state : State) (machine : Machine) → machine.state ≡ state → is_awaiting state ≡ false
    → ((end : End) → answer_of (advance machine) ≢ step.Stopped end) → is_running state ≡ true
runs_by state.Running machine is quiet goes = refl
runs_by (state.Awaiting awaits) machine is quiet goes = absurd cc
runs_by (state.Stopped end) machine is quiet goes =
    absurd (goes end (ap answer_of (advance_still machine (ap is_running is)) ∙ ap answer_in is))

was_running : (old new : MachineModel) (answer : Step) → Moves old (advance old.machine) answer new → is_awaiting old.machine.state ≡ false
    → ((end : End) → answer ≢ step.Stopped end) → is_running old.machine.state ≡ true
was_running old new answer moves quiet goes = runs_by old.machine.state old.machine refl quiet (λ end e. goes end (moves.answer_is ∙ e))

running_not_stopped : (state : State) → is_running state ≡ true → has_stopped state ≡ false
running_not_stopped state.Running e = refl
running_not_stopped (state.Awaiting awaits) e = absurd cc
running_not_stopped (state.Stopped end) e = absurd cc

awaiting_not_stopped : (state : State) → is_awaiting state ≡ true → has_stopped state ≡ false
awaiting_not_stopped state.Running e = absurd cc
awaiting_not_stopped (state.Awaiting awaits) e = refl
awaiting_not_stopped (state.Stopped end) e = absurd cc

-- what is left where a machine has not stopped, and where it has
left_going : (machine : Machine) → has_stopped machine.state ≡ false
    → work_left machine ≡ length machine.instructions - machine.next + 1
left_going machine e = ap (λ b. cond b 0 (length machine.instructions - machine.next + 1)) e

left_stopped : (machine : Machine) → has_stopped machine.state ≡ true → work_left machine ≡ 0
left_stopped machine e = ap (λ b. cond b 0 (length machine.instructions - machine.next + 1)) e

-- a machine that went on by one instruction, or has stopped, has less left
less_left : (before after : Machine) → has_stopped before.state ≡ false → after.instructions ≡ before.instructions
    → after.next ≡ before.next + 1 → before.next < length before.instructions → work_left after < work_left before
less_left before after was same next inside =
    subst (λ n. work_left after < n) (sym (left_going before was)) (by (has_stopped after.state) refl)
  where
    counts : (i j n m left : ℕ) → left ≡ m - j + 1 → j ≡ i + 1 → m ≡ n → i < n → left < n - i + 1
    counts i j n m left is next same inside = omega arith

    none : (left n : ℕ) → left ≡ 0 → left < n + 1
    none left n is = omega arith

    by : (b : Bool) → has_stopped after.state ≡ b → work_left after < length before.instructions - before.next + 1
    by true e = none (work_left after) (length before.instructions - before.next) (left_stopped after e)
    by false e =
        counts before.next after.next (length before.instructions) (length after.instructions) (work_left after) (left_going after e)
        next (ap length same) inside

-- one that has stopped has less left than one that has not
stopped_less : (before after : Machine) → has_stopped before.state ≡ false → has_stopped after.state ≡ true
    → work_left after < work_left before
stopped_less before after was stops = none _ _ _ (left_stopped after stops) (left_going before was)
  where
    none : (left right n : ℕ) → left ≡ 0 → right ≡ n + 1 → left < right
    none left right n is other = omega arith

-- at the same instruction as much is left
same_left : (before after : Machine) → has_stopped before.state ≡ false → has_stopped after.state ≡ false
    → after.instructions ≡ before.instructions → after.next ≡ before.next → work_left after ≡ work_left before
same_left before after was is same next =
    left_going after is ∙ (λ i. length (same i) - next i + 1) ∙ sym (left_going before was)

-- what a step leaves that answers Again: a machine that runs, with less left
pub record RunsOn (before after : Machine) : Type 0 where
  pub awaits_none : is_awaiting after.state ≡ false
  pub nearer : work_left after < work_left before

running_awaits_none : (state : State) → is_running state ≡ true → is_awaiting state ≡ false
running_awaits_none state.Running e = refl
running_awaits_none (state.Awaiting awaits) e = absurd cc
running_awaits_none (state.Stopped end) e = refl

-- one that asks nothing and has not stopped runs on
again_runs : (state : State) → answer_by None state ≡ step.Again → is_awaiting state ≡ false → is_running state ≡ true
again_runs state.Running e quiet = refl
again_runs (state.Awaiting awaits) e quiet = absurd cc
again_runs (state.Stopped end) e quiet = absurd cc

pub turn_again : (old new : MachineModel) (answer : Step) → Moves old (advance old.machine) answer new
    → is_awaiting old.machine.state ≡ false → answer ≡ step.Again → RunsOn old.machine new.machine
turn_again old new answer moves quiet e =
    let was = was_running old new answer moves quiet (λ end h. absurd (let k : step.Again ≡ step.Stopped end = sym e ∙ h in cc)) in
    let silent_is : advance old.machine ≡ silent new.machine =
    moved_asking old new (advance old.machine) answer None moves (ap asked_by e) in
    let asks_none = ap (λ (p : Progress). p.asks) silent_is in
    let awaits_none : is_awaiting new.machine.state ≡ false =
    ap (λ (m : Machine). is_awaiting m.state) moves.machine ∙ advance_quiet old.machine was asks_none in
    let told : answer_by None new.machine.state ≡ step.Again = ap answer_of (sym silent_is) ∙ sym moves.answer_is ∙ e in
    let runs : is_running (advance old.machine).machine.state ≡ true =
    ap (λ (m : Machine). is_running m.state) (sym moves.machine) ∙ again_runs new.machine.state told awaits_none in
    let finishes = advance_finishes old.machine was runs in
    record {
      awaits_none = awaits_none;
      nearer = less_left old.machine new.machine (running_not_stopped old.machine.state was)
          (ap (λ (m : Machine). m.instructions) moves.machine ∙ finishes.instructions)
          (ap (λ (m : Machine). m.next) moves.machine ∙ finishes.next) finishes.inside;
    }

-- what a step leaves that asks: a machine at the same of its instructions, which awaits the reply
pub record ComesToAsk (before after : Machine) : Type 0 where
  pub was_running : is_running before.state ≡ true
  pub awaits : is_awaiting after.state ≡ true
  pub instructions : after.instructions ≡ before.instructions
  pub next : after.next ≡ before.next
  pub inside : before.next < length before.instructions

pub turn_asks : (old new : MachineModel) (answer : Step) (request : Request) → Moves old (advance old.machine) answer new
    → is_awaiting old.machine.state ≡ false → answer ≡ step.Ask request → ComesToAsk old.machine new.machine
turn_asks old new answer request moves quiet e =
    let asking_is : advance old.machine ≡ with_asked new.machine (Some request) =
    moved_asking old new (advance old.machine) answer (Some request) moves (ap asked_by e) in
    let asks = ap (λ (p : Progress). p.asks) asking_is in
    let at = advance_asks_inside old.machine request asks in
    record {
      was_running = was_running old new answer moves quiet
          (λ end h. absurd (let k : step.Ask request ≡ step.Stopped end = sym e ∙ h in cc));
      awaits = ap (λ (m : Machine). is_awaiting m.state) moves.machine ∙ advance_asks old.machine request asks;
      instructions = ap (λ (m : Machine). m.instructions) moves.machine ∙ at.instructions;
      next = ap (λ (m : Machine). m.next) moves.machine ∙ at.next;
      inside = at.inside;
    }

stopped_awaits_none : (state : State) → has_stopped state ≡ true → is_awaiting state ≡ false
stopped_awaits_none state.Running e = refl
stopped_awaits_none (state.Awaiting awaits) e = absurd cc
stopped_awaits_none (state.Stopped end) e = refl

pub stopped_rests : (state : State) → has_stopped state ≡ true → is_running state ≡ false
stopped_rests state.Running e = absurd cc
stopped_rests (state.Awaiting awaits) e = refl
stopped_rests (state.Stopped end) e = refl

awaiting_not_running : (state : State) → is_awaiting state ≡ true → is_running state ≡ false
awaiting_not_running state.Running e = absurd cc
awaiting_not_running (state.Awaiting awaits) e = refl
awaiting_not_running (state.Stopped end) e = absurd cc

-- where it asks, an item waits for which it polls
pub turn_item : (old new : MachineModel) (answer : Step) → Moves old (advance old.machine) answer new
    → is_awaiting old.machine.state ≡ false → HasItsItemIn new.machine
turn_item old new answer moves quiet =
    subst HasItsItemIn (sym moves.machine) (advance_item old.machine (quiet_item old.machine quiet))

same_inside : (before after : Machine) → after.instructions ≡ before.instructions → after.next ≡ before.next
    → before.next < length before.instructions → after.next < length after.instructions
same_inside before after same next inside =
    subst (λ (k : ℕ). k < length after.instructions) (sym next)
    (subst (λ (values : List (List ℕ)). before.next < length values) (sym same) inside)

-- a machine that asks after a step, or has stopped, is at rest
pub record Rests (before : Machine) (suspended : SuspendedMachine) : Type 0 where
  pub rests : progress_of suspended ≡ at_rest (silent before)
  pub is_suspended : IsSuspended suspended
  pub nearer : work_left suspended.machine.machine ≤ work_left before

pub at_most_further : (a b c : ℕ) → a ≤ b → b ≤ c → a ≤ c
at_most_further a b c one other = omega arith

pub below_further : (a b c : ℕ) → a ≤ b → b < c → a < c
below_further a b c one other = omega arith

pub at_most_below : (a b c : ℕ) → a < b → b ≤ c → a ≤ c
at_most_below a b c one other = omega arith

at_most_same : (left right : ℕ) → left ≡ right → left ≤ right
at_most_same left right is = omega arith

at_most_none : (left right : ℕ) → left ≡ 0 → left ≤ right
at_most_none left right is = omega arith

pub asks_rests : (old new : MachineModel) (answer : Step) (request : Request) → Moves old (advance old.machine) answer new
    → is_awaiting old.machine.state ≡ false → answer ≡ step.Ask request → Rests old.machine (record { machine = new; asks = Some request })
asks_rests old new answer request moves quiet e =
    let comes = turn_asks old new answer request moves quiet e in
    let asking_is : advance old.machine ≡ with_asked new.machine (Some request) =
    moved_asking old new (advance old.machine) answer (Some request) moves (ap asked_by e) in
    let still = awaiting_not_running new.machine.state comes.awaits in
    record {
      rests = sym (advance_rests old.machine ∙ ap at_rest asking_is ∙ at_rest_still (with_asked new.machine (Some request)) still);
      is_suspended = record {
        ready = moves.after;
        rests = still;
        awaits = comes.awaits;
        item = turn_item old new answer moves quiet;
        inside = λ awaits. same_inside old.machine new.machine comes.instructions comes.next comes.inside;
      };
      nearer = at_most_same (work_left new.machine) (work_left old.machine) (same_left old.machine new.machine
          (running_not_stopped old.machine.state comes.was_running) (awaiting_not_stopped new.machine.state comes.awaits)
          comes.instructions comes.next);
    }

stopped_is_suspended : (new : MachineModel) → new.is_out_of_memory ≡ false → has_stopped new.machine.state ≡ true
    → IsSuspended (record { machine = new; asks = None })
stopped_is_suspended new ready stops = record {
  ready = ready;
  rests = stopped_rests new.machine.state stops;
  awaits = stopped_awaits_none new.machine.state stops;
  item = quiet_item new.machine (stopped_awaits_none new.machine.state stops);
  inside = λ awaits. absurd (let h : false ≡ true = sym (stopped_awaits_none new.machine.state stops) ∙ awaits in cc);
}

-- an answer that the machine has stopped comes where it has
answer_stopped : (asks : Option Request) (its_state : State) (end : End) → answer_by asks its_state ≡ step.Stopped end
    → (asks ≡ None) × (has_stopped its_state ≡ true)
answer_stopped (Some request) its_state end e = absurd cc
answer_stopped None state.Running end e = absurd cc
answer_stopped None (state.Awaiting awaits) end e = absurd cc
answer_stopped None (state.Stopped other) end e = (refl, refl)

moved_stopped : (old new : MachineModel) (progress : Progress) (answer : Step) (end : End) → Moves old progress answer new
    → answer ≡ step.Stopped end → has_stopped new.machine.state ≡ true
moved_stopped old new progress answer end moves e =
    ap (λ (m : Machine). has_stopped m.state) moves.machine
    ∙ (answer_stopped progress.asks progress.machine.state end (sym moves.answer_is ∙ e)).1

pub stops_rests : (old new : MachineModel) (answer : Step) (end : End) → Moves old (advance old.machine) answer new
    → answer ≡ step.Stopped end → Rests old.machine (record { machine = new; asks = None })
stops_rests old new answer end moves e =
    let stops = moved_stopped old new (advance old.machine) answer end moves e in
    let silent_is : advance old.machine ≡ with_asked new.machine None =
    moved_asking old new (advance old.machine) answer None moves (ap asked_by e) in
    record {
      rests = sym (advance_rests old.machine ∙ ap at_rest silent_is
          ∙ at_rest_still (with_asked new.machine None) (stopped_rests new.machine.state stops));
      is_suspended = stopped_is_suspended new moves.after stops;
      nearer = at_most_none (work_left new.machine) (work_left old.machine) (left_stopped new.machine stops);
    }

-- one that ran an instruction comes to the same rest
pub again_rests : (old new : MachineModel) (answer : Step) → Moves old (advance old.machine) answer new → answer ≡ step.Again
    → at_rest (silent new.machine) ≡ at_rest (silent old.machine)
again_rests old new answer moves e =
    sym (advance_rests old.machine ∙ ap at_rest (moved_asking old new (advance old.machine) answer None moves (ap asked_by e)))

-- ---- a reply

-- the machine has used its reply
pub taken_used : (old new : MachineModel) (given : Reply) (answer : Step) (asks : Option Request)
    → Moves old (resumed old.machine given) answer new → asked_by answer ≡ asks → is_awaiting old.machine.state ≡ true
    → HasItsItemIn old.machine
    → (with_asked new.machine asks ≡ resumed old.machine given) × HasUsed old.machine (with_asked new.machine asks)
taken_used old new given answer asks moves e awaits item =
    let is : resumed old.machine given ≡ with_asked new.machine asks =
    moved_asking old new (resumed old.machine given) answer asks moves e in
    (sym is, subst (HasUsed old.machine) is (resumed_goes old.machine given awaits item))

-- an item waits for which it polls
pub taken_item : (old new : MachineModel) (given : Reply) (answer : Step) → Moves old (resumed old.machine given) answer new
    → HasItsItemIn old.machine → HasItsItemIn new.machine
taken_item old new given answer moves item = subst HasItsItemIn (sym moves.machine) (resumed_item old.machine given item)

-- one that asks on stands at the same instruction, and has less to poll for and to log
pub record AsksOn (before after : Machine) : Type 0 where
  pub instructions : after.instructions ≡ before.instructions
  pub next : after.next ≡ before.next
  pub awaits : is_awaiting after.state ≡ true
  pub lighter : effort_in after < effort_in before

pub used_asks : (before after : Machine) (request : Request) → HasUsed before (with_asked after (Some request)) → AsksOn before after
used_asks before after request (Further instructions next runs silent_is) = absurd cc
used_asks before after request (Again instructions next awaits asked asks_is lighter) =
    record { instructions = instructions; next = next; awaits = awaits; lighter = lighter }
used_asks before after request (Halts instructions next stops silent_is) = absurd cc

-- a suspended machine that asked this
abbrev pub asked_suspended : MachineModel → Request → SuspendedMachine
asked_suspended machine asked = record { machine = machine; asks = Some asked }

-- a machine that used its reply is at rest, and nearer to its end
pub record RestsAfter (suspended : SuspendedMachine) (given : Reply) (asks_on : Bool) (after : SuspendedMachine) : Type 0 where
  pub rests : progress_of after ≡ at_rest (resumed suspended.machine.machine given)
  pub is_suspended : IsSuspended after
  pub nearer : IsNearer asks_on suspended.machine.machine after.machine.machine

suspended_awaits : (suspended : SuspendedMachine) → IsSuspended suspended → IsSome suspended.asks → is_awaiting suspended.machine.machine.state ≡ true
suspended_awaits suspended is_suspended asks = is_suspended.awaits ∙ asks

pub reply_asks : (suspended : SuspendedMachine) (new : MachineModel) (given : Reply) (answer : Step) (request : Request) → IsSuspended suspended → IsSome suspended.asks
    → Moves suspended.machine (resumed suspended.machine.machine given) answer new → answer ≡ step.Ask request
    → RestsAfter suspended given true (record { machine = new; asks = Some request })
reply_asks suspended new given answer request is_suspended asks moves e =
    let old = suspended.machine in
    let was = suspended_awaits suspended is_suspended asks in
    let both = taken_used old new given answer (Some request) moves (ap asked_by e) was is_suspended.item in
    let on = used_asks old.machine new.machine request both.1 in
    let still = awaiting_not_running new.machine.state on.awaits in
    record {
      rests = sym (ap at_rest (sym both.0) ∙ at_rest_still (with_asked new.machine (Some request)) still);
      is_suspended = record {
        ready = moves.after;
        rests = still;
        awaits = on.awaits;
        item = taken_item old new given answer moves is_suspended.item;
        inside = λ awaits. same_inside old.machine new.machine on.instructions on.next (is_suspended.inside was);
      };
      nearer = (
        same_left old.machine new.machine (awaiting_not_stopped old.machine.state was)
            (awaiting_not_stopped new.machine.state on.awaits) on.instructions on.next,
        on.lighter,
      );
    }

pub reply_stops : (suspended : SuspendedMachine) (new : MachineModel) (given : Reply) (answer : Step) (end : End) → IsSuspended suspended → IsSome suspended.asks
    → Moves suspended.machine (resumed suspended.machine.machine given) answer new → answer ≡ step.Stopped end
    → RestsAfter suspended given false (record { machine = new; asks = None })
reply_stops suspended new given answer end is_suspended asks moves e =
    let old = suspended.machine in
    let was = suspended_awaits suspended is_suspended asks in
    let stops = moved_stopped old new (resumed old.machine given) answer end moves e in
    let both = taken_used old new given answer None moves (ap asked_by e) was is_suspended.item in
    record {
      rests = sym (ap at_rest (sym both.0) ∙ at_rest_still (with_asked new.machine None) (stopped_rests new.machine.state stops));
      is_suspended = stopped_is_suspended new moves.after stops;
      nearer = stopped_less old.machine new.machine (awaiting_not_stopped old.machine.state was) stops;
    }

-- one that answers Again awaits nothing, and has fewer instructions left
pub record HasGoneOn (suspended : SuspendedMachine) (given : Reply) (new : MachineModel) : Type 0 where
  pub silent_is : silent new.machine ≡ resumed suspended.machine.machine given
  pub awaits_none : is_awaiting new.machine.state ≡ false
  pub nearer : work_left new.machine < work_left suspended.machine.machine

used_gone : (before after : Machine) → HasUsed before (with_asked after None) → has_stopped before.state ≡ false
    → before.next < length before.instructions → (is_awaiting after.state ≡ false) × (work_left after < work_left before)
used_gone before after (Further instructions next runs silent_is) was inside =
    (running_awaits_none after.state runs, less_left before after was instructions next inside)
used_gone before after (Again instructions next awaits asked asks_is lighter) was inside = absurd cc
used_gone before after (Halts instructions next stops silent_is) was inside =
    (stopped_awaits_none after.state stops, stopped_less before after was stops)

pub reply_goes_on : (suspended : SuspendedMachine) (new : MachineModel) (given : Reply) (answer : Step) → IsSuspended suspended → IsSome suspended.asks
    → Moves suspended.machine (resumed suspended.machine.machine given) answer new → answer ≡ step.Again → HasGoneOn suspended given new
reply_goes_on suspended new given answer is_suspended asks moves e =
    let old = suspended.machine in
    let was = suspended_awaits suspended is_suspended asks in
    let both = taken_used old new given answer None moves (ap asked_by e) was is_suspended.item in
    let gone = used_gone old.machine new.machine both.1 (awaiting_not_stopped old.machine.state was) (is_suspended.inside was) in
    record { silent_is = both.0; awaits_none = gone.0; nearer = gone.1 }

-- a suspended machine that asks something awaits the reply
pub awaits_reply : (suspended : SuspendedMachine) → IsSuspended suspended → IsSome suspended.asks → Awaits suspended.machine
awaits_reply suspended is_suspended asks = by suspended.asks refl
  where
    by : (asked : Option Request) → suspended.asks ≡ asked → Awaits suspended.machine
    by None is = absurd (let none : is_some suspended.asks ≡ false = ap is_some is in let both : true ≡ false = sym asks ∙ none in cc)
    by (Some request) is = record {
      asked = request;
      is_suspended = subst (λ (a : Option Request). IsSuspended (record { machine = suspended.machine; asks = a })) is is_suspended;
    }
