-- What follows from the definitions of machines and runs, for the layers above.
use Rattle.std.specs.Prelude.{◌≡◌, ℕ, zero, suc, ◌+◌, ◌-◌, ◌<◌, Bool, true, false, List, [], ◌∷◌, ◌++◌, length, Option, Some, None, option_and_then, slice_get, cond, refl}
use Rattle.std.proofs.Common.{sym, ap, subst, ◌∙◌, add-one, arith}
use Rattle.std.proofs.lemmas.Option.{slice_get_within}
use Rattle.fdb_calls.specs.declared.Request.{Request}
use Rattle.fdb_calls.specs.declared.Reply.{Reply}
use Rattle.model_machine.specs.declared.Item.{Item}
use Rattle.model_machine.specs.declared.State.{State}
use Rattle.model_machine.specs.declared.State.TheVariants as state
use Rattle.model_machine.specs.Instructions.{instruction_under}
use Rattle.model_machine.specs.Machines.{Machine, Progress, Act, Does, Stops, Asks, silent, acted, next_act, advance_by, advance, replied_act, resumed, resumed_by}
use Rattle.model_machine.specs.WaitLaws.{Errand, AtOnce, errand_of, HasItsItem, effort, room, IsBoundedAct, act_bounded, replied_bounded}
use Rattle.model_machine.specs.Runs.{Run, is_running, has_stopped, rested, at_rest, take_place, run_from}

-- ---- one step of a machine

-- the machine finished one of its instructions, and goes on
pub record Finishes (before : Machine) (progress : Progress) : Type 0 where
  pub silent_is : progress.asks ≡ None
  pub instructions : progress.machine.instructions ≡ before.instructions
  pub next : progress.machine.next ≡ before.next + 1
  pub inside : before.next < length before.instructions

not_running : {A : Type 0} → false ≡ true → A
not_running e = absurd cc

act_running : (machine : Machine) (act : Act) → machine.next < length machine.instructions
    → is_running (acted machine act).machine.state ≡ true → Finishes machine (acted machine act)
act_running machine (Does registers) inside e = record { silent_is = refl; instructions = refl; next = refl; inside = inside }
act_running machine (Stops registers end) inside e = not_running e
act_running machine (Asks registers request awaits) inside e = not_running e

next_running : (machine : Machine) (value : Option (List ℕ)) → slice_get machine.instructions machine.next ≡ value
    → is_running (acted machine (next_act machine value)).machine.state ≡ true
    → Finishes machine (acted machine (next_act machine value))
next_running machine None is e = not_running e
next_running machine (Some value) is e =
    act_running machine (next_act machine (Some value)) (slice_get_within machine.instructions machine.next value is) e

state_running : (state : State) (machine : Machine) → is_running state ≡ true → is_running (advance_by state machine).machine.state ≡ true
    → Finishes machine (advance_by state machine)
state_running state.Running machine was e = next_running machine (slice_get machine.instructions machine.next) refl e
state_running (state.Awaiting awaits) machine was e = not_running was
state_running (state.Stopped end) machine was e = not_running was

-- a running machine that still runs after a step has finished an instruction
pub advance_finishes : (machine : Machine) → is_running machine.state ≡ true → is_running (advance machine).machine.state ≡ true
    → Finishes machine (advance machine)
unfolding advance
advance_finishes machine was e = state_running machine.state machine was e

abbrev pub is_awaiting : State → Bool
is_awaiting state.Running = false
is_awaiting (state.Awaiting awaits) = true
is_awaiting (state.Stopped end) = false

-- a machine that asks awaits the reply
abbrev pub AsksAwaiting : Progress → Type 0
AsksAwaiting progress = (request : Request) → progress.asks ≡ Some request → is_awaiting progress.machine.state ≡ true

-- one that asks nothing awaits none
abbrev pub IsQuiet : Progress → Type 0
IsQuiet progress = progress.asks ≡ None → is_awaiting progress.machine.state ≡ false

act_asks : (machine : Machine) (act : Act) → AsksAwaiting (acted machine act)
act_asks machine (Does registers) request e = absurd cc
act_asks machine (Stops registers end) request e = absurd cc
act_asks machine (Asks registers asked awaits) request e = refl

act_quiet : (machine : Machine) (act : Act) → IsQuiet (acted machine act)
act_quiet machine (Does registers) e = refl
act_quiet machine (Stops registers end) e = refl
act_quiet machine (Asks registers request awaits) e = absurd cc

state_asks : (state : State) (machine : Machine) → AsksAwaiting (advance_by state machine)
state_asks state.Running machine request e = act_asks machine (next_act machine (slice_get machine.instructions machine.next)) request e
state_asks (state.Awaiting awaits) machine request e = absurd cc
state_asks (state.Stopped end) machine request e = absurd cc

pub advance_asks : (machine : Machine) → AsksAwaiting (advance machine)
unfolding advance
advance_asks machine request e = state_asks machine.state machine request e

state_quiet : (state : State) (machine : Machine) → is_running state ≡ true → IsQuiet (advance_by state machine)
state_quiet state.Running machine was e = act_quiet machine (next_act machine (slice_get machine.instructions machine.next)) e
state_quiet (state.Awaiting awaits) machine was e = not_running was
state_quiet (state.Stopped end) machine was e = not_running was

pub advance_quiet : (machine : Machine) → is_running machine.state ≡ true → IsQuiet (advance machine)
unfolding advance
advance_quiet machine was e = state_quiet machine.state machine was e

-- a machine that doesn't run stays as it is
stopped_by : (state : State) (machine : Machine) → is_running state ≡ false → advance_by state machine ≡ silent machine
stopped_by state.Running machine e = absurd cc
stopped_by (state.Awaiting awaits) machine e = refl
stopped_by (state.Stopped end) machine e = refl

pub advance_still : (machine : Machine) → is_running machine.state ≡ false → advance machine ≡ silent machine
unfolding advance
advance_still machine e = stopped_by machine.state machine e

-- where a machine asks, it stands at one of its instructions
pub record AsksInside (before : Machine) (progress : Progress) : Type 0 where
  pub instructions : progress.machine.instructions ≡ before.instructions
  pub next : progress.machine.next ≡ before.next
  pub inside : before.next < length before.instructions

abbrev AsksAt : Machine → Progress → Type 0
AsksAt machine progress = (request : Request) → progress.asks ≡ Some request → AsksInside machine progress

act_at : (machine : Machine) (act : Act) → machine.next < length machine.instructions → AsksAt machine (acted machine act)
act_at machine (Does registers) inside request e = absurd cc
act_at machine (Stops registers end) inside request e = absurd cc
act_at machine (Asks registers asked awaits) inside request e = record { instructions = refl; next = refl; inside = inside }

next_at : (machine : Machine) (value : Option (List ℕ)) → slice_get machine.instructions machine.next ≡ value
    → AsksAt machine (acted machine (next_act machine value))
next_at machine None is request e = absurd cc
next_at machine (Some value) is request e =
    act_at machine (next_act machine (Some value)) (slice_get_within machine.instructions machine.next value is) request e

state_at : (state : State) (machine : Machine) → AsksAt machine (advance_by state machine)
state_at state.Running machine request e = next_at machine (slice_get machine.instructions machine.next) refl request e
state_at (state.Awaiting awaits) machine request e = absurd cc
state_at (state.Stopped end) machine request e = absurd cc

pub advance_asks_inside : (machine : Machine) (request : Request) → (advance machine).asks ≡ Some request
    → AsksInside machine (advance machine)
unfolding advance
advance_asks_inside machine request e = state_at machine.state machine request e

-- ---- waits within an instruction

-- what the reply is used for that a machine awaits
abbrev pub errand_in : State → Errand
errand_in state.Running = AtOnce
errand_in (state.Awaiting awaits) = errand_of awaits
errand_in (state.Stopped end) = AtOnce

-- an item waits, where a machine polls for one
abbrev pub HasItsItemIn : Machine → Type 0
HasItsItemIn machine = HasItsItem (errand_in machine.state) machine.registers.stack

-- what a machine that awaits a reply has still to poll for and to log
abbrev pub effort_in : Machine → ℕ
effort_in machine = effort machine.options.polls (errand_in machine.state) machine.registers.stack

quiet_by : (state : State) (stack : List Item) → is_awaiting state ≡ false → HasItsItem (errand_in state) stack
quiet_by state.Running stack e = tt
quiet_by (state.Awaiting awaits) stack e = absurd cc
quiet_by (state.Stopped end) stack e = tt

-- one that awaits no reply polls for none
pub quiet_item : (machine : Machine) → is_awaiting machine.state ≡ false → HasItsItemIn machine
quiet_item machine e = quiet_by machine.state machine.registers.stack e

-- an item waits also where one is polled for after a step
act_item : (machine : Machine) (bound : ℕ) (act : Act) → IsBoundedAct machine.options.polls bound act → HasItsItemIn (acted machine act).machine
act_item machine bound (Does registers) bounded = tt
act_item machine bound (Stops registers end) bounded = tt
act_item machine bound (Asks registers request awaits) bounded = bounded.waits

next_item : (machine : Machine) (value : Option (List ℕ)) → HasItsItemIn (acted machine (next_act machine value)).machine
next_item machine None = tt
next_item machine (Some value) =
    act_item machine (room machine.options.polls machine.registers.stack) (next_act machine (Some value))
    (act_bounded machine.options.polls machine.next machine.registers (instruction_under machine.options.api value))

state_item : (state : State) (machine : Machine) → HasItsItemIn machine → HasItsItemIn (advance_by state machine).machine
state_item state.Running machine item = next_item machine (slice_get machine.instructions machine.next)
state_item (state.Awaiting awaits) machine item = item
state_item (state.Stopped end) machine item = item

pub advance_item : (machine : Machine) → HasItsItemIn machine → HasItsItemIn (advance machine).machine
unfolding advance
advance_item machine item = state_item machine.state machine item

-- and after a reply
resumed_item_by : (state : State) (machine : Machine) (given : Reply) → machine.state ≡ state → HasItsItemIn machine
    → HasItsItemIn (resumed_by state machine given).machine
resumed_item_by state.Running machine given is item = item
resumed_item_by (state.Awaiting awaits) machine given is item =
    act_item machine (effort machine.options.polls (errand_of awaits) machine.registers.stack) (replied_act awaits machine given)
    (replied_bounded awaits machine given (subst (λ (s : State). HasItsItem (errand_in s) machine.registers.stack) is item))
resumed_item_by (state.Stopped end) machine given is item = item

pub resumed_item : (machine : Machine) (given : Reply) → HasItsItemIn machine → HasItsItemIn (resumed machine given).machine
unfolding resumed
resumed_item machine given item = resumed_item_by machine.state machine given refl item

-- ---- a reply

-- The machine that used a reply has gone on by one instruction; or it asks on within the same one, and has less to poll for and
-- to log; or it has stopped there.
pub data GoesOn (before : Machine) (progress : Progress) : Type 0 where
  Further : (instructions_are : progress.machine.instructions ≡ before.instructions) (next_is : progress.machine.next ≡ before.next + 1)
      (runs : is_running progress.machine.state ≡ true) (silent_is : progress.asks ≡ None) → GoesOn before progress
  Again : (instructions_are : progress.machine.instructions ≡ before.instructions) (next_is : progress.machine.next ≡ before.next)
      (awaits_is : is_awaiting progress.machine.state ≡ true) (asked : Request) (asks_is : progress.asks ≡ Some asked)
      (lighter : effort_in progress.machine < effort_in before) → GoesOn before progress
  Halts : (instructions_are : progress.machine.instructions ≡ before.instructions) (next_is : progress.machine.next ≡ before.next)
      (stops : has_stopped progress.machine.state ≡ true) (silent_is : progress.asks ≡ None) → GoesOn before progress

act_goes : (machine : Machine) (act : Act) → IsBoundedAct machine.options.polls (effort_in machine) act → GoesOn machine (acted machine act)
act_goes machine (Does registers) bounded = Further refl refl refl refl
act_goes machine (Stops registers end) bounded = Halts refl refl refl refl
act_goes machine (Asks registers request awaits) bounded = Again refl refl refl request refl bounded.below

resumed_goes_by : (state : State) (machine : Machine) (given : Reply) → machine.state ≡ state → is_awaiting state ≡ true
    → HasItsItemIn machine → GoesOn machine (resumed_by state machine given)
resumed_goes_by state.Running machine given is e item = not_running e
resumed_goes_by (state.Awaiting awaits) machine given is e item =
    act_goes machine (replied_act awaits machine given)
    (subst (λ (s : State). IsBoundedAct machine.options.polls (effort machine.options.polls (errand_in s) machine.registers.stack)
    (replied_act awaits machine given)) (sym is)
    (replied_bounded awaits machine given (subst (λ (s : State). HasItsItem (errand_in s) machine.registers.stack) is item)))
resumed_goes_by (state.Stopped end) machine given is e item = not_running e

pub resumed_goes : (machine : Machine) (given : Reply) → is_awaiting machine.state ≡ true → HasItsItemIn machine
    → GoesOn machine (resumed machine given)
unfolding resumed
resumed_goes machine given e item = resumed_goes_by machine.state machine given refl e item

-- ---- coming to rest

rested_still : (n : ℕ) (progress : Progress) → is_running progress.machine.state ≡ false → rested n progress ≡ progress
unfolding rested
rested_still zero progress e = refl
rested_still (suc n) progress e = ap (λ b. cond b (rested n (advance progress.machine)) progress) e

rested_once : (n : ℕ) (progress : Progress) → is_running progress.machine.state ≡ true
    → rested (suc n) progress ≡ rested n (advance progress.machine)
unfolding rested
rested_once n progress e = ap (λ b. cond b (rested n (advance progress.machine)) progress) e

-- a machine that doesn't run is at rest
pub at_rest_still : (progress : Progress) → is_running progress.machine.state ≡ false → at_rest progress ≡ progress
unfolding at_rest
at_rest_still progress e = rested_still (length progress.machine.instructions - progress.machine.next + 1) progress e

at_rest_once : (machine : Machine) → is_running machine.state ≡ true
    → at_rest (silent machine) ≡ rested (length machine.instructions - machine.next) (advance machine)
unfolding at_rest
at_rest_once machine e =
    ap (λ n. rested n (silent machine)) (add-one (length machine.instructions - machine.next))
    ∙ rested_once (length machine.instructions - machine.next) (silent machine) e

left_after_one : (i j n m : ℕ) → j ≡ i + 1 → m ≡ n → i < n → n - i ≡ m - j + 1
left_after_one i j n m next same inside = omega arith

-- a step of a running machine leads to the same rest
pub at_rest_advance : (machine : Machine) → is_running machine.state ≡ true → at_rest (silent machine) ≡ at_rest (advance machine)
unfolding at_rest
at_rest_advance machine was = at_rest_once machine was ∙ by_running (is_running (advance machine).machine.state) refl
  where
    by_running : (b : Bool) → is_running (advance machine).machine.state ≡ b
        → rested (length machine.instructions - machine.next) (advance machine)
        ≡ rested (length (advance machine).machine.instructions - (advance machine).machine.next + 1) (advance machine)
    by_running true e =
        let finishes = advance_finishes machine was e in
        ap (λ n. rested n (advance machine)) (left_after_one machine.next (advance machine).machine.next (length machine.instructions)
        (length (advance machine).machine.instructions) finishes.next (ap length finishes.instructions) finishes.inside)
    by_running false e =
        rested_still (length machine.instructions - machine.next) (advance machine) e
        ∙ sym (rested_still (length (advance machine).machine.instructions - (advance machine).machine.next + 1) (advance machine) e)

-- ---- orders

-- a run goes on from the run of the order's front
pub run_from-append : (front rest : List ℕ) (run : Run)
    → run_from (front ++ rest) run ≡ option_and_then (run_from rest) (run_from front run)
unfolding run_from
run_from-append [] rest run = refl
run_from-append (place ∷ front) rest run = run_append (take_place place run) (run_from-append front rest)
  where
    run_append : (next : Option Run) → ((run : Run) → run_from (front ++ rest) run ≡ option_and_then (run_from rest) (run_from front run))
        → option_and_then (run_from (front ++ rest)) next ≡ option_and_then (run_from rest) (option_and_then (run_from front) next)
    run_append None again = refl
    run_append (Some next) again = again next
