-- A request that is taken leads a run on.
use Rattle.std.proofs.Common.{◌≡◌, ◌≢◌, ℕ, ◌+◌, ◌≤◌, List, [], ◌∷◌, ◌++◌, length, Option, Some, None, refl, sym, ap, subst, ◌∙◌, length-append}
use Rattle.std.proofs.lemmas.List.{append-nil, length-set, map-append, map-set}
use Rattle.std.specs.Prelude.{IfSome, map, option_and_then, option_map, option_to_list, slice_get, slice_set}
use Rattle.std.proofs.lemmas.Option.{slice_get-map}
use Rattle.fdb_calls.specs.declared.Request.{Request}
use Rattle.fdb_calls.specs.declared.Reply.{Reply}
use Rattle.fdb_calls.specs.declared.Reply.TheVariants as reply
use Rattle.client_core.specs.Stands.{CoreModel, HasStarted, StandsFor, Answers}
use Rattle.model_machine.specs.declared.MachineOptions.{MachineOptions}
use Rattle.model_machine.specs.Worlds.{World, Stepped, HasWords, step as world_step}
use Rattle.model_machine.specs.Machines.{Progress, resumed}
use Rattle.model_machine.specs.Runs.{AreByTurns, HasTurn, Run, at_rest, replied, run_from, start, start_prefix, started_by, take_place, taken, turn_after}
use Rattle.model_machine.specs.declared.TheConstants.{MACHINES}
use Rattle.model_machine.specs.Laws.{run_from-append}
use Rattle.suspended_machine.specs.declared.suspended.SuspendedMachine.{SuspendedMachine}
use Rattle.suspended_machine.specs.SuspendedMachines.{progress_of, IsSuspended}
use Rattle.machine_runs.specs.declared.driving.Moved.{Moved}
use Rattle.machine_runs.specs.Driving.{GoesOn, GoesOnByTurns, HasUsed, IsGoing, IsNextInTurn}
use Rattle.machine_runs.proofs.SuspendedMachines.{has_turn, is_suspended_more, is_suspended_set}
use Rattle.machine_runs.proofs.Turns.{turns_longer, turn_after-longer}

pub stands_after : (given : Reply) (core : CoreModel) (words : ℕ → ℕ) (stepped : Stepped) → given ≢ reply.NoMemory
    → Answers given core words stepped
    → (stepped.reply ≡ given) × StandsFor core stepped.world × HasWords stepped.world words
stands_after reply.Done core words stepped is answers = answers
stands_after (reply.Value value) core words stepped is answers = answers
stands_after (reply.KeyIs key) core words stepped is answers = answers
stands_after (reply.PairsAre pairs) core words stepped is answers = answers
stands_after (reply.Version version) core words stepped is answers = answers
stands_after (reply.Life life) core words stepped is answers = answers
stands_after (reply.Stamp stamp) core words stepped is answers = answers
stands_after reply.NotYet core words stepped is answers = answers
stands_after (reply.Fault code) core words stepped is answers = answers
stands_after reply.Empty core words stepped is answers = answers
stands_after (reply.Started machine instructions) core words stepped is answers = answers
stands_after (reply.Dir answer) core words stepped is answers = answers
stands_after (reply.DirFault fault) core words stepped is answers = answers
stands_after reply.NoMachine core words stepped is answers = answers
stands_after reply.NoMemory core words stepped is answers = absurd (is refl)

-- an order of one place
run_from-one : (number : ℕ) (run : Run) → run_from (number ∷ []) run ≡ take_place number run
unfolding run_from
run_from-one number run = by (take_place number run)
  where
    by : (next : Option Run) → option_and_then (run_from []) next ≡ next
    by None = refl
    by (Some next) = refl

abbrev run_of : World → List SuspendedMachine → Run
run_of world suspended_machines = record { world = world; machines = map progress_of suspended_machines }

-- the request of a suspended machine is taken
place_taken : (world : World) (suspended_machines : List SuspendedMachine) (number : ℕ) (suspended : SuspendedMachine) (request : Request) → slice_get suspended_machines number ≡ Some suspended
    → suspended.asks ≡ Some request
    → take_place number (run_of world suspended_machines)
    ≡ Some (replied (run_of world suspended_machines) number suspended.machine.machine request (world_step world request))
unfolding take_place
place_taken world suspended_machines number suspended request is asks =
    ap (option_and_then (λ (progress : Progress). taken (run_of world suspended_machines) number progress))
    (slice_get-map progress_of suspended_machines number ∙ ap (option_map progress_of) is)
    ∙ ap (option_map (λ (given : Request). replied (run_of world suspended_machines) number suspended.machine.machine given (world_step world given))) asks

-- what a request comes to that is taken
pub record Takes (core : CoreModel) (words : ℕ → ℕ) (suspended_machines : List SuspendedMachine) (order : List ℕ) (number : ℕ) (core_after : CoreModel)
    (words_after : ℕ → ℕ) (suspended_machines_after : List SuspendedMachine) (order_after : List ℕ) : Type 0 where
  pub suspended : SuspendedMachine
  pub suspended_is : slice_get suspended_machines number ≡ Some suspended
  pub request : Request
  pub asks : suspended.asks ≡ Some request
  pub given : Reply
  pub is_given : given ≢ reply.NoMemory
  pub answers : (world : World) → StandsFor core world → HasWords world words
      → Answers given core_after words_after (world_step world request)
  pub used : Progress
  pub used_is : used ≡ at_rest (resumed suspended.machine.machine given)
  pub suspended_machines_are : map progress_of suspended_machines_after ≡ slice_set (map progress_of suspended_machines) number used ++ started_by (start_prefix request) suspended.machine.machine.options given
  pub order_is : order_after ≡ order ++ number ∷ []

-- it is one more place of the order
pub taken_goes_on : (core core_after : CoreModel) (words words_after : ℕ → ℕ) (suspended_machines suspended_machines_after : List SuspendedMachine) (order order_after : List ℕ)
    (number : ℕ) → Takes core words suspended_machines order number core_after words_after suspended_machines_after order_after
    → GoesOn core words suspended_machines order core_after words_after suspended_machines_after order_after
taken_goes_on core core_after words words_after suspended_machines suspended_machines_after order order_after number takes pairs arguments leads =
    let run = run_of leads.world suspended_machines in
    let stepped = world_step leads.world takes.request in
    let options = takes.suspended.machine.machine.options in
    let answered = stands_after takes.given core_after words_after stepped takes.is_given
    (takes.answers leads.world leads.stands leads.has_words) in
    let machines : slice_set (map progress_of suspended_machines) number (at_rest (resumed takes.suspended.machine.machine stepped.reply))
    ++ started_by (start_prefix takes.request) options stepped.reply ≡ map progress_of suspended_machines_after =
    (λ i. slice_set (map progress_of suspended_machines) number (at_rest (resumed takes.suspended.machine.machine (answered.0 i)))
    ++ started_by (start_prefix takes.request) options (answered.0 i))
    ∙ (λ i. slice_set (map progress_of suspended_machines) number (sym takes.used_is i) ++ started_by (start_prefix takes.request) options takes.given)
    ∙ sym takes.suspended_machines_are in
    record {
      world = stepped.world;
      stands = answered.1;
      has_words = answered.2;
      runs = ap (λ o. run_from o (start pairs arguments)) takes.order_is
          ∙ run_from-append order (number ∷ []) (start pairs arguments)
          ∙ ap (option_and_then (run_from (number ∷ []))) leads.runs
          ∙ run_from-one number run
          ∙ place_taken leads.world suspended_machines number takes.suspended takes.request takes.suspended_is takes.asks
          ∙ ap (λ (ms : List Progress). Some (record { world = stepped.world; machines = ms })) machines;
    }

-- and by turns, where it was the turn of the machine whose request it is
pub taken_by_turns : (core core_after : CoreModel) (words words_after : ℕ → ℕ) (suspended_machines suspended_machines_after : List SuspendedMachine) (order order_after : List ℕ)
    (from number : ℕ) → GoesOn core words suspended_machines order core_after words_after suspended_machines_after order_after → order_after ≡ order ++ number ∷ []
    → IsNextInTurn suspended_machines from (Some number)
    → GoesOnByTurns core words suspended_machines order from core_after words_after suspended_machines_after order_after (number + 1)
taken_by_turns core core_after words words_after suspended_machines suspended_machines_after order order_after from number goes_on order_is turn pairs arguments led =
    let run = run_of led.leads.world suspended_machines in
    record {
      leads = goes_on pairs arguments led.leads;
      turns = subst (λ (o : List ℕ). AreByTurns pairs arguments o) (sym order_is)
          (turns_longer pairs arguments order run number led.turns led.leads.runs
          (subst (λ n. HasTurn n run number) (sym led.from_is) (has_turn led.leads.world suspended_machines from number turn)));
      from_is = ap turn_after order_is ∙ turn_after-longer order number;
    }

-- no machine was started where none was added
none_is_suspended : (prefix : Option (List ℕ)) (options : MachineOptions) (given : Reply) (old new : List (List ℕ)) → started_by prefix options given ≡ []
    → given ≢ reply.NoMemory → HasStarted prefix given old new → length new ≡ length old
none_is_suspended None options given old new none is counted = counted
none_is_suspended (Some prefix) options (reply.Started machine instructions) old new none is counted = absurd cc
none_is_suspended (Some prefix) options reply.NoMemory old new none is counted = absurd (is refl)
none_is_suspended (Some prefix) options given old new none is counted = counted

-- one was started where one was added
one_is_suspended : (prefix : Option (List ℕ)) (options : MachineOptions) (given : Reply) (old new : List (List ℕ)) (progress : Progress)
    → progress ∷ [] ≡ started_by prefix options given → HasStarted prefix given old new
    → (length new ≡ length old + 1) × (length new ≤ MACHINES)
one_is_suspended None options given old new progress is counted = absurd cc
one_is_suspended (Some prefix) options (reply.Started machine instructions) old new progress is counted = counted
one_is_suspended (Some prefix) options given old new progress is counted = absurd cc

-- what is so after a request by which no machine was started
going_on : (core core_after : CoreModel) (suspended_machines : List SuspendedMachine) (order order_after : List ℕ) (number : ℕ) (used : SuspendedMachine)
    (prefix : Option (List ℕ)) (options : MachineOptions) (given : Reply)
    → IsGoing core suspended_machines order → IsSuspended used → core_after.applied ≡ core.applied + 1 → order_after ≡ order ++ number ∷ []
    → started_by prefix options given ≡ [] → given ≢ reply.NoMemory → HasStarted prefix given core.started core_after.started
    → IsGoing core_after (slice_set suspended_machines number used) order_after
going_on core core_after suspended_machines order order_after number used prefix options given going own applied order_is none is counted = record {
  is_suspended = is_suspended_set suspended_machines number used going.is_suspended own;
  counted = applied ∙ ap (λ n. n + 1) going.counted ∙ sym (ap length order_is ∙ length-append order (number ∷ []));
  started = none_is_suspended prefix options given core.started core_after.started none is counted ∙ going.started ∙ sym (length-set suspended_machines number used);
  few = subst (λ n. n ≤ MACHINES) (sym (length-set suspended_machines number used)) going.few;
}

-- what is so after a request by which a machine was started, which was added
going_more : (core core_after : CoreModel) (suspended_machines : List SuspendedMachine) (order order_after : List ℕ) (number : ℕ) (used started : SuspendedMachine)
    (prefix : Option (List ℕ)) (options : MachineOptions) (given : Reply)
    → IsGoing core suspended_machines order → IsSuspended used → IsSuspended started → core_after.applied ≡ core.applied + 1 → order_after ≡ order ++ number ∷ []
    → progress_of started ∷ [] ≡ started_by prefix options given → HasStarted prefix given core.started core_after.started
    → IsGoing core_after (slice_set suspended_machines number used ++ started ∷ []) order_after
going_more core core_after suspended_machines order order_after number used started prefix options given going own other applied order_is is has_started =
    let suspended_machines_before = slice_set suspended_machines number used in
    let counted = one_is_suspended prefix options given core.started core_after.started (progress_of started) is has_started in
    let longer : length (suspended_machines_before ++ started ∷ []) ≡ length core_after.started =
    length-append suspended_machines_before (started ∷ []) ∙ ap (λ n. n + 1) (length-set suspended_machines number used ∙ sym going.started) ∙ sym counted.0 in
    record {
      is_suspended = is_suspended_more suspended_machines_before started (is_suspended_set suspended_machines number used going.is_suspended own) other;
      counted = applied ∙ ap (λ n. n + 1) going.counted ∙ sym (ap length order_is ∙ length-append order (number ∷ []));
      started = sym longer;
      few = subst (λ n. n ≤ MACHINES) (sym longer) counted.1;
    }

-- what is so after a request, whether it started a machine or not
pub going_used : (core core_after : CoreModel) (suspended_machines suspended_machines_after : List SuspendedMachine) (order order_after : List ℕ) (number : ℕ)
    (prefix : Option (List ℕ)) (given : Reply) (came : Moved)
    → IsGoing core suspended_machines order → HasUsed prefix given number suspended_machines suspended_machines_after came → core_after.applied ≡ core.applied + 1
    → order_after ≡ order ++ number ∷ [] → HasStarted prefix given core.started core_after.started → IsGoing core_after suspended_machines_after order_after
going_used core core_after suspended_machines suspended_machines_after order order_after number prefix given came going did applied order_is has_started =
    subst (λ (all : List SuspendedMachine). IsGoing core_after all order_after) (sym did.suspended_machines) (by did.more did.started did.more_is_suspended)
  where
    used : List SuspendedMachine
    used = slice_set suspended_machines number did.used

    by : (more : Option SuspendedMachine) → map progress_of (option_to_list more) ≡ started_by prefix did.asked.machine.machine.options given
        → IfSome more IsSuspended → IsGoing core_after (used ++ option_to_list more) order_after
    by None is own = subst (λ (all : List SuspendedMachine). IsGoing core_after all order_after) (sym (append-nil used))
        (going_on core core_after suspended_machines order order_after number did.used prefix did.asked.machine.machine.options given going did.is_suspended applied
        order_is (sym is) did.memory has_started)
    by (Some one) is own = going_more core core_after suspended_machines order order_after number did.used one prefix did.asked.machine.machine.options given
        going did.is_suspended own applied order_is is has_started

-- what a request comes to whose reply was used
pub takes_used : (core core_after : CoreModel) (words words_after : ℕ → ℕ) (suspended_machines suspended_machines_after : List SuspendedMachine) (order order_after : List ℕ)
    (number : ℕ) (request : Request) (prefix : Option (List ℕ)) (given : Reply) (came : Moved)
    → HasUsed prefix given number suspended_machines suspended_machines_after came → option_and_then (λ (suspended : SuspendedMachine). suspended.asks) (slice_get suspended_machines number) ≡ Some request
    → ((world : World) → StandsFor core world → HasWords world words → Answers given core_after words_after (world_step world request))
    → prefix ≡ start_prefix request → order_after ≡ order ++ number ∷ []
    → Takes core words suspended_machines order number core_after words_after suspended_machines_after order_after
takes_used core core_after words words_after suspended_machines suspended_machines_after order order_after number request prefix given came did asks answers prefix_is order_is = record {
  suspended = did.asked;
  suspended_is = did.here;
  request = request;
  asks = sym (ap (option_and_then (λ (suspended : SuspendedMachine). suspended.asks)) did.here) ∙ asks;
  given = given;
  is_given = did.memory;
  answers = answers;
  used = progress_of did.used;
  used_is = did.rests;
  suspended_machines_are = ap (map progress_of) did.suspended_machines ∙ map-append progress_of (slice_set suspended_machines number did.used) (option_to_list did.more)
      ∙ (λ i. map-set progress_of suspended_machines number did.used i
      ++ (did.started ∙ ap (λ (under : Option (List ℕ)). started_by under did.asked.machine.machine.options given) prefix_is) i);
  order_is = order_is;
}
