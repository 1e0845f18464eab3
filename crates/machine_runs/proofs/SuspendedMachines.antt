-- Lists of suspended machines.
use Rattle.std.proofs.Common.{◌≡◌, ◌≢◌, ℕ, zero, suc, ◌+◌, ◌<◌, ◌≤◌, ◌⊎◌, ⊎_elim, inl, inr, Bool, true, false, cond, List, [], ◌∷◌, ◌++◌, length, Option, Some, None, refl, sym, ap, subst, ◌∙◌, length-append, arith}
use Rattle.std.specs.Prelude.{map, is_some, IsSome, option_and_then, option_map, option_to_list, slice_get, slice_index_or, slice_set}
use Rattle.std.specs.List.{sum_by}
use Rattle.std.proofs.lemmas.List.{append-nil, length-set}
use Rattle.std.proofs.lemmas.List.Sums.{sum_by-set}
use Rattle.std.proofs.lemmas.Option.{get_or_from_slice_get, none-some, same_Some, slice_get-map, slice_get_past, slice_get_within}
use Rattle.model_machine.specs.Machines.{Progress}
use Rattle.model_machine.specs.Worlds.{World}
use Rattle.model_machine.specs.Laws.{effort_in}
use Rattle.model_machine.specs.Runs.{HasTurn, IsFirstFrom, has_request}
use Rattle.suspended_machine.specs.declared.suspended.SuspendedMachine.{SuspendedMachine}
use Rattle.fdb_calls.specs.declared.Reply.{Reply}
use Rattle.machine_runs.specs.declared.driving.Moved.{Moved}
use Rattle.machine_runs.specs.declared.driving.Moved.TheVariants as moved
use Rattle.machine_runs.specs.declared.driving.Pause.{Pause}
use Rattle.machine_runs.specs.declared.driving.Pause.TheVariants as pause
use Rattle.suspended_machine.specs.SuspendedMachines.{progress_of, work_left, IsNearer, IsSuspended}
use Rattle.machine_runs.specs.Driving.{asks_at, effort_of, work_of, AreSuspended, HasMoved, HasPaused, HasUsed, IsFirstAsking, IsNextInTurn}

-- ---- one in the place of another, and one more

get_set : {X : Type 0} (xs : List X) (i : ℕ) (y : X) (j : ℕ) (z : X) → slice_get (slice_set xs i y) j ≡ Some z
    → (y ≡ z) ⊎ (slice_get xs j ≡ Some z)
get_set [] i y j z e = inr e
get_set (x ∷ xs) zero y zero z e = inl (same_Some y z e)
get_set (x ∷ xs) zero y (suc j) z e = inr e
get_set (x ∷ xs) (suc i) y zero z e = inr e
get_set (x ∷ xs) (suc i) y (suc j) z e = get_set xs i y j z e

get_append : {X : Type 0} (xs : List X) (y : X) (j : ℕ) (z : X) → slice_get (xs ++ y ∷ []) j ≡ Some z
    → (y ≡ z) ⊎ (slice_get xs j ≡ Some z)
get_append [] y zero z e = inl (same_Some y z e)
get_append [] y (suc j) z e = absurd (none-some z e)
get_append (x ∷ xs) y zero z e = inr e
get_append (x ∷ xs) y (suc j) z e = get_append xs y j z e

pub get_within : {X : Type 0} (xs : List X) (i : ℕ) (d : X) → i < length xs → slice_get xs i ≡ Some (slice_index_or xs i d)
get_within [] i d inside = absurd (omega (arith, inside))
get_within (x ∷ xs) zero d inside = refl
get_within (x ∷ xs) (suc i) d inside = get_within xs i d (omega (arith, inside))

pub is_suspended_set : (suspended_machines : List SuspendedMachine) (number : ℕ) (used : SuspendedMachine) → AreSuspended suspended_machines → IsSuspended used → AreSuspended (slice_set suspended_machines number used)
is_suspended_set suspended_machines number used all own other suspended e =
    ⊎_elim (λ same. subst IsSuspended same own) (λ was. all other suspended was) (get_set suspended_machines number used other suspended e)

pub is_suspended_more : (suspended_machines : List SuspendedMachine) (started : SuspendedMachine) → AreSuspended suspended_machines → IsSuspended started → AreSuspended (suspended_machines ++ started ∷ [])
is_suspended_more suspended_machines started all own other suspended e =
    ⊎_elim (λ same. subst IsSuspended same own) (λ was. all other suspended was) (get_append suspended_machines started other suspended e)

-- ---- what is left to do

sum_less : (a b x y : ℕ) → a + x ≡ b + y → y < x → a < b
sum_less a b x y same less = omega arith

sum_same : (a b x y : ℕ) → a + x ≡ b + y → y ≡ x → a ≡ b
sum_same a b x y same equal = omega arith

set_sum : (f : SuspendedMachine → ℕ) (suspended_machines : List SuspendedMachine) (number : ℕ) (suspended used : SuspendedMachine) → slice_get suspended_machines number ≡ Some suspended
    → sum_by f (slice_set suspended_machines number used) + f suspended ≡ sum_by f suspended_machines + f used
set_sum f suspended_machines number suspended used is =
    subst (λ (s : SuspendedMachine). sum_by f (slice_set suspended_machines number used) + f s ≡ sum_by f suspended_machines + f used)
    (get_or_from_slice_get suspended_machines number suspended suspended is)
    (sum_by-set f suspended_machines number used suspended (slice_get_within suspended_machines number suspended is))

abbrev work : SuspendedMachine → ℕ
work suspended = work_left suspended.machine.machine

abbrev effort : SuspendedMachine → ℕ
effort suspended = effort_in suspended.machine.machine

asks_on_moved : (suspended_machines : List SuspendedMachine) (number : ℕ) (suspended used : SuspendedMachine) → slice_get suspended_machines number ≡ Some suspended
    → IsNearer true suspended.machine.machine used.machine.machine → HasMoved moved.AsksOn suspended_machines (slice_set suspended_machines number used)
asks_on_moved suspended_machines number suspended used is nearer = (
  length-set suspended_machines number used,
  sum_same (work_of (slice_set suspended_machines number used)) (work_of suspended_machines) (work suspended) (work used) (set_sum work suspended_machines number suspended used is) nearer.0,
  sum_less (effort_of (slice_set suspended_machines number used)) (effort_of suspended_machines) (effort suspended) (effort used) (set_sum effort suspended_machines number suspended used is)
      nearer.1,
)

finished_moved : (suspended_machines : List SuspendedMachine) (number : ℕ) (suspended used : SuspendedMachine) → slice_get suspended_machines number ≡ Some suspended
    → IsNearer false suspended.machine.machine used.machine.machine → HasMoved moved.Finished suspended_machines (slice_set suspended_machines number used)
finished_moved suspended_machines number suspended used is nearer = (
  length-set suspended_machines number used,
  sum_less (work_of (slice_set suspended_machines number used)) (work_of suspended_machines) (work suspended) (work used) (set_sum work suspended_machines number suspended used is) nearer,
)

nearer_moved : (asks_on : Bool) (suspended_machines : List SuspendedMachine) (number : ℕ) (suspended used : SuspendedMachine) → slice_get suspended_machines number ≡ Some suspended
    → IsNearer asks_on suspended.machine.machine used.machine.machine
    → HasMoved (cond asks_on moved.AsksOn moved.Finished) suspended_machines (slice_set suspended_machines number used)
nearer_moved true suspended_machines number suspended used is nearer = asks_on_moved suspended_machines number suspended used is nearer
nearer_moved false suspended_machines number suspended used is nearer = finished_moved suspended_machines number suspended used is nearer

-- what came of a request whose reply was used
pub used_moved : (prefix : Option (List ℕ)) (given : Reply) (number : ℕ) (before after : List SuspendedMachine) (came : Moved)
    → HasUsed prefix given number before after came → HasMoved came before after
used_moved prefix given number before after came did =
    subst (λ (all : List SuspendedMachine). HasMoved came before all) (sym did.suspended_machines)
    (subst (λ (moved : Moved). HasMoved moved before (used ++ option_to_list did.more)) (sym did.came_is) (by did.more))
  where
    used : List SuspendedMachine
    used = slice_set before number did.used

    by : (more : Option SuspendedMachine) → HasMoved (cond (is_some more) moved.Started (cond did.asks_on moved.AsksOn moved.Finished)) before
        (used ++ option_to_list more)
    by None = subst (λ (all : List SuspendedMachine). HasMoved (cond did.asks_on moved.AsksOn moved.Finished) before all) (sym (append-nil used))
        (nearer_moved did.asks_on before number did.asked did.used did.here did.nearer)
    by (Some one) =
        let longer : length (used ++ one ∷ []) ≡ length before + 1 =
        length-append used (one ∷ []) ∙ ap (λ n. n + 1) (length-set before number did.used) in
        omega (arith, longer)

-- what came of requests that left no machine fewer instructions
pub paused_otherwise : (its_pause : Pause) (before after : List SuspendedMachine) → its_pause ≢ pause.Finished → HasPaused its_pause before after
    → (its_pause ≡ pause.Ended) ⊎ (length before < length after)
paused_otherwise pause.Finished before after other paused = absurd (other refl)
paused_otherwise pause.Started before after other paused = inr paused
paused_otherwise pause.Ended before after other paused = inl refl

-- ---- turns

-- a machine has a request in a run exactly where it asks while it is suspended
pub has_is_asks : (world : World) (suspended_machines : List SuspendedMachine) (number : ℕ)
    → has_request (record { world = world; machines = map progress_of suspended_machines }) number ≡ asks_at suspended_machines number
has_is_asks world suspended_machines number =
    ap (λ (found : Option Progress). is_some (option_and_then (λ (progress : Progress). progress.asks) found)) (slice_get-map progress_of suspended_machines number)
    ∙ by (slice_get suspended_machines number)
  where
    by : (found : Option SuspendedMachine) → is_some (option_and_then (λ (progress : Progress). progress.asks) (option_map progress_of found))
        ≡ is_some (option_and_then (λ (suspended : SuspendedMachine). suspended.asks) found)
    by None = refl
    by (Some suspended) = refl

first_turn : (world : World) (suspended_machines : List SuspendedMachine) (from number : ℕ) → IsFirstAsking suspended_machines from (Some number)
    → IsFirstFrom from (record { world = world; machines = map progress_of suspended_machines }) number
first_turn world suspended_machines from number is = record {
  not_below = is.1;
  has_one = has_is_asks world suspended_machines number ∙ is.2;
  first = λ other above below. has_is_asks world suspended_machines other ∙ is.3 other above below;
}

-- so whose turn it is among the suspended machines, has it in the run
pub has_turn : (world : World) (suspended_machines : List SuspendedMachine) (from number : ℕ) → IsNextInTurn suspended_machines from (Some number)
    → HasTurn from (record { world = world; machines = map progress_of suspended_machines }) number
has_turn world suspended_machines from number (inl is) = inl (first_turn world suspended_machines from number is)
has_turn world suspended_machines from number (inr is) =
    inr (λ other above. has_is_asks world suspended_machines other ∙ is.0 other above, first_turn world suspended_machines 0 number is.1)

-- no machine behind the last one asks
pub past_asks_none : (suspended_machines : List SuspendedMachine) (number : ℕ) → length suspended_machines ≤ number → asks_at suspended_machines number ≡ false
past_asks_none suspended_machines number past =
    ap (λ (found : Option SuspendedMachine). is_some (option_and_then (λ (suspended : SuspendedMachine). suspended.asks) found)) (slice_get_past suspended_machines number past)

-- whose turn it is asks, and is one of the machines
pub next_within : (suspended_machines : List SuspendedMachine) (from number : ℕ) → IsNextInTurn suspended_machines from (Some number) → number < length suspended_machines
next_within suspended_machines from number (inl is) = is.0
next_within suspended_machines from number (inr is) = is.1.0

pub next_asks : (suspended_machines : List SuspendedMachine) (from number : ℕ) → IsNextInTurn suspended_machines from (Some number) → asks_at suspended_machines number ≡ true
next_asks suspended_machines from number (inl is) = is.2
next_asks suspended_machines from number (inr is) = is.1.2

-- a machine that asks, at its suspended machine
pub asks_there : (suspended_machines : List SuspendedMachine) (number : ℕ) (suspended : SuspendedMachine) → slice_get suspended_machines number ≡ Some suspended → asks_at suspended_machines number ≡ true
    → IsSome suspended.asks
asks_there suspended_machines number suspended is asks =
    sym (ap (λ (found : Option SuspendedMachine). is_some (option_and_then (λ (s : SuspendedMachine). s.asks) found)) is) ∙ asks

-- a machine that asks is one of the machines
pub asks_within : (suspended_machines : List SuspendedMachine) (number : ℕ) → asks_at suspended_machines number ≡ true → number < length suspended_machines
asks_within [] number asks = absurd cc
asks_within (suspended ∷ suspended_machines) zero asks = omega arith
asks_within (suspended ∷ suspended_machines) (suc number) asks = let within = asks_within suspended_machines number asks in omega (arith, within)
