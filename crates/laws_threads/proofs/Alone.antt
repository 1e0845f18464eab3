-- What a machine keeps while it runs by itself, and that it comes to rest.
use Rattle.std.proofs.Common.{◌≡◌, ℕ, zero, suc, ◌+◌, ◌-◌, ◌<◌, ◌≤◌, ◌⊎◌, inl, inr, Bool, true, false, cond, List, [], ◌∷◌, ◌++◌, length, Option, Some, None, refl, sym, ap, ◌∙◌, arith}
use Rattle.std.specs.Prelude.{slice_get}
use Rattle.std.proofs.lemmas.List.{map-append}
use Rattle.std.proofs.lemmas.List.Sums.{fold_push}
use mathlib.Core.List.{cons≢nil, head-eq_of_cons-eq, tail-eq_of_cons-eq}
use Rattle.fdb_calls.specs.declared.Request.{Request}
use Rattle.fdb_calls.specs.declared.Reply.{Reply}
use Rattle.fdb_calls.specs.declared.Reply.TheVariants as reply
use Rattle.model_machine.specs.declared.MachineOptions.{MachineOptions}
use Rattle.model_machine.specs.declared.State.{State}
use Rattle.model_machine.specs.declared.State.TheVariants as state
use Rattle.model_machine.specs.Machines.{Act, Does, Stops, Asks, Machine, Progress, acted, advance, advance_by, next_act, replied_act, resumed, resumed_by, silent}
use Rattle.model_machine.specs.Runs.{at_rest, has_stopped, is_running, rested, started, started_by}
use Rattle.model_machine.specs.Laws.{IsQuiet, advance_finishes, advance_quiet, is_awaiting}
use Rattle.laws_threads.specs.Alone.{IsAlone, after_replies, after_reply, anew, asked_over, begun_as}

-- ---- what a machine keeps

acted_anew : (machine : Machine) (act : Act) → anew (acted machine act).machine ≡ anew machine
acted_anew machine (Does registers) = refl
acted_anew machine (Stops registers end) = refl
acted_anew machine (Asks registers request awaits) = refl

advanced_anew : (its_state : State) (machine : Machine) → anew (advance_by its_state machine).machine ≡ anew machine
advanced_anew state.Running machine = acted_anew machine (next_act machine (slice_get machine.instructions machine.next))
advanced_anew (state.Awaiting awaits) machine = refl
advanced_anew (state.Stopped end) machine = refl

advance_anew : (machine : Machine) → anew (advance machine).machine ≡ anew machine
unfolding advance
advance_anew machine = advanced_anew machine.state machine

resumed_by_anew : (its_state : State) (machine : Machine) (reply : Reply) → anew (resumed_by its_state machine reply).machine ≡ anew machine
resumed_by_anew state.Running machine reply = refl
resumed_by_anew (state.Awaiting awaits) machine reply = acted_anew machine (replied_act awaits machine reply)
resumed_by_anew (state.Stopped end) machine reply = refl

resumed_anew : (machine : Machine) (reply : Reply) → anew (resumed machine reply).machine ≡ anew machine
unfolding resumed
resumed_anew machine reply = resumed_by_anew machine.state machine reply

rested_anew : (steps : ℕ) (progress : Progress) → anew (rested steps progress).machine ≡ anew progress.machine
unfolding rested
rested_anew zero progress = refl
rested_anew (suc more) progress =
    by (is_running progress.machine.state) (rested_anew more (advance progress.machine) ∙ advance_anew progress.machine)
  where
    by : (b : Bool) → anew (rested more (advance progress.machine)).machine ≡ anew progress.machine
        → anew (cond b (rested more (advance progress.machine)) progress).machine ≡ anew progress.machine
    by true kept = kept
    by false kept = refl

-- A machine keeps its number, its prefix, its instructions and its options
pub at_rest_anew : (progress : Progress) → anew (at_rest progress).machine ≡ anew progress.machine
unfolding at_rest
at_rest_anew progress = rested_anew (length progress.machine.instructions - progress.machine.next + 1) progress

pub after_reply-anew : (progress : Progress) (reply : Reply) → anew (after_reply progress reply).machine ≡ anew progress.machine
after_reply-anew progress reply = at_rest_anew (resumed progress.machine reply) ∙ resumed_anew progress.machine reply

pub after_replies-anew : (progress : Progress) (replies : List Reply)
    → anew (after_replies progress replies).machine ≡ anew progress.machine
after_replies-anew progress [] = refl
after_replies-anew progress (reply ∷ replies) =
    after_replies-anew (after_reply progress reply) replies ∙ after_reply-anew progress reply

-- ---- a machine comes to rest

-- it doesn't run on, and where it asks nothing it awaits nothing
pub record IsAtRest (progress : Progress) : Type 0 where
  pub still : is_running progress.machine.state ≡ false
  pub quiet : IsQuiet progress

one_less : (next next_after count count_after more : ℕ) → count - next + 1 ≤ suc more → next_after ≡ next + 1 → count_after ≡ count
    → next < count → count_after - next_after + 1 ≤ more
one_less next next_after count count_after more enough later same inside = omega arith

rested_still : (steps : ℕ) (progress : Progress)
    → (is_running progress.machine.state ≡ false) ⊎ (length progress.machine.instructions - progress.machine.next + 1 ≤ steps)
    → is_running (rested steps progress).machine.state ≡ false
unfolding rested
rested_still zero progress (inl still) = still
rested_still zero progress (inr enough) = absurd (omega (arith, enough))
rested_still (suc more) progress either =
    by (is_running progress.machine.state) refl (λ e. rested_still more (advance progress.machine) e)
  where
    enough_by : (is_running progress.machine.state ≡ false) ⊎ (length progress.machine.instructions - progress.machine.next + 1 ≤ suc more)
        → is_running progress.machine.state ≡ true → length progress.machine.instructions - progress.machine.next + 1 ≤ suc more
    enough_by (inl still) runs = absurd (let both : false ≡ true = sym still ∙ runs in cc)
    enough_by (inr enough) runs = enough

    left : is_running progress.machine.state ≡ true → (b : Bool) → is_running (advance progress.machine).machine.state ≡ b
        → (is_running (advance progress.machine).machine.state ≡ false)
        ⊎ (length (advance progress.machine).machine.instructions - (advance progress.machine).machine.next + 1 ≤ more)
    left runs false e = inl e
    left runs true e =
        let finishes = advance_finishes progress.machine runs e in
        inr (one_less progress.machine.next (advance progress.machine).machine.next (length progress.machine.instructions)
        (length (advance progress.machine).machine.instructions) more (enough_by either runs) finishes.next
        (ap length finishes.instructions) finishes.inside)

    by : (b : Bool) → is_running progress.machine.state ≡ b
        → ((is_running (advance progress.machine).machine.state ≡ false)
        ⊎ (length (advance progress.machine).machine.instructions - (advance progress.machine).machine.next + 1 ≤ more)
        → is_running (rested more (advance progress.machine)).machine.state ≡ false)
        → is_running (cond b (rested more (advance progress.machine)) progress).machine.state ≡ false
    by true e again = again (left e (is_running (advance progress.machine).machine.state) refl)
    by false e again = e

rested_quiet : (steps : ℕ) (progress : Progress) → IsQuiet progress → IsQuiet (rested steps progress)
unfolding rested
rested_quiet zero progress quiet = quiet
rested_quiet (suc more) progress quiet =
    by (is_running progress.machine.state) refl (λ q. rested_quiet more (advance progress.machine) q)
  where
    by : (b : Bool) → is_running progress.machine.state ≡ b
        → (IsQuiet (advance progress.machine) → IsQuiet (rested more (advance progress.machine)))
        → IsQuiet (cond b (rested more (advance progress.machine)) progress)
    by true e again = again (advance_quiet progress.machine e)
    by false e again = quiet

pub at_rest_rests : (progress : Progress) → IsQuiet progress → IsAtRest (at_rest progress)
unfolding at_rest
at_rest_rests progress quiet = record {
  still = rested_still (length progress.machine.instructions - progress.machine.next + 1) progress (inr (omega arith));
  quiet = rested_quiet (length progress.machine.instructions - progress.machine.next + 1) progress quiet;
}

acted_quiet : (machine : Machine) (act : Act) → IsQuiet (acted machine act)
acted_quiet machine (Does registers) e = refl
acted_quiet machine (Stops registers end) e = refl
acted_quiet machine (Asks registers request awaits) e = absurd cc

resumed_by_quiet : (its_state : State) (machine : Machine) (reply : Reply) → machine.state ≡ its_state
    → IsQuiet (resumed_by its_state machine reply)
resumed_by_quiet state.Running machine reply is e = ap is_awaiting is
resumed_by_quiet (state.Awaiting awaits) machine reply is e = acted_quiet machine (replied_act awaits machine reply) e
resumed_by_quiet (state.Stopped end) machine reply is e = ap is_awaiting is

resumed_quiet : (machine : Machine) (reply : Reply) → IsQuiet (resumed machine reply)
unfolding resumed
resumed_quiet machine reply = resumed_by_quiet machine.state machine reply refl

pub after_replies-rests : (progress : Progress) (replies : List Reply) → IsAtRest progress → IsAtRest (after_replies progress replies)
after_replies-rests progress [] rests = rests
after_replies-rests progress (reply ∷ replies) rests =
    after_replies-rests (after_reply progress reply) replies
    (at_rest_rests (resumed progress.machine reply) (resumed_quiet progress.machine reply))

stopped_by : (its_state : State) → is_running its_state ≡ false → is_awaiting its_state ≡ false → has_stopped its_state ≡ true
stopped_by state.Running still awaits = absurd cc
stopped_by (state.Awaiting awaits') still awaits = absurd cc
stopped_by (state.Stopped end) still awaits = refl

-- one at rest that asks nothing has stopped
pub rest_stops : (progress : Progress) → IsAtRest progress → progress.asks ≡ None → has_stopped progress.machine.state ≡ true
rest_stops progress rests none = stopped_by progress.machine.state rests.still (rests.quiet none)

-- ---- one reply

-- what a machine asks first is the first of what it asked, and after the reply to it goes on with the rest
pub first_asked : (begun now : Progress) (request : Request) (requests : List Request) (reply : Reply) (replies : List Reply)
    → IsAlone begun (request ∷ requests) (reply ∷ replies) now → begun.asks ≡ Some request
first_asked begun now request requests reply replies alone = sym (head-eq_of_cons-eq alone.asked)

pub later_alone : (begun now : Progress) (request : Request) (requests : List Request) (reply : Reply) (replies : List Reply)
    → IsAlone begun (request ∷ requests) (reply ∷ replies) now → IsAlone (after_reply begun reply) requests replies now
later_alone begun now request requests reply replies alone =
    record { asked = tail-eq_of_cons-eq alone.asked; now_is = alone.now_is }

asked_over-push : (begun : Progress) (replies : List Reply) (reply : Reply)
    → asked_over begun (replies ++ reply ∷ []) ≡ asked_over begun replies ++ (after_replies begun replies).asks ∷ []
asked_over-push begun [] reply = refl
asked_over-push begun (first ∷ replies) reply = ap (λ l. begun.asks ∷ l) (asked_over-push (after_reply begun first) replies reply)

-- one request and its reply more
pub one_more : (begun now : Progress) (requests : List Request) (replies : List Reply) (request : Request) (reply : Reply)
    → IsAlone begun requests replies now → now.asks ≡ Some request
    → IsAlone begun (requests ++ request ∷ []) (replies ++ reply ∷ []) (after_reply now reply)
one_more begun now requests replies request reply alone asks = record {
  asked = map-append Some requests (request ∷ [])
      ∙ (λ i. alone.asked i ++ sym (ap (λ (p : Progress). p.asks) (sym alone.now_is) ∙ asks) i ∷ [])
      ∙ sym (asked_over-push begun replies reply);
  now_is = ap (λ (p : Progress). after_reply p reply) alone.now_is ∙ sym (fold_push after_reply begun replies reply);
}

-- ---- machines that are started

pub anew_started : (number : ℕ) (prefix : List ℕ) (options : MachineOptions) (pairs : List (List ℕ × List ℕ))
    → anew (started number prefix options pairs) ≡ started number prefix options pairs
unfolding started
anew_started number prefix options pairs = refl

-- a machine that was started is as its machine begins
pub started_begun : (number : ℕ) (prefix : List ℕ) (options : MachineOptions) (pairs : List (List ℕ × List ℕ)) (progress : Progress)
    → progress ≡ at_rest (silent (started number prefix options pairs)) → progress ≡ begun_as progress.machine
started_begun number prefix options pairs progress is =
    let same : anew progress.machine ≡ started number prefix options pairs =
    ap (λ (p : Progress). anew p.machine) is ∙ at_rest_anew (silent (started number prefix options pairs))
    ∙ anew_started number prefix options pairs in
    is ∙ ap (λ (m : Machine). at_rest (silent m)) (sym same)

pub begun_by : (prefix : Option (List ℕ)) (options : MachineOptions) (given : Reply) (progress : Progress) → progress ∷ [] ≡ started_by prefix options given
    → progress ≡ begun_as progress.machine
begun_by None options given progress is = absurd (cons≢nil is)
begun_by (Some prefix) options (reply.Started number pairs) progress is =
    started_begun number prefix options pairs progress (head-eq_of_cons-eq is)
begun_by (Some prefix) options given progress is = absurd (cons≢nil is)
