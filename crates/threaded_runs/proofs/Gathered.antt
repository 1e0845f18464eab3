-- What the thread of the core and the threads of machines came back with is the end of a run.
use Rattle.std.proofs.Common.{◌≡◌, ◌∙◌, ℕ, zero, suc, ◌<◌, true, false, cond, eqb, eq-eqb, List, [], ◌∷◌, ◌++◌, length, map, get_or, Result, Ok, Err, refl, sym, ap, subst, arith}
use Rattle.std.specs.List.{All, Any, filter}
use mathlib.Core.List.{cons≢nil}
use Rattle.std.specs.Prelude.{IfOk}
use Rattle.std.proofs.lemmas.List.{length-map}
use Rattle.std.proofs.Math.ListN.{get_or-map}
use Rattle.outside.specs.Seeds.{words_from}
use Rattle.request_line.specs.declared.ends.Receiver.{Receiver}
use Rattle.request_line.specs.declared.ends.Sender.{Sender}
use Rattle.request_line.specs.declared.history.History.{History}
use Rattle.request_line.specs.History.{first_history, CoverAllNumbers, IsInSpan}
use Rattle.request_line.specs.Line.{closed, history, receiver_line, sender_line, taken}
use Rattle.request_line.specs.Taking.{IsOfThese, TakesInOrder}
use Rattle.network.specs.declared.post.Post.{Post}
use Rattle.network.specs.Clients.{client_line}
use Rattle.network.specs.Posts.{asking_in, cells_in, overs_in, posts_of}
use Rattle.network.specs.Serving.{Serves, cells_of, posts_since, taken_since}
use Rattle.client_core.specs.Stands.{StandsFor}
use Rattle.model_commands.specs.declared.args.RunArgs.{RunArgs}
use Rattle.suspended_machine.specs.declared.suspended.SuspendedMachine.{SuspendedMachine}
use Rattle.threaded_machine.specs.declared.threaded.ThreadedMachine.{ThreadedMachine}
use Rattle.threaded_machine.specs.Threaded.{history_of}
use Rattle.machine_threads.specs.Teams.{IsTeamOf}
use Rattle.machine_threads.specs.Closing.{AreSettled}
use Rattle.core_service.specs.declared.service.CoreService.{CoreService}
use Rattle.core_service.specs.Gathering.{GatherToARun, HasRun}
use Rattle.core_service.specs.Serving.{CoreAnswers}
use Rattle.machine_runs.specs.declared.running.Ended.{Ended}
use Rattle.threaded_runs.specs.declared.threading.Answered.{Answered}
use Rattle.machine_runs.specs.Driving.{Ends, EndsFrom, IsAtStart}
use Rattle.threaded_runs.specs.Serving.{IsFresh, IsServed}

-- ---- spans

any_mapped : {X Y : Type 0} (P : Y → Type 0) (f : X → Y) (xs : List X) → Any (λ x. P (f x)) xs → Any P (map f xs)
any_mapped P f xs found =
    (found.0, f found.1, omega (arith, found.2, length-map xs f), get_or-map f xs found.0 found.1 ∙ ap f found.3, found.4)

-- where the first sender has all numbers, its team has them
pub team_covers : (first : ThreadedMachine) (ended : List ThreadedMachine) → IsTeamOf first ended → history_of first ≡ first_history
    → CoverAllNumbers (map history_of ended)
team_covers first ended team is p below =
    any_mapped (λ h. IsInSpan h p) history_of ended
    (team.cover p (subst (λ (h : History Post). IsInSpan h p) (sym is) (omega arith, omega (arith, below))))

-- ---- where nothing was posted

-- the first sender has all numbers
first_covers : CoverAllNumbers {T = Post} (first_history ∷ [])
first_covers p below = (0, first_history, omega arith, refl, (omega arith, omega (arith, below)))

-- nothing is taken of a first sender that has posted nothing
none_taken : (mails : List (ℕ × Post)) → TakesInOrder mails first_history → IsOfThese mails (first_history ∷ []) → mails ≡ []
none_taken [] order these = refl
none_taken (mail ∷ mails) order these = absurd (first (these 0 mail (omega arith)))
  where
    number_of : (h : History Post) (place : ℕ) → place < 1 → get_or (first_history ∷ []) place h ≡ h → h.number ≡ 0
    number_of h zero within is = ap (λ (it : History Post). it.number) (sym is)
    number_of h (suc place) within is = absurd (omega (arith, within))

    posts : eqb mail.0 0 ≡ true → ⊥
    posts own = cons≢nil (subst (λ b. (map (λ (m : ℕ × Post). m.1) (cond b (mail ∷ filter (λ (m : ℕ × Post). eqb m.0 0) mails)
        (filter (λ (m : ℕ × Post). eqb m.0 0) mails))) ++ order.0 ≡ []) own order.1)

    first : Any (λ (h : History Post). h.number ≡ mail.0) (first_history ∷ []) → ⊥
    first found = posts (eq-eqb mail.0 0 (sym found.4 ∙ number_of found.1 found.0 found.2 found.3))

-- ---- what came back

ended_is : (pairs : List (List ℕ × List ℕ)) (arguments : RunArgs) (after : CoreService) (ended : Ended)
    → HasRun pairs arguments after ended.order ended.suspended_machines.items → ended.core ≡ after.core → Ends pairs arguments ended
ended_is pairs arguments after ended has is = record {
  words = words_from after.words;
  leads = record {
    world = has.world;
    stands = subst (λ core. StandsFor core has.world) (sym is) has.stands;
    has_words = has.has_words;
    runs = has.runs.runs;
  };
  is_suspended = has.is_suspended;
  none = has.none_asks;
}

-- ---- what was served

module _ (receiver : Receiver Post) (sender : Sender Post) (service : CoreService) (answered : Answered) (fresh : IsFresh receiver sender)
    (served : IsServed receiver service answered) where
  taken_posts : posts_of (taken answered.receiver) ≡ posts_since receiver answered.receiver
  taken_posts = ap posts_of (served.taken_are ∙ ap (λ l. l ++ taken_since receiver answered.receiver) fresh.taken_none)

  pub none_closed : closed answered.receiver ≡ []
  none_closed = served.closed_are ∙ fresh.closed_none

  pub same_line : (first : ThreadedMachine) (ended : List ThreadedMachine) → IsTeamOf first ended → client_line first.client ≡ sender_line sender
      → All (λ (one : ThreadedMachine). client_line one.client ≡ receiver_line answered.receiver) ended
  same_line first ended team is k d within = team.one_line k d within ∙ is ∙ fresh.line ∙ sym served.line

  pub cells_are : answered.served.short ≡ false → cells_of answered.served.receipts ≡ cells_in (posts_of (taken answered.receiver))
  cells_are lasts = (served.served lasts).cells ∙ ap cells_in (sym taken_posts)

  pub order_is : answered.served.short ≡ false → answered.served.order ≡ asking_in (posts_of (taken answered.receiver))
  order_is lasts = (served.served lasts).order_is ∙ ap asking_in (sym taken_posts)

  pub overs_are : (ended : List ThreadedMachine) → answered.served.machines ≡ length ended
      → overs_in (posts_of (taken answered.receiver)) ≡ length ended
  overs_are ended as_many = ap overs_in taken_posts ∙ served.ended ∙ as_many

  -- where the sender has posted nothing, it can't have come back
  pub never_served : (closing : Receiver Post) → taken closing ≡ taken answered.receiver → closed closing ≡ closed answered.receiver ++ history sender ∷ []
      → All (TakesInOrder (taken closing)) (closed closing) → (CoverAllNumbers (closed closing) → IsOfThese (taken closing) (closed closing)) → ⊥
  never_served closing taken_are closed_are in_order of_these =
      let first : closed closing ≡ first_history ∷ [] = closed_are ∙ (λ i. none_closed i ++ fresh.first i ∷ []) in
      let order = subst (All (TakesInOrder (taken closing))) first in_order 0 first_history (omega arith) in
      let these = subst (λ senders. CoverAllNumbers senders → IsOfThese (taken closing) senders) first of_these first_covers in
      let none = sym taken_are ∙ none_taken (taken closing) order these in
      omega (arith, ap overs_in (sym taken_posts ∙ ap posts_of none), served.ended, served.machines)

  -- what came back is the end of the run
  ends_of : (first : ThreadedMachine) (ended : List ThreadedMachine) (suspended_machines : List SuspendedMachine) → answered.served.short ≡ false
      → answered.served.machines ≡ length ended → IsTeamOf first ended
      → AreSettled ended (taken answered.receiver) answered.served.order answered.served.receipts suspended_machines → GatherToARun
      → (pairs : List (List ℕ × List ℕ)) (arguments : RunArgs) → IsAtStart pairs arguments service.core (words_from service.words) first.suspended
      → HasRun pairs arguments answered.service answered.served.order suspended_machines
  ends_of first ended suspended_machines lasts as_many team settled law pairs arguments at_start =
      law pairs arguments service answered.service (taken answered.receiver) answered.served.order answered.served.receipts first ended suspended_machines
      (record {
        stands = at_start.stands;
        has_words = at_start.has_words;
        starts = at_start.starts;
        served = subst (λ posts. Serves CoreAnswers service answered.service posts answered.served.order answered.served.receipts)
            (sym taken_posts) (served.served lasts);
        as_many = sym as_many ∙ served.machines;
        team = team;
        settled = settled;
      })

  -- once they were settled
  pub settled_ends : {E : Type 0} (first : ThreadedMachine) (team : List ThreadedMachine) (result : Result Ended E) → answered.served.short ≡ false
      → answered.served.machines ≡ length team → IsTeamOf first team → GatherToARun
      → IfOk result (λ ended. ended.core ≡ answered.service.core)
      → IfOk result (λ ended. ended.order ≡ answered.served.order)
      → IfOk result (λ ended. AreSettled team (taken answered.receiver) answered.served.order answered.served.receipts ended.suspended_machines.items)
      → IfOk result (EndsFrom service.core (words_from service.words) first.suspended)
  settled_ends first team (Ok ended) lasts as_many is law core order settled = λ pairs arguments at_start.
      ended_is pairs arguments answered.service ended
      (subst (λ (o : List ℕ). HasRun pairs arguments answered.service o ended.suspended_machines.items) (sym order)
      (ends_of first team ended.suspended_machines.items lasts as_many is settled law pairs arguments at_start)) core
  settled_ends first team (Err short) lasts as_many is law core order settled = tt
