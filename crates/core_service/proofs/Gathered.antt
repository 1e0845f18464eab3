-- What the thread of the core and the threads of machines came back with are machines that ran in threads of their own.
use Rattle.std.proofs.Common.{◌≡◌, ◌↔◌, ℕ, ◌+◌, ◌<◌, ◌≤◌, inl, inr, cond, eqb, List, [], ◌∷◌, ◌++◌, length, map, Option, Some, None, refl, sym, ap, subst, ◌∙◌, length-append, arith}
use Rattle.std.specs.Prelude.{flat_map, slice_get}
use Rattle.std.specs.List.{All, Any}
use Rattle.std.proofs.lemmas.List.{length-map, map-append}
use Rattle.std.proofs.lemmas.List.Elements.{filter-append}
use Rattle.std.proofs.lemmas.List.Sorted.{All-permutation, IsPermutation-sym, length_permutation}
use Rattle.std.proofs.lemmas.Grind.{flat_map-append}
use Rattle.std.proofs.lemmas.Option.{slice_get_within}
use Rattle.std.proofs.lemmas.List.{append_assoc}
use mathlib.Core.List.{IsPrefix, head-eq_of_cons-eq}
use Rattle.fdb_calls.specs.declared.Request.{Request}
use Rattle.fdb_calls.specs.declared.Reply.{Reply}
use Rattle.fdb_calls.specs.declared.Reply.TheVariants as reply
use Rattle.future_cell.specs.declared.setter.Receipt.{Receipt}
use Rattle.future_cell.specs.declared.wake.Wake.{Wake}
use Rattle.request_line.specs.declared.history.History.{History}
use Rattle.request_line.specs.Taking.{items_of}
use Rattle.network.specs.declared.post.Post.{Post}
use Rattle.network.specs.declared.post.Post.TheVariants.{Ask}
use Rattle.network.specs.Posts.{posts_of, asked_by, asked_in, asking_in}
use Rattle.network.specs.Serving.{is_started, replies_of, started_by as count_started}
use Rattle.network.specs.Pairing.{receipts_of, AsksAsOne}
use Rattle.model_commands.specs.declared.args.RunArgs.{RunArgs}
use Rattle.model_machine.specs.Worlds.{World, begun, instruction_pairs, newest}
use Rattle.model_machine.specs.Machines.{Machine, Progress, silent}
use Rattle.model_machine.specs.Runs.{at_rest, machine_options, start, start_prefix, started, started_by}
use Rattle.laws_threads.specs.Alone.{IsAlone, anew, begun_as}
use Rattle.laws_threads.specs.Weaving.{Place, AreSteps, IsAloneAt, all_begun, places_of, places_over, replies_at, requests_at, started_at}
use Rattle.laws_threads.proofs.Alone.{anew_started, at_rest_anew, started_begun}
use Rattle.laws_threads.proofs.Places.{requests_of_places}
use Rattle.suspended_machine.specs.declared.suspended.SuspendedMachine.{SuspendedMachine}
use Rattle.suspended_machine.specs.SuspendedMachines.{progress_of}
use Rattle.threaded_machine.specs.declared.threaded.ThreadedMachine.{ThreadedMachine}
use Rattle.threaded_machine.specs.Threaded.{history_of, machine_in, replies_to, requests_in, HasEnded, HasStarted}
use Rattle.machine_threads.specs.Teams.{HasOptionsOf, IsTeamOf}
use Rattle.machine_threads.specs.Closing.{AreSettled, IsSettledOf, IsTakenOf}
use Rattle.machine_threads.proofs.Asking.{answered_by_receipts, asked_by_sender, requests_with_over}
use Rattle.core_service.specs.Threads.{AreThreaded, IsBegunIn, IsFirst, IsStartedIn}
use Rattle.core_service.proofs.Lists.{all_at_seam, all_front, each_of_all, found_there, goes_on_values, mapped_there, same_values, within_front}
use Rattle.core_service.proofs.Places.{asked_at, asked_by_one, none_of_it, place_with, stands_behind, taken_at}

-- ---- one machine

-- what a machine asked and was answered at its places is what it posted and what its waiters have shown
record IsAnsweredAt (places : List Place) (one : ThreadedMachine) : Type 0 where
  pub asked : requests_at (places_of (machine_in one).number places) ≡ requests_in (history_of one).posted
  pub answered : map Some (replies_at (places_of (machine_in one).number places)) ≡ replies_to one

requests-append : (first second : List Post) → requests_in (first ++ second) ≡ requests_in first ++ requests_in second
requests-append first second =
    ap (map (λ (it : ℕ × Request). it.1)) (flat_map-append asked_by first second)
    ∙ map-append (λ (it : ℕ × Request). it.1) (asked_in first) (asked_in second)

-- this was taken, and answered so
module _ (taken : List (ℕ × Post)) (order : List ℕ) (receipts : List (Receipt Reply Wake)) (replies : List Reply)
    (order_is : order ≡ asking_in (posts_of taken)) (given : replies_of receipts ≡ map Some replies)
    (many : length replies ≡ length (asked_in (posts_of taken))) where
  abbrev places : List Place
  places = places_over (asked_in (posts_of taken)) replies

  answered_at : (one : ThreadedMachine) → IsTakenOf taken one → IsSettledOf order receipts one → IsAnsweredAt places one
  answered_at one is_taken settled =
      let number = (machine_in one).number in
      record {
        asked = requests_of_places number (asked_in (posts_of taken)) replies many
            ∙ asked_by_sender number (history_of one).number taken is_taken.0
            ∙ ap requests_in is_taken.1;
        answered = answered_by_receipts number (asked_in (posts_of taken)) receipts replies many given
            ∙ ap (λ l. replies_of (receipts_of number l receipts)) (sym order_is)
            ∙ settled;
      }

  -- it ran by itself there
  pub alone_at : (one : ThreadedMachine) → HasEnded one → IsTakenOf taken one → IsSettledOf order receipts one
      → IsAloneAt (machine_in one).number places (begun_as (machine_in one)) (progress_of one.suspended)
  alone_at one ended is_taken settled =
      let at = answered_at one is_taken settled in
      let asked = at.asked ∙ ap requests_in ended.posted ∙ requests_with_over ended.asks (machine_in one).number in
      let answered = same_values (replies_at (places_of (machine_in one).number places)) ended.asked.replies
      (at.answered ∙ ended.asked.replies_are) in
      subst (λ (its : List Request × List Reply). IsAlone (begun_as (machine_in one)) its.0 its.1 (progress_of one.suspended))
      (λ i. (sym asked i, sym answered i)) ended.asked.alone

  -- ---- a machine that another one started

  module _ (starter other : ThreadedMachine) (starter_taken : IsTakenOf taken starter) (starter_settled : IsSettledOf order receipts starter)
      (other_taken : IsTakenOf taken other) (has_started : HasStarted starter other) where
    -- what the starter had posted by then was taken before any request of the other
    asked_before : (front rest : List Place) (place : Place) → places ≡ front ++ place ∷ rest → place.machine ≡ (machine_in other).number
        → length (requests_in (history_of other).posted_before) ≤ length (places_of (machine_in starter).number front)
    asked_before front rest place is own =
        let at = taken_at taken replies front rest place is in
        let by_it = all_at_seam (AsksAsOne (machine_in other).number (history_of other).number) at.before
        (at.sender, Ask place.machine place.request at.setter) at.behind
        (subst (λ (l : List (ℕ × Post)). All (AsksAsOne (machine_in other).number (history_of other).number) l) at.parts other_taken.0) in
        let prefix = other_taken.2 at.before at.behind (Ask place.machine place.request at.setter)
        (at.parts ∙ ap (λ n. at.before ++ (n, Ask place.machine place.request at.setter) ∷ at.behind) (by_it.0 own)) in
        let by_starter = asked_by_sender (machine_in starter).number (history_of starter).number at.before
        (all_front (AsksAsOne (machine_in starter).number (history_of starter).number) at.before
        ((at.sender, Ask place.machine place.request at.setter) ∷ at.behind)
        (subst (λ (l : List (ℕ × Post)). All (AsksAsOne (machine_in starter).number (history_of starter).number) l) at.parts
        starter_taken.0)) in
        let same : requests_in (history_of other).posted_before ++ requests_in prefix.0
        ≡ requests_at (places_of (machine_in starter).number front) =
        sym (requests-append (history_of other).posted_before prefix.0) ∙ ap requests_in prefix.1
        ∙ ap (λ n. requests_in (items_of n at.before)) has_started.maker
        ∙ sym by_starter ∙ ap (items_of (machine_in starter).number) at.asked ∙ asked_by_one (machine_in starter).number front in
        omega (
          arith,
          length-append (requests_in (history_of other).posted_before) (requests_in prefix.0),
          ap length same,
          length-map (places_of (machine_in starter).number front) (λ (p : Place). p.request),
        )

    pub started_in : (arguments : RunArgs) → (machine_in starter).options ≡ machine_options arguments
        → IsStartedIn arguments places (machine_in other).number (begun_as (machine_in other))
    started_in arguments options =
        let number = (machine_in starter).number in
        let by_it = has_started.by_it in
        let at = answered_at starter starter_taken starter_settled in
        let goes_on = goes_on_values (by_it.earlier_replies ++ by_it.reply ∷ []) (replies_at (places_of number places)) by_it.replies_are.0
        (by_it.replies_are.1 ∙ sym at.answered) in
        let own = place_with (places_of number places) by_it.earlier (requests_in has_started.posted.0) by_it.earlier_replies goes_on.more
        by_it.request by_it.reply by_it.as_many
        (at.asked ∙ ap requests_in (sym has_started.posted.1)
        ∙ requests-append (history_of other).posted_before has_started.posted.0
        ∙ ap (λ l. l ++ requests_in has_started.posted.0) by_it.requests_are)
        goes_on.is in
        let stands = stands_behind number places own.front own.rest own.place own.is in
        record {
          front = stands.front;
          place = own.place;
          rest = stands.rest;
          is = stands.is;
          starts = by_it.is ∙ (λ i. started_by (start_prefix (sym own.request_is i)) (options i) (sym own.reply_is i));
          none_yet = none_of_it (machine_in other).number (stands.front ++ own.place ∷ []) (λ front rest place is its.
              let shorter = within_front stands.front front rest own.place place is in
              let before = asked_before front (rest ++ stands.rest) place
              (stands.is ∙ sym (append_assoc stands.front (own.place ∷ []) stands.rest) ∙ ap (λ l. l ++ stands.rest) is
              ∙ append_assoc front (place ∷ rest) stands.rest) its in
              omega (
                arith,
                before,
                ap length by_it.requests_are,
                length-append by_it.earlier (by_it.request ∷ []),
                own.many,
                ap length stands.own_are,
                ap length (ap (places_of number) shorter.is ∙ filter-append (λ (p : Place). eqb p.machine number) front shorter.more),
                length-append (places_of number front) (places_of number shorter.more),
              ));
        }
