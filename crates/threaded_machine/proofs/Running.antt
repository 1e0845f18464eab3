-- A machine in its thread, by one request and its reply, and by its Over.
use Rattle.std.proofs.Common.{◌≡◌, ℕ, suc, cond, List, [], ◌∷◌, ◌++◌, length, Option, Some, None, refl, sym, ap, subst, ◌∙◌, arith}
use Rattle.std.specs.Prelude.{map, option_to_list, IfSome}
use Rattle.std.specs.List.{All}
use Rattle.std.proofs.lemmas.List.{append-nil, length-map, map-append}
use Rattle.std.proofs.lemmas.List.Elements.{All-nil, All-push}
use Rattle.std.proofs.lemmas.List.Sums.{sum_by-append}
use Rattle.std.proofs.lemmas.Grind.{flat_map-append}
use mathlib.Core.List.{IsPrefix}
use Rattle.fdb_calls.specs.declared.Request.{Request}
use Rattle.fdb_calls.specs.declared.Reply.{Reply}
use Rattle.future_cell.specs.declared.setter.Setter.{Setter}
use Rattle.future_cell.specs.declared.waiter.Waiter.{Waiter}
use Rattle.future_cell.specs.declared.wake.Wake.{Wake}
use Rattle.future_cell.specs.Cells.{setter_cell, waiter_cell, shown}
use Rattle.request_line.specs.declared.history.History.{History}
use Rattle.request_line.specs.History.{with_post}
use Rattle.network.specs.declared.post.Post.{Post}
use Rattle.network.specs.declared.post.Post.TheVariants.{Ask}
use Rattle.network.specs.Posts.{asked_by, asked_in, cell_by, cells_in, is_over, overs_in}
use Rattle.network.specs.Pairing.{AsksFor}
use Rattle.network.specs.Clients.{client_line, client_machine}
use Rattle.model_machine.specs.declared.MachineOptions.{MachineOptions}
use Rattle.model_machine.specs.Machines.{Machine, Progress, resumed, silent}
use Rattle.model_machine.specs.Runs.{at_rest, start_prefix, started_by}
use Rattle.laws_threads.specs.Alone.{IsAlone, after_reply, anew, asked_over, begun_as}
use Rattle.laws_threads.proofs.Alone.{after_reply-anew, one_more}
use Rattle.suspended_machine.specs.declared.suspended.SuspendedMachine.{SuspendedMachine}
use Rattle.suspended_machine.specs.SuspendedMachines.{progress_of, IsSuspended}
use Rattle.threaded_machine.specs.declared.threaded.ThreadedMachine.{ThreadedMachine}
use Rattle.threaded_machine.specs.Threaded.{history_of, machine_in, replies_to, requests_in, shown_by, HasAsked, IsLater, IsRunning, IsStartedBy}
use Rattle.threaded_machine.proofs.Lists.{prefix_refl, prefix_trans}

-- ---- one Ask more

requests-push : (posts : List Post) (machine : ℕ) (request : Request) (setter : Setter Reply Wake)
    → requests_in (posts ++ Ask machine request setter ∷ []) ≡ requests_in posts ++ request ∷ []
requests-push posts machine request setter =
    ap (map (λ (asked : ℕ × Request). asked.1)) (flat_map-append asked_by posts (Ask machine request setter ∷ []))
    ∙ map-append (λ (asked : ℕ × Request). asked.1) (asked_in posts) ((machine, request) ∷ [])

cells-push : (posts : List Post) (machine : ℕ) (request : Request) (setter : Setter Reply Wake)
    → cells_in (posts ++ Ask machine request setter ∷ []) ≡ cells_in posts ++ setter_cell setter ∷ []
cells-push posts machine request setter = flat_map-append cell_by posts (Ask machine request setter ∷ [])

overs-push : (posts : List Post) (machine : ℕ) (request : Request) (setter : Setter Reply Wake) → overs_in posts ≡ 0
    → overs_in (posts ++ Ask machine request setter ∷ []) ≡ 0
overs-push posts machine request setter none =
    omega (arith, none, sum_by-append (λ (post : Post). cond (is_over post) 1 0) posts (Ask machine request setter ∷ []))

asked_over-length : (begun : Progress) (replies : List Reply) → length (asked_over begun replies) ≡ length replies
asked_over-length begun [] = refl
asked_over-length begun (reply ∷ replies) = ap suc (asked_over-length (after_reply begun reply) replies)

-- ---- before the first request

pub asked_none : (suspended : SuspendedMachine) → IsSuspended suspended → progress_of suspended ≡ begun_as suspended.machine.machine → HasAsked suspended [] []
asked_none suspended is_suspended begun = record {
  for_itself = All-nil (AsksFor suspended.machine.machine.number);
  no_over = refl;
  own_cells = refl;
  replies = [];
  replies_are = refl;
  alone = record { asked = refl; now_is = begun };
  is_suspended = is_suspended;
}

-- ---- one request and its reply

-- a machine keeps what it was started with
pub kept_anew : (before after : SuspendedMachine) (reply : Reply) → progress_of after ≡ at_rest (resumed before.machine.machine reply)
    → anew after.machine.machine ≡ anew before.machine.machine
kept_anew before after reply is = ap (λ (p : Progress). anew p.machine) is ∙ after_reply-anew (progress_of before) reply

pub asked_more : (before after : SuspendedMachine) (waiters : List (Waiter Reply Wake)) (asks : List Post) (request : Request)
    (setter : Setter Reply Wake) (waiter : Waiter Reply Wake) (reply : Reply)
    → HasAsked before waiters asks → before.asks ≡ Some request → setter_cell setter ≡ waiter_cell waiter → shown waiter ≡ Some reply
    → progress_of after ≡ at_rest (resumed before.machine.machine reply) → IsSuspended after
    → HasAsked after (waiters ++ waiter ∷ []) (asks ++ Ask before.machine.machine.number request setter ∷ [])
asked_more before after waiters asks request setter waiter reply had asks_it cell is_shown is is_suspended =
    let number = before.machine.machine.number in
    let kept = kept_anew before after reply is in
    let more = one_more (begun_as before.machine.machine) (progress_of before) (requests_in asks) had.replies request reply had.alone asks_it in
    record {
      for_itself = subst (λ n. All (AsksFor n) (asks ++ Ask number request setter ∷ [])) (sym (ap (λ (m : Machine). m.number) kept))
          (All-push (AsksFor number) asks (Ask number request setter) had.for_itself refl);
      no_over = overs-push asks number request setter had.no_over;
      own_cells = cells-push asks number request setter ∙ (λ i. had.own_cells i ++ cell i ∷ [])
          ∙ sym (map-append waiter_cell waiters (waiter ∷ []));
      replies = had.replies ++ reply ∷ [];
      replies_are = map-append shown waiters (waiter ∷ []) ∙ (λ i. had.replies_are i ++ is_shown i ∷ [])
          ∙ sym (map-append Some had.replies (reply ∷ []));
      alone = subst (λ (m : Machine). IsAlone (at_rest (silent m)) (requests_in (asks ++ Ask number request setter ∷ []))
          (had.replies ++ reply ∷ []) (progress_of after)) (sym kept)
          (subst (λ (p : Progress). IsAlone (begun_as before.machine.machine) (requests_in (asks ++ Ask number request setter ∷ []))
          (had.replies ++ reply ∷ []) p) (sym is)
          (subst (λ (rs : List Request). IsAlone (begun_as before.machine.machine) rs (had.replies ++ reply ∷ [])
          (after_reply (progress_of before) reply)) (sym (requests-push asks number request setter)) more));
      is_suspended = is_suspended;
    }

-- the machine that was started by that reply, if one was
pub started_last : (before : SuspendedMachine) (waiters : List (Waiter Reply Wake)) (asks : List Post) (request : Request) (setter : Setter Reply Wake)
    (waiter : Waiter Reply Wake) (reply : Reply) (prefix : Option (List ℕ)) (options : MachineOptions) (started : Option SuspendedMachine)
    → HasAsked before waiters asks → shown waiter ≡ Some reply → prefix ≡ start_prefix request
    → map progress_of (option_to_list started) ≡ started_by prefix options reply → IfSome started IsSuspended
    → IfSome started (λ (suspended : SuspendedMachine). IsSuspended suspended × IsStartedBy (asks ++ Ask before.machine.machine.number request setter ∷ [])
    (shown_by (waiters ++ waiter ∷ [])) options (progress_of suspended))
started_last before waiters asks request setter waiter reply prefix options None had is_shown prefix_is is is_suspended = tt
started_last before waiters asks request setter waiter reply prefix options (Some suspended) had is_shown prefix_is is is_suspended = (
  is_suspended,
  record {
    earlier = requests_in asks;
    request = request;
    requests_are = requests-push asks before.machine.machine.number request setter;
    earlier_replies = had.replies;
    reply = reply;
    as_many = sym (asked_over-length (begun_as before.machine.machine) had.replies) ∙ ap length (sym had.alone.asked)
        ∙ length-map (requests_in asks) Some;
    replies_are = (
      [],
      append-nil (map Some (had.replies ++ reply ∷ [])) ∙ map-append Some had.replies (reply ∷ [])
          ∙ (λ i. sym had.replies_are i ++ sym is_shown i ∷ []) ∙ sym (map-append shown waiters (waiter ∷ [])),
    );
    is = is ∙ ap (λ (p : Option (List ℕ)). started_by p options reply) prefix_is;
  },
)

-- ---- the same machine later

pub later_refl : (threaded : ThreadedMachine) → IsLater threaded threaded
later_refl threaded = record {
  begun = refl;
  number = refl;
  maker = refl;
  posted_before = refl;
  posted = prefix_refl (history_of threaded).posted;
  replies = prefix_refl (replies_to threaded);
  line = refl;
}

pub later_trans : (first second third : ThreadedMachine) → IsLater first second → IsLater second third → IsLater first third
later_trans first second third one other = record {
  begun = other.begun ∙ one.begun;
  number = other.number ∙ one.number;
  maker = other.maker ∙ one.maker;
  posted_before = other.posted_before ∙ one.posted_before;
  posted = prefix_trans (history_of first).posted (history_of second).posted (history_of third).posted one.posted other.posted;
  replies = prefix_trans (replies_to first) (replies_to second) (replies_to third) one.replies other.replies;
  line = other.line ∙ one.line;
}

-- after one post more
pub later_post : (before after : ThreadedMachine) (post : Post) → anew (machine_in after) ≡ anew (machine_in before)
    → history_of after ≡ with_post (history_of before) post → IsPrefix (replies_to before) (replies_to after)
    → client_line after.client ≡ client_line before.client → IsLater before after
later_post before after post begun is replies line = record {
  begun = begun;
  number = ap (λ (h : History Post). h.number) is;
  maker = ap (λ (h : History Post). h.maker) is;
  posted_before = ap (λ (h : History Post). h.posted_before) is;
  posted = (post ∷ [], sym (ap (λ (h : History Post). h.posted) is));
  replies = replies;
  line = line;
}

-- ---- a machine in its thread, before and after it asked, waited for the reply and used it

pub record AskedOnce (before after : ThreadedMachine) (request : Request) (waiter : Waiter Reply Wake) (reply : Reply) : Type 0 where
  pub running : IsRunning before
  pub asks : before.suspended.asks ≡ Some request
  pub setter : Setter Reply Wake
  pub cell : setter_cell setter ≡ waiter_cell waiter
  pub posts : history_of after ≡ with_post (history_of before) (Ask (client_machine before.client) request setter)
  pub own : client_machine after.client ≡ client_machine before.client
  pub line : client_line after.client ≡ client_line before.client
  pub is_shown : shown waiter ≡ Some reply
  pub waiters : after.waiters.items ≡ before.waiters.items ++ waiter ∷ []
  pub rests : progress_of after.suspended ≡ at_rest (resumed (machine_in before) reply)
  pub is_suspended : IsSuspended after.suspended

module _ (before after : ThreadedMachine) (request : Request) (waiter : Waiter Reply Wake) (reply : Reply)
    (once : AskedOnce before after request waiter reply) where
  kept : anew (machine_in after) ≡ anew (machine_in before)
  kept = kept_anew before.suspended after.suspended reply once.rests

  abbrev asked : List Post
  asked = (history_of before).posted ++ Ask (machine_in before).number request once.setter ∷ []

  posts_own : history_of after ≡ with_post (history_of before) (Ask (machine_in before).number request once.setter)
  posts_own = once.posts ∙ ap (λ n. with_post (history_of before) (Ask n request once.setter)) once.running.machine

  posted : (history_of after).posted ≡ asked
  posted = ap (λ (h : History Post). h.posted) posts_own

  pub runs_on : IsRunning after
  runs_on = record {
    machine = once.own ∙ once.running.machine ∙ sym (ap (λ (m : Machine). m.number) kept);
    asked = subst (λ (posts : List Post). HasAsked after.suspended after.waiters.items posts) (sym posted)
        (subst (λ (waiters : List (Waiter Reply Wake)). HasAsked after.suspended waiters asked) (sym once.waiters)
        (asked_more before.suspended after.suspended before.waiters.items (history_of before).posted request once.setter waiter reply
        once.running.asked once.asks once.cell once.is_shown once.rests once.is_suspended));
  }

  pub later_by_one : IsLater before after
  later_by_one = later_post before after (Ask (machine_in before).number request once.setter) kept posts_own
      (shown waiter ∷ [], sym (ap shown_by once.waiters ∙ map-append shown before.waiters.items (waiter ∷ []))) once.line

  pub started_by_it : (prefix : Option (List ℕ)) (started : Option SuspendedMachine) → prefix ≡ start_prefix request
      → map progress_of (option_to_list started) ≡ started_by prefix (machine_in before).options reply → IfSome started IsSuspended
      → IfSome started (λ (suspended : SuspendedMachine). IsSuspended suspended
      × IsStartedBy (history_of after).posted (replies_to after) (machine_in after).options (progress_of suspended))
  started_by_it prefix started prefix_is is all_is_suspended =
      subst (λ (posts : List Post). IfSome started (λ (suspended : SuspendedMachine). IsSuspended suspended
      × IsStartedBy posts (replies_to after) (machine_in after).options (progress_of suspended))) (sym posted)
      (subst (λ (waiters : List (Waiter Reply Wake)). IfSome started (λ (suspended : SuspendedMachine). IsSuspended suspended
      × IsStartedBy asked (shown_by waiters) (machine_in after).options (progress_of suspended))) (sym once.waiters)
      (subst (λ options. IfSome started (λ (suspended : SuspendedMachine). IsSuspended suspended
      × IsStartedBy asked (shown_by (before.waiters.items ++ waiter ∷ [])) options (progress_of suspended))) (sym (ap (λ (m : Machine). m.options) kept))
      (started_last before.suspended before.waiters.items (history_of before).posted request once.setter waiter reply prefix
      (machine_in before).options started once.running.asked once.is_shown prefix_is is all_is_suspended)))
