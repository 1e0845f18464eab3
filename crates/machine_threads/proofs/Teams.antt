-- One machine alone as a team, and two teams as one.
use Rattle.std.proofs.Common.{◌≡◌, ℕ, ◌+◌, ◌^◌, ◌<◌, ◌≤◌, ⊎_elim, List, [], ◌∷◌, ◌++◌, map, Option, Some, None, Result, Ok, Err, IfOk, IsOk, OnOk, refl, sym, ap, subst, true≢false, ◌∙◌}
use Rattle.std.specs.List.{All, Any}
use Rattle.std.proofs.lemmas.List.Elements.{All-append, All-cons, All-nil, All-same, All-weaker}
use mathlib.Core.List.{IsPrefix, cons≢nil, head-eq_of_cons-eq}
use Rattle.fdb_calls.specs.declared.Reply.{Reply}
use Rattle.fdb_calls.specs.declared.Reply.TheVariants as reply
use Rattle.request_line.specs.declared.history.History.{History}
use Rattle.request_line.specs.History.{lower_half, upper_half, AreTogether, IsInSpan}
use Rattle.network.specs.declared.post.Post.{Post}
use Rattle.network.specs.Clients.{client_line}
use Rattle.model_machine.specs.declared.MachineOptions.{MachineOptions}
use Rattle.model_machine.specs.Machines.{Machine, Progress, silent}
use Rattle.model_machine.specs.Runs.{at_rest, start_prefix, started, started_by}
use Rattle.laws_threads.specs.Alone.{begun_as}
use Rattle.laws_threads.proofs.Alone.{at_rest_anew, begun_by}
use Rattle.suspended_machine.specs.declared.suspended.SuspendedMachine.{SuspendedMachine}
use Rattle.suspended_machine.specs.SuspendedMachines.{progress_of}
use Rattle.threaded_machine.specs.declared.threaded.ThreadedMachine.{ThreadedMachine}
use Rattle.threaded_machine.specs.Threaded.{history_of, machine_in, replies_to, HasEnded, HasStarted, IsLater, IsStartedBy}
use Rattle.machine_threads.specs.Teams.{HasOptionsOf, IsTeamOf}
use Rattle.threaded_machine.proofs.Lists.{Any_back, Any_first, Any_front, prefix_trans}
use Rattle.threaded_machine.proofs.Running.{later_trans}

-- a machine that started none
pub one_team : (machine own : ThreadedMachine) → IsLater machine own → HasEnded own → (history_of own).room ≡ (history_of machine).room
    → IsTeamOf machine (own ∷ [])
one_team machine own later ended room = record {
  own = own;
  others = [];
  parts = refl;
  later = later;
  have_ended = All-cons HasEnded own [] ended (All-nil HasEnded);
  have_started = All-nil (λ (other : ThreadedMachine). Any (λ (starter : ThreadedMachine). HasStarted starter other) (own ∷ []));
  one_line = All-cons (λ (one : ThreadedMachine). client_line one.client ≡ client_line machine.client) own [] later.line
      (All-nil (λ (one : ThreadedMachine). client_line one.client ≡ client_line machine.client));
  same_options = All-cons (HasOptionsOf machine) own [] (ap (λ (m : Machine). m.options) later.begun) (All-nil (HasOptionsOf machine));
  cover = λ p inside. Any_first (λ (one : ThreadedMachine). IsInSpan (history_of one) p) own [] (
    subst (λ n. n ≤ p) (sym later.number) inside.0,
    subst (λ n. p < n) (λ i. sym later.number i + 2 ^ sym room i) inside.1,
  );
}

-- the same team, of a machine that was the same before
pub earlier_team : (before machine : ThreadedMachine) (ended : List ThreadedMachine) → IsLater before machine
    → (history_of machine).room ≡ (history_of before).room → IsTeamOf machine ended → IsTeamOf before ended
earlier_team before machine ended later room team = record {
  own = team.own;
  others = team.others;
  parts = team.parts;
  later = later_trans before machine team.own later team.later;
  have_ended = team.have_ended;
  have_started = team.have_started;
  one_line = All-weaker (λ (one : ThreadedMachine). client_line one.client ≡ client_line machine.client)
      (λ (one : ThreadedMachine). client_line one.client ≡ client_line before.client) (λ one is. is ∙ later.line) ended team.one_line;
  same_options = All-weaker (HasOptionsOf machine) (HasOptionsOf before)
      (λ it is. is ∙ ap (λ (m : Machine). m.options) later.begun) ended team.same_options;
  cover = λ p inside. team.cover p (
    subst (λ n. n ≤ p) (sym later.number) inside.0,
    subst (λ n. p < n) (λ i. sym later.number i + 2 ^ sym room i) inside.1,
  );
}

-- ---- a machine and one that it started

-- a machine that was started has the options of its starter
begun_options : (prefix : Option (List ℕ)) (options : MachineOptions) (given : Reply) (begun : Progress) → begun ∷ [] ≡ started_by prefix options given
    → begun.machine.options ≡ options
unfolding started
begun_options None options given begun is = absurd (cons≢nil is)
begun_options (Some prefix) options (reply.Started number pairs) begun is =
    ap (λ (p : Progress). p.machine.options) (head-eq_of_cons-eq is)
    ∙ ap (λ (m : Machine). m.options) (at_rest_anew (silent (started number prefix options pairs)))
begun_options (Some prefix) options given begun is = absurd (cons≢nil is)

-- a machine before and after its sender was split, and one that it started and that got the other half
pub record StandBeside (machine kept other : ThreadedMachine) (begun : Progress) : Type 0 where
  pub later : IsLater machine kept
  pub kept_is : history_of kept ≡ lower_half (history_of machine)
  pub other_is : history_of other ≡ upper_half (history_of machine)
  pub together : AreTogether (history_of kept) (history_of other) (history_of machine)
  pub one_line : client_line other.client ≡ client_line machine.client
  pub started : IsStartedBy (history_of machine).posted (replies_to machine) (machine_in machine).options begun
  pub begun_is : begun_as (machine_in other) ≡ begun
  pub options_are : (machine_in other).options ≡ (machine_in machine).options

-- such machines, where the other is seated as it was started
pub stand_beside : (machine kept other : ThreadedMachine) (suspended : SuspendedMachine) → IsLater machine kept
    → history_of kept ≡ lower_half (history_of machine) → history_of other ≡ upper_half (history_of machine)
    → AreTogether (history_of kept) (history_of other) (history_of machine) → client_line other.client ≡ client_line machine.client
    → IsStartedBy (history_of machine).posted (replies_to machine) (machine_in machine).options (progress_of suspended) → other.suspended ≡ suspended
    → StandBeside machine kept other (progress_of suspended)
stand_beside machine kept other suspended later kept_is other_is together one_line started its_suspended = record {
  later = later;
  kept_is = kept_is;
  other_is = other_is;
  together = together;
  one_line = one_line;
  started = started;
  begun_is = ap (λ (s : SuspendedMachine). begun_as s.machine.machine) its_suspended
      ∙ sym (begun_by (start_prefix started.request) (machine_in machine).options started.reply (progress_of suspended) started.is);
  options_are = ap (λ (s : SuspendedMachine). s.machine.machine.options) its_suspended
      ∙ begun_options (start_prefix started.request) (machine_in machine).options started.reply (progress_of suspended) started.is;
}

abbrev IsStartedIn : List ThreadedMachine → ThreadedMachine → Type 0
IsStartedIn ended other = Any (λ (starter : ThreadedMachine). HasStarted starter other) ended

module _ (machine kept other : ThreadedMachine) (begun : Progress) (first second : List ThreadedMachine)
    (beside : StandBeside machine kept other begun) (one : IsTeamOf kept first) (two : IsTeamOf other second) where
  own_later : IsLater machine one.own
  own_later = later_trans machine kept one.own beside.later one.later

  its_posted_before : (history_of two.own).posted_before ≡ (history_of machine).posted
  its_posted_before = two.later.posted_before ∙ ap (λ (h : History Post). h.posted_before) beside.other_is

  started_by_own : IsStartedBy (history_of machine).posted (replies_to one.own) (machine_in one.own).options (begun_as (machine_in two.own))
  started_by_own = record {
    earlier = beside.started.earlier;
    request = beside.started.request;
    requests_are = beside.started.requests_are;
    earlier_replies = beside.started.earlier_replies;
    reply = beside.started.reply;
    as_many = beside.started.as_many;
    replies_are = prefix_trans (map Some (beside.started.earlier_replies ++ beside.started.reply ∷ [])) (replies_to machine)
        (replies_to one.own) beside.started.replies_are own_later.replies;
    is = (λ i. (ap (λ (m : Machine). at_rest (silent m)) two.later.begun ∙ beside.begun_is) i ∷ []) ∙ beside.started.is
        ∙ ap (λ (m : Machine). started_by (start_prefix beside.started.request) m.options beside.started.reply) (sym own_later.begun);
  }

  own_started : HasStarted one.own two.own
  own_started = record {
    maker = two.later.maker ∙ ap (λ (h : History Post). h.maker) beside.other_is ∙ sym own_later.number;
    posted = subst (λ (posts : List Post). IsPrefix posts (history_of one.own).posted) (sym its_posted_before) own_later.posted;
    by_it = subst (λ (posts : List Post). IsStartedBy posts (replies_to one.own) (machine_in one.own).options (begun_as (machine_in two.own)))
        (sym its_posted_before) started_by_own;
  }

  first_started : All (IsStartedIn (first ++ second)) one.others
  first_started = All-weaker (IsStartedIn first) (IsStartedIn (first ++ second))
      (λ it found. Any_front (λ (starter : ThreadedMachine). HasStarted starter it) first second found) one.others one.have_started

  later_started : All (IsStartedIn (first ++ second)) two.others
  later_started = All-weaker (IsStartedIn second) (IsStartedIn (first ++ second))
      (λ it found. Any_back (λ (starter : ThreadedMachine). HasStarted starter it) first second found) two.others two.have_started

  second_started : All (IsStartedIn (first ++ second)) second
  second_started = All-same (IsStartedIn (first ++ second)) second (two.own ∷ two.others) two.parts
      (All-cons (IsStartedIn (first ++ second)) two.own two.others
      (Any_front (λ (starter : ThreadedMachine). HasStarted starter two.own) first second
      (subst (λ (all : List ThreadedMachine). IsStartedIn all two.own) (sym one.parts)
      (Any_first (λ (starter : ThreadedMachine). HasStarted starter two.own) one.own one.others own_started)))
      later_started)

  pub two_teams : IsTeamOf machine (first ++ second)
  two_teams = record {
    own = one.own;
    others = one.others ++ second;
    parts = ap (λ (all : List ThreadedMachine). all ++ second) one.parts;
    later = own_later;
    have_ended = All-append HasEnded first second one.have_ended two.have_ended;
    have_started = All-append (IsStartedIn (first ++ second)) one.others second first_started second_started;
    one_line = All-append (λ (it : ThreadedMachine). client_line it.client ≡ client_line machine.client) first second
        (All-weaker (λ (it : ThreadedMachine). client_line it.client ≡ client_line kept.client)
        (λ (it : ThreadedMachine). client_line it.client ≡ client_line machine.client) (λ it is. is ∙ beside.later.line) first one.one_line)
        (All-weaker (λ (it : ThreadedMachine). client_line it.client ≡ client_line other.client)
        (λ (it : ThreadedMachine). client_line it.client ≡ client_line machine.client) (λ it is. is ∙ beside.one_line) second two.one_line);
    same_options = All-append (HasOptionsOf machine) first second
        (All-weaker (HasOptionsOf kept) (HasOptionsOf machine) (λ it is. is ∙ ap (λ (m : Machine). m.options) beside.later.begun) first
        one.same_options)
        (All-weaker (HasOptionsOf other) (HasOptionsOf machine) (λ it is. is ∙ beside.options_are) second two.same_options);
    cover = λ p inside.
        ⊎_elim (λ low. Any_front (λ (it : ThreadedMachine). IsInSpan (history_of it) p) first second (one.cover p low))
        (λ high. Any_back (λ (it : ThreadedMachine). IsInSpan (history_of it) p) first second (two.cover p high))
        ((beside.together p).1 inside);
  }

-- the machines that come back from both, where both come back
pub join_teams : {V E : Type 0} (items : V → List ThreadedMachine) (machine kept other : ThreadedMachine) (begun : Progress)
    (result own others : Result V E) → StandBeside machine kept other begun
    → IfOk result (λ ended. IfOk own (λ first. IfOk others (λ second. items ended ≡ items first ++ items second)))
    → OnOk result (IsOk own) → OnOk result (IsOk others) → IfOk own (λ first. IsTeamOf kept (items first))
    → IfOk others (λ second. IsTeamOf other (items second)) → IfOk result (λ ended. IsTeamOf machine (items ended))
join_teams items machine kept other begun (Ok ended) (Ok first) (Ok second) beside are own_ok others_ok one two =
    subst (IsTeamOf machine) (sym are) (two_teams machine kept other begun (items first) (items second) beside one two)
join_teams items machine kept other begun (Ok ended) (Ok first) (Err refused) beside are own_ok others_ok one two = absurd (true≢false (sym others_ok))
join_teams items machine kept other begun (Ok ended) (Err refused) others beside are own_ok others_ok one two = absurd (true≢false (sym own_ok))
join_teams items machine kept other begun (Err refused) own others beside are own_ok others_ok one two = tt
