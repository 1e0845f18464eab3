-- What the thread of the core and the threads of machines came back with is a run.
use Rattle.std.proofs.Common.{◌≡◌, ℕ, ◌+◌, ◌<◌, ◌≤◌, inl, inr, false, cond, List, [], ◌∷◌, ◌++◌, length, map, Option, Some, None, refl, sym, ap, subst, ◌∙◌, length-append, arith}
use Rattle.std.specs.Prelude.{flat_map, is_some, option_and_then, slice_get}
use Rattle.std.specs.List.{All, Any}
use Rattle.std.proofs.lemmas.List.{length-map}
use Rattle.std.proofs.lemmas.List.Elements.{All-cons, All-same, All-tail}
use Rattle.std.proofs.lemmas.List.Sorted.{All-permutation, IsPermutation-sym, length_permutation}
use Rattle.std.proofs.lemmas.List.Sums.{sum_by-cons}
use Rattle.std.proofs.lemmas.Option.{slice_get_within}
use mathlib.Core.List.{head-eq_of_cons-eq}
use Rattle.outside.specs.Seeds.{words_from}
use Rattle.fdb_calls.specs.declared.Request.{Request}
use Rattle.fdb_calls.specs.declared.Reply.{Reply}
use Rattle.fdb_calls.specs.declared.Reply.TheVariants as reply
use Rattle.future_cell.specs.declared.setter.Receipt.{Receipt}
use Rattle.future_cell.specs.declared.wake.Wake.{Wake}
use Rattle.request_line.specs.declared.history.History.{History}
use Rattle.request_line.specs.Taking.{IsOfThese}
use Rattle.network.specs.declared.post.Post.{Post}
use Rattle.network.specs.declared.post.Post.TheVariants.{Ask}
use Rattle.network.specs.Posts.{posts_of, asked_in}
use Rattle.network.specs.Serving.{is_started, replies_of, started_by as count_started}
use Rattle.network.specs.Pairing.{AsksAsOne}
use Rattle.model_commands.specs.declared.args.RunArgs.{RunArgs}
use Rattle.model_machine.specs.declared.MachineOptions.{MachineOptions}
use Rattle.model_machine.specs.Worlds.{begun, instruction_pairs, newest}
use Rattle.model_machine.specs.Machines.{Machine, Progress, silent}
use Rattle.model_machine.specs.Runs.{RunsTo, at_rest, machine_options, start, start_prefix, started, started_by}
use Rattle.laws_threads.specs.Alone.{anew, begun_as}
use Rattle.laws_threads.specs.Weaving.{Place, IsAloneAt, places_over, started_at}
use Rattle.laws_threads.proofs.Alone.{anew_started, at_rest_anew, started_begun}
use Rattle.laws_threads.proofs.Places.{order_of_places}
use Rattle.laws_threads.proofs.Weaving.{weave_to_a_whole_run}
use Rattle.suspended_machine.specs.declared.suspended.SuspendedMachine.{SuspendedMachine}
use Rattle.suspended_machine.specs.SuspendedMachines.{progress_of, IsSuspended}
use Rattle.threaded_machine.specs.declared.threaded.ThreadedMachine.{ThreadedMachine}
use Rattle.threaded_machine.specs.Threaded.{history_of, machine_in, HasEnded, HasStarted}
use Rattle.machine_threads.specs.Teams.{HasOptionsOf}
use Rattle.machine_threads.specs.Closing.{IsSettledOf, IsTakenOf}
use Rattle.core_service.specs.declared.service.CoreService.{CoreService}
use Rattle.core_service.specs.Serving.{CoreAnswers}
use Rattle.core_service.specs.Threads.{AreThreaded, IsBegunIn, IsFirst}
use Rattle.core_service.specs.Gathering.{AreGathered, HasRun, GatherToARun}
use Rattle.core_service.proofs.Lists.{all_at_seam, all_of_each, each_of_all, found_there, mapped_there}
use Rattle.core_service.proofs.Served.{HasServed, served_steps}
use Rattle.core_service.proofs.Places.{taken_at}
use Rattle.core_service.proofs.Threads.{weave}
use Rattle.core_service.proofs.Gathered.{alone_at, started_in}

-- ---- how many machines there are

one_by_reply : (prefix : Option (List ℕ)) (options : MachineOptions) (given : Reply)
    → length (started_by prefix options given) ≤ cond (is_started (Some given)) 1 0
one_by_reply None options given = omega arith
one_by_reply (Some prefix) options (reply.Started number pairs) = omega arith
one_by_reply (Some prefix) options given = omega arith

-- as many were started at places as replies say so, at most
few_started : (options : MachineOptions) (asked : List (ℕ × Request)) (replies : List Reply)
    → length (flat_map (started_at options) (places_over asked replies)) ≤ count_started (map Some replies)
few_started options [] replies = omega arith
few_started options (first ∷ asked) [] = omega arith
few_started options (first ∷ asked) (given ∷ replies) =
    omega (
      arith,
      length-append (started_by (start_prefix first.1) options given)
          (flat_map (started_at options) (places_over asked replies)),
      one_by_reply (start_prefix first.1) options given,
      sum_by-cons (λ (r : Option Reply). cond (is_started r) 1 0) (Some given) (map Some replies),
      few_started options asked replies,
    )

-- ---- machine 0

number_is : (number : ℕ) (prefix : List ℕ) (options : MachineOptions) (pairs : List (List ℕ × List ℕ))
    → ((started number prefix options pairs).number ≡ number) × ((started number prefix options pairs).options ≡ options)
unfolding started
number_is number prefix options pairs = (refl, refl)

-- ---- all that came back

module _ (pairs : List (List ℕ × List ℕ)) (arguments : RunArgs) (before after : CoreService) (taken : List (ℕ × Post)) (order : List ℕ)
    (receipts : List (Receipt Reply Wake)) (first : ThreadedMachine) (ended : List ThreadedMachine) (suspended_machines : List SuspendedMachine)
    (gathered : AreGathered pairs arguments before after taken order receipts first ended suspended_machines) where
  abbrev asked : List (ℕ × Request)
  asked = asked_in (posts_of taken)

  abbrev its_pairs : List (List ℕ × List ℕ)
  its_pairs = instruction_pairs arguments.prefix (newest (begun pairs arguments))

  abbrev numbered : List ThreadedMachine
  numbered = gathered.settled.numbered

  served : HasServed (begun pairs arguments) asked (replies_of receipts) after.core (words_from after.words)
  served =
      served_steps CoreAnswers (λ (s : CoreService). s.core) (λ (s : CoreService). words_from s.words)
      (λ s machine request given t answers. answers) asked (replies_of receipts) before after (begun pairs arguments)
      gathered.served.run gathered.served.has_memory gathered.stands gathered.has_words

  abbrev places : List Place
  places = places_over asked served.replies

  -- the first machine is machine 0

  first_started : progress_of first.suspended ≡ at_rest (silent (started 0 arguments.prefix (machine_options arguments) its_pairs))
  first_started = sym (head-eq_of_cons-eq gathered.starts)

  first_anew : anew (machine_in first) ≡ started 0 arguments.prefix (machine_options arguments) its_pairs
  first_anew =
      ap (λ (p : Progress). anew p.machine) first_started
      ∙ at_rest_anew (silent (started 0 arguments.prefix (machine_options arguments) its_pairs))
      ∙ anew_started 0 arguments.prefix (machine_options arguments) its_pairs

  first_options : (machine_in first).options ≡ machine_options arguments
  first_options = ap (λ (m : Machine). m.options) first_anew ∙ (number_is 0 arguments.prefix (machine_options arguments) its_pairs).1

  own_first : IsFirst pairs arguments (machine_in gathered.team.own).number (begun_as (machine_in gathered.team.own))
  own_first = record {
    number_is = ap (λ (m : Machine). m.number) (gathered.team.later.begun ∙ first_anew)
        ∙ (number_is 0 arguments.prefix (machine_options arguments) its_pairs).0;
    starts = gathered.starts
        ∙ ap (λ (p : Progress). p ∷ []) (started_begun 0 arguments.prefix (machine_options arguments) its_pairs (progress_of first.suspended) first_started
        ∙ sym (ap (λ (m : Machine). at_rest (silent m)) gathered.team.later.begun));
  }

  -- each of the others was started at one of the places

  ended_taken : All (IsTakenOf taken) ended
  ended_taken =
      All-permutation (IsTakenOf taken) numbered ended (IsPermutation-sym ended numbered gathered.settled.all_of_them)
      gathered.settled.are_taken

  ended_settled : All (IsSettledOf order receipts) ended
  ended_settled =
      All-permutation (IsSettledOf order receipts) numbered ended (IsPermutation-sym ended numbered gathered.settled.all_of_them)
      gathered.settled.are_settled

  abbrev IsBegun : ThreadedMachine → Type 0
  IsBegun one = IsBegunIn pairs arguments places (machine_in one).number (begun_as (machine_in one))

  begun_by : (starter other : ThreadedMachine) (place : ℕ) → slice_get ended place ≡ Some starter → IsTakenOf taken other
      → HasStarted starter other → IsBegun other
  begun_by starter other place there other_taken has_started =
      inr (started_in taken order receipts served.replies gathered.served.order_is served.given_are served.as_many starter other
      (each_of_all (IsTakenOf taken) ended ended_taken place starter there)
      (each_of_all (IsSettledOf order receipts) ended ended_settled place starter there) other_taken has_started arguments
      (each_of_all (HasOptionsOf first) ended gathered.team.same_options place starter there ∙ first_options))

  others_begun : All IsBegun gathered.team.others
  others_begun = λ k d inside.
      let other_taken = All-tail (IsTakenOf taken) gathered.team.own gathered.team.others
      (subst (All (IsTakenOf taken)) gathered.team.parts ended_taken) k d inside in
      let it = found_there (λ (starter : ThreadedMachine). HasStarted starter _) ended (gathered.team.have_started k d inside) in
      begun_by it.found _ it.place it.there other_taken it.holds

  all_begun : All IsBegun numbered
  all_begun =
      All-permutation IsBegun ended numbered gathered.settled.all_of_them
      (All-same IsBegun ended (gathered.team.own ∷ gathered.team.others) gathered.team.parts
      (All-cons IsBegun gathered.team.own gathered.team.others (inl own_first) others_begun))

  all_ended : All HasEnded numbered
  all_ended = All-permutation HasEnded ended numbered gathered.settled.all_of_them gathered.team.have_ended

  -- ---- the machines by their numbers

  record IsSuspendedMachineOf (number : ℕ) (suspended : SuspendedMachine) : Type 0 where
    pub one : ThreadedMachine
    pub there : slice_get numbered number ≡ Some one
    pub is : one.suspended ≡ suspended

  suspended_of : (number : ℕ) (suspended : SuspendedMachine) → slice_get suspended_machines number ≡ Some suspended → IsSuspendedMachineOf number suspended
  suspended_of number suspended e =
      let it = mapped_there (λ (one : ThreadedMachine). one.suspended) numbered number suspended
      (ap (λ (l : List SuspendedMachine). slice_get l number) gathered.settled.suspended_machines_are ∙ e) in
      record { one = it.from; there = it.there; is = it.is }

  record IsMachineOf (number : ℕ) (now : Progress) : Type 0 where
    pub one : ThreadedMachine
    pub there : slice_get numbered number ≡ Some one
    pub is : progress_of one.suspended ≡ now

  machine_of : (number : ℕ) (now : Progress) → slice_get (map progress_of suspended_machines) number ≡ Some now → IsMachineOf number now
  machine_of number now e =
      let at_suspended = mapped_there progress_of suspended_machines number now e in
      let its = suspended_of number at_suspended.from at_suspended.there in
      record { one = its.one; there = its.there; is = ap progress_of its.is ∙ at_suspended.is }

  as_long : length (map progress_of suspended_machines) ≡ length numbered
  as_long =
      length-map suspended_machines progress_of ∙ ap length (sym gathered.settled.suspended_machines_are)
      ∙ length-map numbered (λ (one : ThreadedMachine). one.suspended)

  -- each place is of one of them
  within : (front rest : List Place) (place : Place) → places ≡ front ++ place ∷ rest → place.machine < length (map progress_of suspended_machines)
  within front rest place is =
      let at = taken_at taken served.replies front rest place is in
      let mail : ℕ × Post = (at.sender, Ask place.machine place.request at.setter) in
      let sent = all_at_seam (λ (m : ℕ × Post). Any (λ (h : History Post). h.number ≡ m.0) (map history_of numbered)) at.before mail at.behind
      (subst (λ (l : List (ℕ × Post)). IsOfThese l (map history_of numbered)) at.parts gathered.settled.of_these) in
      let found = found_there (λ (h : History Post). h.number ≡ at.sender) (map history_of numbered) sent in
      let its = mapped_there history_of numbered found.place found.found found.there in
      let asks = all_at_seam (AsksAsOne (machine_in its.from).number (history_of its.from).number) at.before mail at.behind
      (subst (λ (l : List (ℕ × Post)). All (AsksAsOne (machine_in its.from).number (history_of its.from).number) l) at.parts
      (each_of_all (IsTakenOf taken) numbered gathered.settled.are_taken found.place its.from its.there).0) in
      let number = asks.1 (sym found.holds ∙ sym (ap (λ (h : History Post). h.number) its.is))
      ∙ gathered.settled.by_number found.place its.from its.there in
      omega (arith, number, slice_get_within numbered found.place its.from its.there, as_long)

  threaded : AreThreaded pairs arguments places served.last (map progress_of suspended_machines)
  threaded = record {
    steps = served.steps;
    numbered = λ number now e.
        let it = machine_of number now e in
        ap (λ (p : Progress). p.machine.number) (sym it.is) ∙ gathered.settled.by_number number it.one it.there;
    alone = λ number now e.
        let it = machine_of number now e in
        subst (λ (p : Progress). IsAloneAt number places (begun_as p.machine) p) it.is
        (subst (λ n. IsAloneAt n places (begun_as (machine_in it.one)) (progress_of it.one.suspended))
        (gathered.settled.by_number number it.one it.there)
        (alone_at taken order receipts served.replies gathered.served.order_is served.given_are served.as_many it.one
        (each_of_all HasEnded numbered all_ended number it.one it.there)
        (each_of_all (IsTakenOf taken) numbered gathered.settled.are_taken number it.one it.there)
        (each_of_all (IsSettledOf order receipts) numbered gathered.settled.are_settled number it.one it.there)));
    begins = λ number now e.
        let it = machine_of number now e in
        subst (λ (p : Progress). IsBegunIn pairs arguments places number (begun_as p.machine)) it.is
        (subst (λ n. IsBegunIn pairs arguments places n (begun_as (machine_in it.one)))
        (gathered.settled.by_number number it.one it.there)
        (each_of_all IsBegun numbered all_begun number it.one it.there));
    within = within;
    as_many = omega (
      arith,
      length-append (start pairs arguments).machines (flat_map (started_at (machine_options arguments)) places),
      ap length gathered.starts,
      few_started (machine_options arguments) asked served.replies,
      ap count_started served.given_are,
      gathered.as_many,
      length_permutation ended numbered gathered.settled.all_of_them,
      as_long,
    );
  }

  -- ---- the run

  stops : (number : ℕ) (now : Progress) → slice_get (map progress_of suspended_machines) number ≡ Some now → now.asks ≡ None
  stops number now e =
      let it = machine_of number now e in
      ap (λ (p : Progress). p.asks) (sym it.is) ∙ (each_of_all HasEnded numbered all_ended number it.one it.there).asks_none

  none_asks : (number : ℕ) (found : Option SuspendedMachine) → slice_get suspended_machines number ≡ found
      → is_some (option_and_then (λ (suspended : SuspendedMachine). suspended.asks) found) ≡ false
  none_asks number None e = refl
  none_asks number (Some suspended) e =
      let it = suspended_of number suspended e in
      ap is_some (ap (λ (s : SuspendedMachine). s.asks) (sym it.is) ∙ (each_of_all HasEnded numbered all_ended number it.one it.there).asks_none)

  pub gather : HasRun pairs arguments after order suspended_machines
  gather = record {
    world = served.last;
    stands = served.stands;
    has_words = served.has_words;
    runs = subst (λ (o : List ℕ). RunsTo pairs arguments o (record { world = served.last; machines = map progress_of suspended_machines }))
        (order_of_places asked served.replies served.as_many ∙ sym gathered.served.order_is)
        (weave_to_a_whole_run pairs arguments places served.last (map progress_of suspended_machines)
        (weave pairs arguments places served.last (map progress_of suspended_machines) threaded)
        (all_of_each (λ (p : Progress). p.asks ≡ None) (map progress_of suspended_machines) stops));
    is_suspended = λ number suspended e.
        let it = suspended_of number suspended e in
        subst IsSuspended it.is (each_of_all HasEnded numbered all_ended number it.one it.there).asked.is_suspended;
    none_asks = λ number. none_asks number (slice_get suspended_machines number) refl;
  }

pub gather_to_a_run : GatherToARun
gather_to_a_run pairs arguments before after taken order receipts first ended suspended_machines gathered =
    gather pairs arguments before after taken order receipts first ended suspended_machines gathered
