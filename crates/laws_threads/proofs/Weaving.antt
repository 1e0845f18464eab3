-- The run of machines that ran by themselves.
use Rattle.std.proofs.Common.{◌≡◌, ℕ, suc, ◌+◌, ◌<◌, Bool, true, cond, ◌&&◌, List, [], ◌∷◌, ◌++◌, length, Option, Some, None, refl, sym, ap, subst, ◌∙◌, append_assoc, length-append, eq-eqb, ne_eqb}
use Rattle.std.specs.Prelude.{flat_map, option_and_then, option_map, slice_get, slice_set}
use Rattle.std.specs.List.{list_all}
use Rattle.std.proofs.lemmas.List.{append-nil, length-set}
use Rattle.std.proofs.lemmas.Option.{get_or_from_slice_get, none-some, slice_get_within}
use native.Mathlib.Decide.{ℕ_discrete}
use Rattle.fdb_calls.specs.declared.Request.{Request}
use Rattle.fdb_calls.specs.declared.Reply.{Reply}
use Rattle.fdb_calls.specs.declared.Reply.TheVariants as reply
use Rattle.model_commands.specs.declared.args.RunArgs.{RunArgs}
use Rattle.model_machine.specs.declared.MachineOptions.{MachineOptions}
use Rattle.model_machine.specs.Worlds.{World, begun, instruction_pairs, newest, step}
use Rattle.model_machine.specs.Machines.{Machine, Progress, resumed, silent}
use Rattle.model_machine.specs.Runs.{Run, at_rest, has_stopped, machine_options, replied, run_from, start, start_prefix, started, started_by, take_place, taken}
use Rattle.laws_threads.specs.Alone.{IsAlone, after_reply}
use Rattle.laws_threads.specs.Weaving.{Place, AreSteps, IsAloneAt, WeaveToARun, WeaveToAWholeRun, all_begun, order_of, places_of, replies_at, requests_at, started_at}
use Rattle.laws_threads.proofs.Lists.{EachAt, each_append, each_one, each_set, get_front, get_set_other, get_set_same, same_places, set_front, there}
use Rattle.laws_threads.proofs.Alone.{IsAtRest, after_replies-rests, after_reply-anew, at_rest_anew, at_rest_rests, first_asked, later_alone, rest_stops}

-- ---- the places of one machine

own_places : (place : Place) (places : List Place) → places_of place.machine (place ∷ places) ≡ place ∷ places_of place.machine places
own_places place places =
    ap (λ b. cond b (place ∷ places_of place.machine places) (places_of place.machine places)) (eq-eqb place.machine place.machine refl)

other_places : (number : ℕ) (place : Place) (places : List Place) → (place.machine ≡ number → ⊥)
    → places_of number (place ∷ places) ≡ places_of number places
other_places number place places other =
    ap (λ b. cond b (place ∷ places_of number places) (places_of number places)) (ne_eqb place.machine number other)

-- ---- a run, and what is still to come

-- the machines of a run, and those that are still to be started at these places
abbrev all_from : Run → MachineOptions → List Place → List Progress
all_from run options places = run.machines ++ flat_map (started_at options) places

record IsAhead (run : Run) (options : MachineOptions) (places : List Place) (last : World) (ends : List Progress) : Type 0 where
  pub steps : AreSteps run.world places last
  pub same_options : EachAt (λ (progress : Progress). progress.machine.options ≡ options) run.machines
  pub in_time : (front rest : List Place) (place : Place) → places ≡ front ++ place ∷ rest
      → place.machine < length (all_from run options front)
  pub as_many : length ends ≡ length (all_from run options places)
  pub alone : (number : ℕ) (first now : Progress) → slice_get (all_from run options places) number ≡ Some first
      → slice_get ends number ≡ Some now → IsAloneAt number places first now

-- the run after a place, whose machine had come to this
abbrev after_place : Run → MachineOptions → Place → Progress → Run
after_place run options place progress = record {
  world = (step run.world place.request).world;
  machines = slice_set run.machines place.machine (after_reply progress place.reply) ++ started_at options place;
}

place_taken : (run : Run) (options : MachineOptions) (place : Place) (progress : Progress) → slice_get run.machines place.machine ≡ Some progress
    → progress.asks ≡ Some place.request → (step run.world place.request).reply ≡ place.reply → progress.machine.options ≡ options
    → take_place place.machine run ≡ Some (after_place run options place progress)
unfolding take_place
place_taken run options place progress is asks replies same_options =
    ap (option_and_then (λ (p : Progress). taken run place.machine p)) is
    ∙ ap (option_map (λ (request : Request). replied run place.machine progress.machine request (step run.world request))) asks
    ∙ (λ i. Some (record {
      world = (step run.world place.request).world;
      machines = slice_set run.machines place.machine (at_rest (resumed progress.machine (replies i)))
          ++ started_by (start_prefix place.request) (same_options i) (replies i);
    }))

options_are : (number : ℕ) (prefix : List ℕ) (options : MachineOptions) (pairs : List (List ℕ × List ℕ))
    → (started number prefix options pairs).options ≡ options
unfolding started
options_are number prefix options pairs = refl

-- a machine that was started has these options
started_options : (prefix : Option (List ℕ)) (options : MachineOptions) (given : Reply)
    → EachAt (λ (progress : Progress). progress.machine.options ≡ options) (started_by prefix options given)
started_options None options given = λ i x e. absurd (none-some x e)
started_options (Some prefix) options (reply.Started number pairs) =
    each_one (λ (progress : Progress). progress.machine.options ≡ options) (at_rest (silent (started number prefix options pairs)))
    (ap (λ (m : Machine). m.options) (at_rest_anew (silent (started number prefix options pairs))) ∙ options_are number prefix options pairs)
started_options (Some prefix) options given = λ i x e. absurd (none-some x e)

-- as many machines, with those of one place more
as_many_after : (run : Run) (options : MachineOptions) (place : Place) (progress : Progress) (places : List Place)
    → length (all_from run options (place ∷ places)) ≡ length (all_from (after_place run options place progress) options places)
as_many_after run options place progress places =
    ap length (sym (append_assoc run.machines (started_at options place) (flat_map (started_at options) places)))
    ∙ length-append (run.machines ++ started_at options place) (flat_map (started_at options) places)
    ∙ ap (λ n. n + length (flat_map (started_at options) places))
    (length-append run.machines (started_at options place)
    ∙ ap (λ n. n + length (started_at options place)) (sym (length-set run.machines place.machine (after_reply progress place.reply)))
    ∙ sym (length-append (slice_set run.machines place.machine (after_reply progress place.reply)) (started_at options place)))
    ∙ sym (length-append (after_place run options place progress).machines (flat_map (started_at options) places))

-- the same machines, but that of the place
set_after : (run : Run) (options : MachineOptions) (place : Place) (progress : Progress) (places : List Place) → place.machine < length run.machines
    → all_from (after_place run options place progress) options places
    ≡ slice_set (all_from run options (place ∷ places)) place.machine (after_reply progress place.reply)
set_after run options place progress places inside =
    append_assoc (slice_set run.machines place.machine (after_reply progress place.reply)) (started_at options place)
    (flat_map (started_at options) places)
    ∙ sym (set_front run.machines (flat_map (started_at options) (place ∷ places)) place.machine
    (after_reply progress place.reply) inside)

module _ (run : Run) (options : MachineOptions) (place : Place) (places : List Place) (last : World) (ends : List Progress)
    (ahead : IsAhead run options (place ∷ places) last ends) where
  inside : place.machine < length run.machines
  inside = subst (λ (ms : List Progress). place.machine < length ms) (append-nil run.machines) (ahead.in_time [] places place refl)

  abbrev its_progress : Progress
  its_progress = (there run.machines place.machine inside).0

  is_there : slice_get run.machines place.machine ≡ Some its_progress
  is_there = (there run.machines place.machine inside).1

  is_first : slice_get (all_from run options (place ∷ places)) place.machine ≡ Some its_progress
  is_first = get_front run.machines (flat_map (started_at options) (place ∷ places)) place.machine its_progress is_there

  -- the machine of the place, and the rest of what it asks
  own_alone : (now : Progress) → slice_get ends place.machine ≡ Some now
      → IsAlone its_progress (place.request ∷ requests_at (places_of place.machine places))
      (place.reply ∷ replies_at (places_of place.machine places)) now
  own_alone now e =
      subst (λ (own : List Place). IsAlone its_progress (requests_at own) (replies_at own) now) (own_places place places)
      (ahead.alone place.machine its_progress now is_first e)

  its_end : (now : Progress) × (slice_get ends place.machine ≡ Some now)
  its_end = there ends place.machine (subst (λ n. place.machine < n) (sym ahead.as_many)
      (slice_get_within (all_from run options (place ∷ places)) place.machine its_progress is_first))

  its_asks : its_progress.asks ≡ Some place.request
  its_asks = first_asked its_progress its_end.0 place.request (requests_at (places_of place.machine places)) place.reply
      (replies_at (places_of place.machine places)) (own_alone its_end.0 its_end.1)

  abbrev machines_after : List Progress
  machines_after = slice_set (all_from run options (place ∷ places)) place.machine (after_reply its_progress place.reply)

  alone_after : (number : ℕ) (first now : Progress)
      → slice_get machines_after number ≡ Some first
      → slice_get ends number ≡ Some now
      → Dec (place.machine ≡ number) → IsAloneAt number places first now
  alone_after number first now is e (yes same) =
      subst (λ n. IsAloneAt n places first now) same
      (subst (λ (p : Progress). IsAloneAt place.machine places p now)
      (sym (get_set_same (all_from run options (place ∷ places)) place.machine (after_reply its_progress place.reply) first
      (subst (λ n. slice_get machines_after n ≡ Some first) (sym same) is)))
      (later_alone its_progress now place.request (requests_at (places_of place.machine places)) place.reply
      (replies_at (places_of place.machine places)) (own_alone now (ap (slice_get ends) same ∙ e))))
  alone_after number first now is e (no other) =
      subst (λ (own : List Place). IsAlone first (requests_at own) (replies_at own) now) (other_places number place places other)
      (ahead.alone number first now
      (sym (get_set_other (all_from run options (place ∷ places)) place.machine number (after_reply its_progress place.reply) other)
      ∙ is)
      e)

  ahead_after : IsAhead (after_place run options place its_progress) options places last ends
  ahead_after = record {
    steps = ahead.steps.1;
    same_options = each_append (λ (progress : Progress). progress.machine.options ≡ options)
        (slice_set run.machines place.machine (after_reply its_progress place.reply)) (started_at options place)
        (each_set (λ (progress : Progress). progress.machine.options ≡ options) run.machines place.machine
        (after_reply its_progress place.reply)
        ahead.same_options
        (ap (λ (m : Machine). m.options) (after_reply-anew its_progress place.reply) ∙ ahead.same_options place.machine its_progress is_there))
        (started_options (start_prefix place.request) options place.reply);
    in_time = λ front rest next e.
        subst (λ n. next.machine < n) (as_many_after run options place its_progress front)
        (ahead.in_time (place ∷ front) rest next (ap (λ (l : List Place). place ∷ l) e));
    as_many = ahead.as_many ∙ as_many_after run options place its_progress places;
    alone = λ number first now is e.
        alone_after number first now
        (subst (λ (ms : List Progress). slice_get ms number ≡ Some first) (set_after run options place its_progress places inside) is)
        e (ℕ_discrete place.machine number);
  }

  place_leads : take_place place.machine run ≡ Some (after_place run options place its_progress)
  place_leads = place_taken run options place its_progress is_there its_asks ahead.steps.0 (ahead.same_options place.machine its_progress is_there)

leads : (places : List Place) (run : Run) (options : MachineOptions) (last : World) (ends : List Progress) → IsAhead run options places last ends
    → run_from (order_of places) run ≡ Some (record { world = last; machines = ends })
unfolding run_from
leads [] run options last ends ahead =
    let all = append-nil run.machines in
    let same = same_places run.machines ends (ahead.as_many ∙ ap length all)
    (λ number first now is e.
    (ahead.alone number first now (subst (λ (ms : List Progress). slice_get ms number ≡ Some first) (sym all) is) e).now_is) in
    (λ i. Some (record { world = ahead.steps i; machines = same i }))
leads (place ∷ places) run options last ends ahead =
    ap (option_and_then (λ (next : Run). run_from (order_of places) next)) (place_leads run options place places last ends ahead)
    ∙ leads places (after_place run options place (its_progress run options place places last ends ahead)) options last ends
    (ahead_after run options place places last ends ahead)

-- ---- from the start

-- machine 0, as it is started
abbrev first_machine : List (List ℕ × List ℕ) → RunArgs → Machine
first_machine pairs arguments =
    started 0 arguments.prefix (machine_options arguments) (instruction_pairs arguments.prefix (newest (begun pairs arguments)))

pub weave_to_a_run : WeaveToARun
weave_to_a_run pairs arguments places world machines woven =
    leads places (start pairs arguments) (machine_options arguments) world machines (record {
      steps = woven.steps;
      same_options = each_one (λ (progress : Progress). progress.machine.options ≡ machine_options arguments)
          (at_rest (silent (first_machine pairs arguments)))
          (ap (λ (m : Machine). m.options) (at_rest_anew (silent (first_machine pairs arguments)))
          ∙ options_are 0 arguments.prefix (machine_options arguments) (instruction_pairs arguments.prefix (newest (begun pairs arguments))));
      in_time = woven.in_time;
      as_many = woven.as_many;
      alone = woven.alone;
    })

-- ---- complete runs

started_rest : (number : ℕ) (prefix : List ℕ) (options : MachineOptions) (pairs : List (List ℕ × List ℕ))
    → IsAtRest (at_rest (silent (started number prefix options pairs)))
unfolding started
started_rest number prefix options pairs = at_rest_rests (silent (started number prefix options pairs)) (λ e. refl)

place_rests : (prefix : Option (List ℕ)) (options : MachineOptions) (given : Reply) → EachAt IsAtRest (started_by prefix options given)
place_rests None options given = λ i x e. absurd (none-some x e)
place_rests (Some prefix) options (reply.Started number pairs) =
    each_one IsAtRest (at_rest (silent (started number prefix options pairs))) (started_rest number prefix options pairs)
place_rests (Some prefix) options given = λ i x e. absurd (none-some x e)

places_rest : (options : MachineOptions) (places : List Place) → EachAt IsAtRest (flat_map (started_at options) places)
places_rest options [] = λ i x e. absurd (none-some x e)
places_rest options (place ∷ places) =
    each_append IsAtRest (started_at options place) (flat_map (started_at options) places)
    (place_rests (start_prefix place.request) options place.reply) (places_rest options places)

all_rest : (pairs : List (List ℕ × List ℕ)) (arguments : RunArgs) (places : List Place) → EachAt IsAtRest (all_begun pairs arguments places)
all_rest pairs arguments places =
    each_append IsAtRest (start pairs arguments).machines (flat_map (started_at (machine_options arguments)) places)
    (each_one IsAtRest (at_rest (silent (first_machine pairs arguments)))
    (started_rest 0 arguments.prefix (machine_options arguments) (instruction_pairs arguments.prefix (newest (begun pairs arguments)))))
    (places_rest (machine_options arguments) places)

list_all_each : (test : Progress → Bool) (machines : List Progress) → EachAt (λ (progress : Progress). test progress ≡ true) machines
    → list_all test machines ≡ true
list_all_each test [] each = refl
list_all_each test (machine ∷ machines) each =
    (λ i. each 0 machine refl i && list_all test machines) ∙ list_all_each test machines (λ k. each (suc k))

pub weave_to_a_whole_run : WeaveToAWholeRun
weave_to_a_whole_run pairs arguments places world machines woven none = record {
  runs = weave_to_a_run pairs arguments places world machines woven;
  complete = list_all_each (λ (progress : Progress). has_stopped progress.machine.state) machines (λ number now e. stops number now e);
}
  where
    stops : (number : ℕ) (now : Progress) → slice_get machines number ≡ Some now → has_stopped now.machine.state ≡ true
    stops number now e =
        let first = there (all_begun pairs arguments places) number
        (subst (λ n. number < n) woven.as_many (slice_get_within machines number now e)) in
        let alone = woven.alone number first.0 now first.1 e in
        rest_stops now
        (subst IsAtRest (sym alone.now_is)
        (after_replies-rests first.0 (replies_at (places_of number places)) (all_rest pairs arguments places number first.0 first.1)))
        (subst (λ (p : Progress). p.asks ≡ None) (get_or_from_slice_get machines number now now e)
        (none number now (slice_get_within machines number now e)))
