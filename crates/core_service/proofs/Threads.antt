-- Machines that ran in threads of their own are woven into one run.
use Rattle.std.proofs.Common.{◌≡◌, ℕ, zero, suc, ◌+◌, ◌<◌, ◌≤◌, inl, inr, Bool, true, false, cond, eqb, List, [], ◌∷◌, ◌++◌, length, Option, Some, None, refl, sym, ap, subst, ◌∙◌, append_assoc, length-append, eq-eqb, true≢false, arith}
use Rattle.std.specs.Prelude.{flat_map, slice_get}
use Rattle.std.proofs.lemmas.List.{append-nil}
use Rattle.std.proofs.lemmas.Grind.{flat_map-append}
use Rattle.std.proofs.lemmas.Option.{same_Some, slice_get_within}
use mathlib.Core.List.{cons≢nil, head-eq_of_cons-eq, tail-eq_of_cons-eq}
use Rattle.fdb_calls.specs.declared.Request.{Request}
use Rattle.fdb_calls.specs.declared.Request.TheVariants as request
use Rattle.fdb_calls.specs.declared.Reply.{Reply}
use Rattle.fdb_calls.specs.declared.Reply.TheVariants as reply
use Rattle.model_commands.specs.declared.args.RunArgs.{RunArgs}
use Rattle.model_machine.specs.declared.MachineOptions.{MachineOptions}
use Rattle.model_machine.specs.Worlds.{World, begun}
use Rattle.model_machine.specs.Machines.{Machine, Progress, silent}
use Rattle.model_machine.specs.Runs.{at_rest, machine_options, start, start_prefix, started, started_by}
use Rattle.laws_threads.specs.Alone.{anew, begun_as}
use Rattle.laws_threads.specs.Weaving.{Place, AreSteps, AreWoven, IsAloneAt, all_begun, places_of, started_at}
use Rattle.laws_threads.proofs.Alone.{anew_started, at_rest_anew}
use Rattle.laws_threads.proofs.Lists.{there}
use Rattle.core_service.specs.Threads.{AreThreaded, IsBegunIn, IsStartedIn}
use Rattle.core_service.proofs.Lists.{GoesOn}
use Rattle.core_service.proofs.Numbering.{numbered}

-- ---- one machine that was started

-- what was asked and answered where a machine was started
pub record Starts (asked : Request) (given : Reply) (options : MachineOptions) (begun : Progress) : Type 0 where
  pub prefix : List ℕ
  pub number : ℕ
  pub instructions : List (List ℕ × List ℕ)
  pub asked_is : asked ≡ request.Start prefix
  pub given_is : given ≡ reply.Started number instructions
  pub begun_is : begun ≡ at_rest (silent (started number prefix options instructions))

starts_by : (asked : Request) (given : Reply) (options : MachineOptions) (begun : Progress) → begun ∷ [] ≡ started_by (start_prefix asked) options given
    → Starts asked given options begun
starts_by (request.Start prefix) (reply.Started number instructions) options begun is = record {
  prefix = prefix;
  number = number;
  instructions = instructions;
  asked_is = refl;
  given_is = refl;
  begun_is = head-eq_of_cons-eq is;
}
starts_by (request.Start prefix) given options begun is = absurd (cons≢nil is)
starts_by asked given options begun is = absurd (cons≢nil is)

number_is : (number : ℕ) (prefix : List ℕ) (options : MachineOptions) (instructions : List (List ℕ × List ℕ))
    → (started number prefix options instructions).number ≡ number
unfolding started
number_is number prefix options instructions = refl

-- its number is the one that the reply says
number_by : (machine : Machine) (number : ℕ) (prefix : List ℕ) (options : MachineOptions) (instructions : List (List ℕ × List ℕ))
    → begun_as machine ≡ at_rest (silent (started number prefix options instructions)) → machine.number ≡ number
number_by machine number prefix options instructions is =
    ap (λ (m : Machine). m.number)
    (sym (at_rest_anew (silent (anew machine))) ∙ ap (λ (p : Progress). anew p.machine) is
    ∙ at_rest_anew (silent (started number prefix options instructions)) ∙ anew_started number prefix options instructions)
    ∙ number_is number prefix options instructions

-- places of a machine stand behind the place at which it was started
none_of : (number : ℕ) (front : List Place) (place : Place) → places_of number (place ∷ front) ≡ [] → (place.machine ≡ number → ⊥)
none_of number front place none same =
    absurd (cons≢nil (sym (ap (λ b. cond b (place ∷ places_of number front) (places_of number front)) (eq-eqb place.machine number same)) ∙ none))

rest_none : (number : ℕ) (front : List Place) (place : Place) → places_of number (place ∷ front) ≡ [] → places_of number front ≡ []
rest_none number front place none = by (eqb place.machine number) none
  where
    by : (own : Bool) → cond own (place ∷ places_of number front) (places_of number front) ≡ [] → places_of number front ≡ []
    by true none = absurd (cons≢nil none)
    by false none = none

-- where a front has no place of a machine, each front of the whole that ends before one goes on from it
goes_on_from : (front rest longer others : List Place) (place : Place) → front ++ rest ≡ longer ++ place ∷ others
    → places_of place.machine front ≡ [] → GoesOn front longer
goes_on_from [] rest longer others place same none = record { more = longer; is = refl }
goes_on_from (first ∷ front) rest [] others place same none =
    absurd (none_of place.machine front first none (ap (λ (p : Place). p.machine) (head-eq_of_cons-eq same)))
goes_on_from (first ∷ front) rest (other ∷ longer) others place same none =
    let later = goes_on_from front rest longer others place (tail-eq_of_cons-eq same) (rest_none place.machine front first none) in
    record { more = later.more; is = (λ i. sym (head-eq_of_cons-eq same) i ∷ later.is i) }

-- one machine more was started at a place
counted : (pairs : List (List ℕ × List ℕ)) (arguments : RunArgs) (front more : List Place) (place : Place) (begun : Progress)
    → begun ∷ [] ≡ started_at (machine_options arguments) place
    → length (all_begun pairs arguments front) < length (all_begun pairs arguments ((front ++ place ∷ []) ++ more))
counted pairs arguments front more place begun starts =
    let machines = (start pairs arguments).machines in
    let options = machine_options arguments in
    let before = flat_map (started_at options) front in
    let here = flat_map (started_at options) (place ∷ []) in
    let behind = flat_map (started_at options) more in
    omega (
      arith,
      length-append machines before,
      length-append machines (flat_map (started_at options) ((front ++ place ∷ []) ++ more)),
      ap length (flat_map-append (started_at options) (front ++ place ∷ []) more),
      length-append (flat_map (started_at options) (front ++ place ∷ [])) behind,
      ap length (flat_map-append (started_at options) front (place ∷ [])),
      length-append before here,
      ap length (append-nil (started_at options place)),
      ap length starts,
    )

module _ (pairs : List (List ℕ × List ℕ)) (arguments : RunArgs) (places : List Place) (world : World) (machines : List Progress)
    (threaded : AreThreaded pairs arguments places world machines) where
  -- a machine that was started, at its place
  record IsAt (number : ℕ) (now : Progress) (started_in : IsStartedIn arguments places number (begun_as now.machine)) : Type 0 where
    pub number_is : number ≡ length (all_begun pairs arguments started_in.front)
    pub there_is : slice_get (all_begun pairs arguments places) number ≡ Some (begun_as now.machine)

  is_at : (number : ℕ) (now : Progress) → slice_get machines number ≡ Some now
      → (started_in : IsStartedIn arguments places number (begun_as now.machine)) → IsAt number now started_in
  is_at number now e started_in =
      let starts = starts_by started_in.place.request started_in.place.reply (machine_options arguments) (begun_as now.machine) started_in.starts in
      let given = numbered pairs arguments started_in.front started_in.rest started_in.place world starts.prefix starts.number
      starts.instructions (subst (λ (all : List Place). AreSteps (begun pairs arguments) all world) started_in.is threaded.steps)
      starts.asked_is starts.given_is in
      let same : starts.number ≡ number =
      sym (number_by now.machine starts.number starts.prefix (machine_options arguments) starts.instructions starts.begun_is)
      ∙ threaded.numbered number now e in
      record {
        number_is = sym same ∙ given.number_is;
        there_is = (λ i. slice_get (all_begun pairs arguments (started_in.is i)) (sym same i)) ∙ given.there
            ∙ ap Some (sym starts.begun_is);
      }

  begins_by : (number : ℕ) (now : Progress) → slice_get machines number ≡ Some now
      → IsBegunIn pairs arguments places number (begun_as now.machine)
      → slice_get (all_begun pairs arguments places) number ≡ Some (begun_as now.machine)
  begins_by number now e (inl first) =
      (λ i. slice_get (first.starts i ++ flat_map (started_at (machine_options arguments)) places) (first.number_is i))
  begins_by number now e (inr started_in) = (is_at number now e started_in).there_is

  begins_so : (number : ℕ) (now : Progress) → slice_get machines number ≡ Some now
      → slice_get (all_begun pairs arguments places) number ≡ Some (begun_as now.machine)
  begins_so number now e = begins_by number now e (threaded.begins number now e)

  at_most : (count : ℕ) → length machines ≡ count → length machines ≤ length (all_begun pairs arguments places)
  at_most zero is = omega (arith, is)
  at_most (suc count) is =
      let last = there machines count (omega (arith, is)) in
      omega (arith, is, slice_get_within (all_begun pairs arguments places) count (begun_as last.0.machine) (begins_so count last.0 last.1))

  -- a place of a machine stands behind the one at which it was started
  in_time_by : (number : ℕ) (now : Progress) → slice_get machines number ≡ Some now → (front rest : List Place) (place : Place)
      → places ≡ front ++ place ∷ rest → place.machine ≡ number → IsBegunIn pairs arguments places number (begun_as now.machine)
      → number < length (all_begun pairs arguments front)
  in_time_by number now e front rest place is own (inl first) =
      omega (
        arith,
        first.number_is,
        length-append (start pairs arguments).machines (flat_map (started_at (machine_options arguments)) front),
        ap length first.starts,
      )
  in_time_by number now e front rest place is own (inr started_in) =
      let on = goes_on_from (started_in.front ++ started_in.place ∷ []) started_in.rest front rest place
      (append_assoc started_in.front (started_in.place ∷ []) started_in.rest ∙ sym started_in.is ∙ is)
      (ap (λ n. places_of n (started_in.front ++ started_in.place ∷ [])) own ∙ started_in.none_yet) in
      subst (λ (f : List Place). number < length (all_begun pairs arguments f)) (sym on.is)
      (subst (λ n. n < length (all_begun pairs arguments ((started_in.front ++ started_in.place ∷ []) ++ on.more)))
      (sym (is_at number now e started_in).number_is)
      (counted pairs arguments started_in.front on.more started_in.place (begun_as now.machine) started_in.starts))

  pub weave : AreWoven pairs arguments places world machines
  weave = record {
    steps = threaded.steps;
    in_time = λ front rest place is.
        let its_machine = there machines place.machine (threaded.within front rest place is) in
        in_time_by place.machine its_machine.0 its_machine.1 front rest place is refl
        (threaded.begins place.machine its_machine.0 its_machine.1);
    as_many = omega (arith, threaded.as_many, at_most (length machines) refl);
    alone = λ number first now is e.
        subst (λ (p : Progress). IsAloneAt number places p now)
        (same_Some (begun_as now.machine) first (sym (begins_so number now e) ∙ is)) (threaded.alone number now e);
  }
