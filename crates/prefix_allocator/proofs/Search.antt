-- Candidates that are tried in parts.
use Rattle.std.proofs.Common.{◌≡◌, ℕ, Bool, true, false, cond, List, [], ◌∷◌, ◌++◌, Option, Some, None, is_some, Result, refl, sym, ap, subst, ◌∙◌}
use Rattle.std.specs.Prelude.{if◌then◌else◌, flat_map}
use Rattle.std.proofs.lemmas.Grind.{flat_map-append}
use Rattle.std.proofs.lemmas.List.{append-nil}
use Rattle.model_database.specs.Databases.{Database}
use Rattle.model_database.specs.Histories.{Setting}
use Rattle.model_database.specs.Transactions.{Transaction, view}
use Rattle.fdb_calls.specs.declared.fault.TrFault.{TrFault}
use Rattle.model_allocator.specs.Acts.{all_acted}
use Rattle.model_allocator.specs.Counters.{is_recent}
use Rattle.model_allocator.specs.Granting.{Candidate, first_absent, tried, tries}
use Rattle.model_allocator.proofs.Trying.{tried-append, absent-append, none_absent, present_same}
use Rattle.prefix_allocator.specs.Doing.{Done, tries_of, found_in}
use Rattle.prefix_allocator.proofs.Steps.{more_done}

-- ---- two parts

pub tries-append : (space : List ℕ) (m : Database) (first second : List Candidate)
    → tries_of space m (first ++ second) ≡ tries_of space m first ++
    (if is_some (found_in space m first) then [] else tries_of space m second)
unfolding tries_of found_in
tries-append space m first second =
    ap (flat_map (tries space)) (tried-append (is_recent space m) first second)
    ∙ flat_map-append (tries space) (tried (is_recent space m) first)
    (if is_some (first_absent (is_recent space m) first) then [] else tried (is_recent space m) second)
    ∙ ap (λ acts. flat_map (tries space) (tried (is_recent space m) first) ++ acts) (by (is_some (first_absent (is_recent space m) first)))
  where
    by : (found : Bool) → flat_map (tries space) (cond found [] (tried (is_recent space m) second))
        ≡ cond found [] (flat_map (tries space) (tried (is_recent space m) second))
    by true = refl
    by false = refl

-- where none of the first is absent
pub tries_then : (space : List ℕ) (m : Database) (first second : List Candidate) → found_in space m first ≡ None
    → tries_of space m (first ++ second) ≡ tries_of space m first ++ tries_of space m second
tries_then space m first second none =
    tries-append space m first second
    ∙ ap (λ found. tries_of space m first ++ (if is_some found then [] else tries_of space m second)) none

-- where one of them is
pub tries_first : (space : List ℕ) (m : Database) (first second : List Candidate) (number : ℕ) → found_in space m first ≡ Some number
    → tries_of space m (first ++ second) ≡ tries_of space m first
tries_first space m first second number found =
    tries-append space m first second
    ∙ ap (λ found. tries_of space m first ++ (if is_some found then [] else tries_of space m second)) found
    ∙ append-nil (tries_of space m first)

found-append : (space : List ℕ) (m : Database) (first second : List Candidate)
    → found_in space m (first ++ second)
    ≡ (if is_some (found_in space m first) then found_in space m first else found_in space m second)
unfolding found_in
found-append space m first second = absent-append (is_recent space m) first second

pub found_then : (space : List ℕ) (m : Database) (first second : List Candidate) → found_in space m first ≡ None
    → found_in space m (first ++ second) ≡ found_in space m second
found_then space m first second none =
    found-append space m first second ∙ ap (λ (found : Option ℕ). cond (is_some found) found (found_in space m second)) none

pub found_first : (space : List ℕ) (m : Database) (first second : List Candidate) (number : ℕ) → found_in space m first ≡ Some number
    → found_in space m (first ++ second) ≡ Some number
found_first space m first second number found =
    found-append space m first second ∙ ap (λ (found : Option ℕ). cond (is_some found) found (found_in space m second)) found

-- ---- two databases

abbrev pub AreAlike : (space : List ℕ) → (one other : Database) → Type 0
AreAlike space one other = (number : ℕ) → is_recent space one number ≡ is_recent space other number

pub tries_alike : (space : List ℕ) (one other : Database) (candidates : List Candidate) → AreAlike space one other
    → tries_of space one candidates ≡ tries_of space other candidates
unfolding tries_of
tries_alike space one other candidates alike =
    ap (λ present. flat_map (tries space) (tried present candidates)) (λ i number. alike number i)

pub found_alike : (space : List ℕ) (one other : Database) (candidates : List Candidate) → AreAlike space one other
    → found_in space one candidates ≡ found_in space other candidates
unfolding found_in
found_alike space one other candidates alike = ap (λ present. first_absent present candidates) (λ i number. alike number i)

-- tries that found none absent change no presence
pub alike_after : (setting : Setting) (t : Transaction) (space : List ℕ) (candidates : List Candidate)
    → found_in space (view setting t) candidates ≡ None
    → AreAlike space (view setting (all_acted setting (tries_of space (view setting t) candidates) t).transaction) (view setting t)
unfolding tries_of found_in
alike_after setting t space candidates none number =
    let present = is_recent space (view setting t) in
    let all = none_absent present candidates none in
    ap (λ list. is_recent space (view setting (all_acted setting (flat_map (tries space) list) t).transaction) number) all.1
    ∙ present_same setting space candidates t number all.0

-- ---- one

pub tries_one : (space : List ℕ) (m : Database) (candidate : Candidate) → tries_of space m (candidate ∷ []) ≡ tries space candidate
unfolding tries_of
tries_one space m candidate = by (is_recent space m candidate.number)
  where
    by : (here : Bool) → flat_map (tries space) (cond here (candidate ∷ []) (candidate ∷ [])) ≡ tries space candidate
    by true = append-nil (tries space candidate)
    by false = append-nil (tries space candidate)

pub found_one : (space : List ℕ) (m : Database) (candidate : Candidate)
    → found_in space m (candidate ∷ []) ≡ (if is_recent space m candidate.number then None else Some candidate.number)
unfolding found_in
found_one space m candidate = refl

-- ---- so far

-- these candidates were tried, each was let through, and none was absent
pub record Sofar (setting : Setting) (stands : Transaction → Type 0) (space : List ℕ) (candidates : List Candidate)
    (t : Transaction) : Type 0 where
  pub none : found_in space (view setting t) candidates ≡ None
  pub let_through : (all_acted setting (tries_of space (view setting t) candidates) t).refused ≡ None
  pub after : stands (all_acted setting (tries_of space (view setting t) candidates) t).transaction

-- the transaction after them
abbrev pub after_tries : Setting → Transaction → (space : List ℕ) → List Candidate → Transaction
after_tries setting t space candidates = (all_acted setting (tries_of space (view setting t) candidates) t).transaction

pub none_yet : (setting : Setting) (stands : Transaction → Type 0) (space : List ℕ) (t : Transaction) → stands t
    → Sofar setting stands space [] t
unfolding tries_of found_in all_acted
none_yet setting stands space t is = record { none = refl; let_through = refl; after = is }

-- tries of others behind them
pub go_on : {A : Type 0} (good : A → Type 0) (result : Result A TrFault) (setting : Setting) (first stands : Transaction → Type 0)
    (space : List ℕ)
    (front behind : List Candidate) (t : Transaction) → Sofar setting first space front t
    → Done good result setting stands (tries_of space (view setting (after_tries setting t space front)) behind)
    (after_tries setting t space front)
    → Done good result setting stands (tries_of space (view setting t) (front ++ behind)) t
go_on good result setting first stands space front behind t sofar done =
    let u = after_tries setting t space front in
    let alike = alike_after setting t space front sofar.none in
    let acts : tries_of space (view setting t) front ++ tries_of space (view setting u) behind ≡ tries_of space (view setting t)
    (front ++ behind) =
    ap (λ acts. tries_of space (view setting t) front ++ acts) (tries_alike space (view setting u) (view setting t) behind alike)
    ∙ sym (tries_then space (view setting t) front behind sofar.none) in
    subst (λ acts. Done good result setting stands acts t) acts
    (more_done good result setting stands (tries_of space (view setting t) front) (tries_of space (view setting u) behind) t
    sofar.let_through done)

-- what is found behind them
pub found_behind : (setting : Setting) (first : Transaction → Type 0) (space : List ℕ) (front behind : List Candidate) (t : Transaction)
    → Sofar setting first space front t
    → found_in space (view setting t) (front ++ behind) ≡ found_in space (view setting (after_tries setting t space front)) behind
found_behind setting first space front behind t sofar =
    found_then space (view setting t) front behind sofar.none
    ∙ sym (found_alike space (view setting (after_tries setting t space front)) (view setting t) behind
    (alike_after setting t space front sofar.none))
