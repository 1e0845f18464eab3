-- The candidates of a call are less than 2^63, and setting those that are tried leaves the number that is chosen spent.
use Rattle.std.proofs.Common.{◌≡◌, ℕ, ◌+◌, ◌-◌, ◌%◌, ◌^◌, ◌<◌, ◌≤◌, Bool, true, false, cond, List, [], ◌∷◌, ◌++◌, map, Some, refl, ap, subst, ◌∙◌, arith}
use Rattle.std.specs.Prelude.{⊤, flat_map, nat_lt}
use Rattle.std.proofs.lemmas.Option.{same_Some, none-some}
use Rattle.std.proofs.lemmas.List.Concat.{flat_map-append}
use Rattle.model_database.specs.Databases.{Mutation, Set, do_one}
use Rattle.model_database.specs.States.{all_filled}
use Rattle.model_allocator.specs.declared.TheConstants.{RANDOM_TRIES}
use Rattle.model_allocator.specs.Acts.{writing, written_by}
use Rattle.model_allocator.specs.Counters.{recent_key, window}
use Rattle.model_allocator.specs.Granting.{Candidate, counting, drawn, above, candidates, first_absent, tried, tries}
use Rattle.laws_prefixes.specs.Held.{AreSpending, AreFit}
use Rattle.laws_prefixes.proofs.Spending.{fit_nothing, fit_append, set_spends, fit_set}

-- ---- candidates

abbrev pub AreSmall : List Candidate → Type 0
AreSmall [] = ⊤
AreSmall (candidate ∷ others) = (candidate.number < 2 ^ 63) × AreSmall others

small_map : (candidate_of : ℕ → Candidate) → ((n : ℕ) → (candidate_of n).number < 2 ^ 63) → (numbers : List ℕ)
    → AreSmall (map candidate_of numbers)
small_map candidate_of small [] = tt
small_map candidate_of small (n ∷ numbers) = (small n, small_map candidate_of small numbers)

small_append : (first second : List Candidate) → AreSmall first → AreSmall second → AreSmall (first ++ second)
small_append [] second small later = later
small_append (candidate ∷ first) second small later = (small.0, small_append first second small.1 later)

-- a window has from 1 to 8192 numbers
pub window_size : (start : ℕ) → (0 < window start) × (window start ≤ 8192)
window_size start = by (nat_lt start 255) (nat_lt start 65535)
  where
    by : (low middle : Bool) → (0 < cond low 64 (cond middle 1024 8192)) × (cond low 64 (cond middle 1024 8192) ≤ 8192)
    by true middle = (omega arith, omega arith)
    by false true = (omega arith, omega arith)
    by false false = (omega arith, omega arith)

in_window : (start size word : ℕ) → 0 < size → start + size ≤ 2 ^ 63 → start + word % size < 2 ^ 63
in_window start size word some fits = omega arith

-- the candidate that a word chooses, and the one that stands so far above the last of these
abbrev by_word : (start : ℕ) → (words : ℕ → ℕ) → (place : ℕ) → Candidate
by_word start words place = record { number = drawn start words place; is_drawn = true }

abbrev in_order : (start : ℕ) → (words : ℕ → ℕ) → (distance : ℕ) → Candidate
in_order start words distance = record { number = above start (drawn start words (RANDOM_TRIES - 1)) distance; is_drawn = false }

pub candidates_small : (start : ℕ) (words : ℕ → ℕ) → start + window start ≤ 2 ^ 63 → AreSmall (candidates start words)
candidates_small start words fits =
    let some = (window_size start).0 in
    let last = drawn start words (RANDOM_TRIES - 1) in
    small_append (map (by_word start words) (counting 0 RANDOM_TRIES)) (map (in_order start words) (counting 1 (window start)))
    (small_map (by_word start words) (λ place. in_window start (window start) (words place) some fits) (counting 0 RANDOM_TRIES))
    (small_map (in_order start words) (λ distance. in_window start (window start) (last - start + distance) some fits)
    (counting 1 (window start)))

-- those that are tried are some first ones
pub tried_small : (present : ℕ → Bool) (all : List Candidate) → AreSmall all → AreSmall (tried present all)
tried_small present [] small = tt
tried_small present (candidate ∷ others) small =
    elim (present candidate.number) as (λ b. AreSmall (cond b (candidate ∷ tried present others) (candidate ∷ []))) [
      | true ↦ (small.0, tried_small present others small.1)
      | false ↦ (small.0, tt)
    ]

pub chosen_small : (present : ℕ → Bool) (all : List Candidate) (number : ℕ) → AreSmall all → first_absent present all ≡ Some number
    → number < 2 ^ 63
chosen_small present [] number small is = absurd (none-some number is)
chosen_small present (candidate ∷ others) number small is =
    (elim (present candidate.number) as (λ b. cond b (first_absent present others) (Some candidate.number) ≡ Some number
    → number < 2 ^ 63) [
      | true ↦ λ later. chosen_small present others number small.1 later
      | false ↦ λ here. subst (λ n. n < 2 ^ 63) (same_Some candidate.number number here) small.0
    ]) is

-- ---- what tries write

abbrev pub sets : (space : List ℕ) → List Candidate → List Mutation
sets space all = map (λ candidate. Set (recent_key space candidate.number) []) all

written_try : (space : List ℕ) (number : ℕ) (is_drawn : Bool)
    → written_by (tries space (record { number = number; is_drawn = is_drawn })) ≡ Set (recent_key space number) [] ∷ []
written_try space number true = refl
written_try space number false = refl

-- each try sets its number
pub written_tries : (space : List ℕ) (all : List Candidate) → written_by (flat_map (tries space) all) ≡ sets space all
written_tries space [] = refl
written_tries space (candidate ∷ others) =
    flat_map-append writing (tries space candidate) (flat_map (tries space) others)
    ∙ ap (λ list. list ++ written_by (flat_map (tries space) others)) (written_try space candidate.number candidate.is_drawn)
    ∙ ap (λ list. Set (recent_key space candidate.number) [] ∷ list) (written_tries space others)

pub sets_plain : (stamp space : List ℕ) (all : List Candidate) → all_filled stamp (sets space all) ≡ sets space all
sets_plain stamp space [] = refl
sets_plain stamp space (candidate ∷ others) = ap (λ list. Set (recent_key space candidate.number) [] ∷ list) (sets_plain stamp space others)

pub sets_fit : (space : List ℕ) (all : List Candidate) → AreSmall all → AreFit space (sets space all)
sets_fit space [] small = fit_nothing space
sets_fit space (candidate ∷ others) small =
    fit_append space (Set (recent_key space candidate.number) [] ∷ []) (sets space others)
    (fit_set space candidate.number small.0) (sets_fit space others small.1)

-- the number that is chosen is set last
pub sets_spend : (space : List ℕ) (present : ℕ → Bool) (all : List Candidate) (number : ℕ) → first_absent present all ≡ Some number
    → AreSpending space number (sets space (tried present all))
sets_spend space present [] number is = absurd (none-some number is)
sets_spend space present (candidate ∷ others) number is =
    (elim (present candidate.number) as (λ b. cond b (first_absent present others) (Some candidate.number) ≡ Some number
    → AreSpending space number (sets space (cond b (candidate ∷ tried present others) (candidate ∷ [])))) [
      | true ↦ λ later database. sets_spend space present others number later (do_one (Set (recent_key space candidate.number) []) database)
      | false ↦ λ here.
          subst (λ n. AreSpending space n (Set (recent_key space candidate.number) [] ∷ [])) (same_Some candidate.number number here)
          (set_spends space candidate.number)
    ]) is
