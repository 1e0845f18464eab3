-- What a call of the allocator is to do, by the greatest counter.
use Rattle.std.proofs.Common.{◌≡◌, ℕ, ◌+◌, ◌<◌, ◌≤◌, Bool, true, false, List, [], ◌∷◌, ◌++◌, Option, Some, None, refl, sym, ap, subst, ◌∙◌, arith, append_assoc}
use Rattle.std.specs.Prelude.{if◌then◌else◌, flat_map, nat_lt, nat_le}
use Rattle.std.specs.List.{list_all}
use Rattle.std.proofs.lemmas.Bool.{leb-true, ltb-true}
use Rattle.model_database.specs.Databases.{Database}
use Rattle.model_database.specs.Histories.{Setting}
use Rattle.model_database.specs.Slices.{Entries}
use Rattle.model_database.specs.Transactions.{Transaction, view}
use Rattle.model_allocator.specs.declared.TheConstants.{GREATEST_COUNTER}
use Rattle.model_allocator.specs.Acts.{Act, all_acted}
use Rattle.model_allocator.specs.Counters.{window, counter_in, greatest_counter, is_recent}
use Rattle.model_allocator.specs.Granting.{asks_greatest, counts, opens, candidates, tries, claims, Ending, IsNoCounter, Plan, granting, plan_from, plan_at, plan_counter, plan_under, plan}
use Rattle.model_allocator.proofs.Acting.{draws_none}
use Rattle.model_allocator.proofs.Codes.{counter_in_is}
use Rattle.model_allocator.proofs.Opening.{opened_start, recent_opened}
use Rattle.model_allocator.proofs.Trying.{tried_same, absent_same}
use Rattle.model_allocator.proofs.Windows.{window_bounds, candidates_inside}
use Rattle.prefix_allocator.specs.Doing.{start_in, first_key, fills_half, opens_behind, start_behind, window_candidates, tries_of, found_in}

-- ---- the plan

-- where the greatest key of counters is one of a number
abbrev pub acts_from : (space : List ℕ) → Database → (words : ℕ → ℕ) → (is_half : Bool) → (first : ℕ) → List Act
acts_from space m words is_half first =
    opens is_half space first
    ++ (tries_of space m (window_candidates (start_behind is_half first) words)
    ++ claims space (found_in space m (window_candidates (start_behind is_half first) words)))

abbrev pub ending_from : (space : List ℕ) → Database → (words : ℕ → ℕ) → (is_half : Bool) → (first : ℕ) → Ending
ending_from space m words is_half first =
    granting (start_behind is_half first) (found_in space m (window_candidates (start_behind is_half first) words))

start_is : (is_half : Bool) (first : ℕ) → (if is_half then first + window first else first) ≡ start_behind is_half first
start_is true first = refl
start_is false first = refl

planned_from : (space : List ℕ) (m : Database) (words : ℕ → ℕ) (is_half : Bool) (first : ℕ)
    → plan_from (opens is_half space first) space m words (if is_half then first + window first else first)
    ≡ record { acts = acts_from space m words is_half first; ending = ending_from space m words is_half first }
unfolding tries_of found_in window_candidates
planned_from space m words is_half first =
    ap (plan_from (opens is_half space first) space m words) (start_is is_half first)
    ∙ ap (λ (acts : List Act). record { acts = acts; ending = ending_from space m words is_half first })
    (append_assoc (opens is_half space first) (tries_of space m (window_candidates (start_behind is_half first) words))
    (claims space (found_in space m (window_candidates (start_behind is_half first) words))))

pub planned : (space : List ℕ) (m : Database) (words : ℕ → ℕ) (first : ℕ)
    → start_in space (first_key (greatest_counter space m)) ≡ Some first
    → plan space m words
    ≡ record {
      acts = acts_from space m words (fills_half space m first) first;
      ending = ending_from space m words
          (fills_half space m first) first;
    }
unfolding plan fills_half
planned space m words first is = by (greatest_counter space m) is ∙ planned_from space m words (fills_half space m first) first
  where
    by : (entries : Entries) → start_in space (first_key entries) ≡ Some first
        → plan_under space m words entries
        ≡ plan_from (opens (fills_half space m first) space first) space m words
        (if fills_half space m first then first + window first else first)
    by [] is = let zero : 0 ≡ first = cc in ap (λ first. plan_at space m words first) zero
    by (entry ∷ entries) is = ap (plan_counter space m words entry.0) is

pub unplanned : (space : List ℕ) (m : Database) (words : ℕ → ℕ) (key : List ℕ) → first_key (greatest_counter space m) ≡ Some key
    → counter_in space key ≡ None
    → plan space m words ≡ record { acts = asks_greatest space ∷ []; ending = IsNoCounter key }
unfolding plan
unplanned space m words key first none = by (greatest_counter space m) first
  where
    by : (entries : Entries) → first_key entries ≡ Some key
        → plan_under space m words entries ≡ record { acts = asks_greatest space ∷ []; ending = IsNoCounter key }
    by [] first = absurd cc
    by (entry ∷ entries) first =
        let same : entry.0 ≡ key = cc in
        ap (plan_counter space m words entry.0) (ap (counter_in space) same ∙ none)
        ∙ ap (λ (key : List ℕ). record { acts = asks_greatest space ∷ []; ending = IsNoCounter key }) same

-- ---- its first act

pub opens_parts : (is_half : Bool) (space : List ℕ) (first : ℕ)
    → opens is_half space first ≡ (asks_greatest space ∷ []) ++ (counts space first ++ opens_behind is_half space first)
opens_parts true space first = refl
opens_parts false space first = refl

-- it reads the greatest key of counters first
pub plan_begins : (space : List ℕ) (m : Database) (words : ℕ → ℕ)
    → (rest : List Act) × ((plan space m words).acts ≡ (asks_greatest space ∷ []) ++ rest)
plan_begins space m words = by (first_key (greatest_counter space m)) refl
  where
    from : (start : Option ℕ) (key : List ℕ) → first_key (greatest_counter space m) ≡ Some key → counter_in space key ≡ start
        → (rest : List Act) × ((plan space m words).acts ≡ (asks_greatest space ∷ []) ++ rest)
    from None key is none = ([], ap (λ (plan : Plan). plan.acts) (unplanned space m words key is none))
    from (Some first) key is some =
        let half = fills_half space m first in (
          _,
          ap (λ (plan : Plan). plan.acts) (planned space m words first (ap (start_in space) is ∙ some))
              ∙ ap (λ acts. acts ++ (tries_of space m (window_candidates (start_behind half first) words) ++ claims space
              (found_in space m (window_candidates (start_behind half first) words))))
              (opens_parts half space first)
              ∙ append_assoc (asks_greatest space ∷ []) (counts space first ++ opens_behind half space first) _,
        )

    by : (key : Option (List ℕ)) → first_key (greatest_counter space m) ≡ key
        → (rest : List Act) × ((plan space m words).acts ≡ (asks_greatest space ∷ []) ++ rest)
    by (Some key) is = from (counter_in space key) key is refl
    by None is =
        let half = fills_half space m 0 in (
          _,
          ap (λ (plan : Plan). plan.acts) (planned space m words 0 (ap (start_in space) is))
              ∙ ap (λ acts. acts ++ (tries_of space m (window_candidates (start_behind half 0) words) ++ claims space
              (found_in space m (window_candidates (start_behind half 0) words))))
              (opens_parts half space 0)
              ∙ append_assoc (asks_greatest space ∷ []) (counts space 0 ++ opens_behind half space 0) _,
        )

-- ---- bounds

pub start_small : (space : List ℕ) (greatest : Option (List ℕ)) (first : ℕ) → start_in space greatest ≡ Some first
    → first ≤ GREATEST_COUNTER
start_small space None first is = let zero : 0 ≡ first = cc in omega arith
start_small space (Some key) first is = (counter_in_is space key first is).1

pub start_high : (is_half : Bool) (first : ℕ) → start_behind is_half first ≤ first + 8192
start_high true first = let bound : window first ≤ 8192 = (window_bounds first).1 in omega arith
start_high false first = omega arith

pub opens_quiet : (is_half : Bool) (space : List ℕ) (first : ℕ) → list_all draws_none (opens is_half space first) ≡ true
opens_quiet true space first = refl
opens_quiet false space first = refl

pub claims_quiet : (space : List ℕ) (found : Option ℕ) → list_all draws_none (claims space found) ≡ true
claims_quiet space None = refl
claims_quiet space (Some number) = refl

-- ---- the numbers of the window

opened_alike : (setting : Setting) (t : Transaction) (space : List ℕ) (is_half : Bool) (first : ℕ) → first ≤ GREATEST_COUNTER → (number : ℕ)
    → nat_le (start_behind is_half first) number ≡ true → nat_lt number (start_behind is_half first + window (start_behind is_half first))
    ≡ true
    → is_recent space (view setting (all_acted setting (opens is_half space first) t).transaction) number ≡ is_recent space
    (view setting t) number
opened_alike setting t space is_half first small number above below =
    let start = start_behind is_half first in
    let low : start ≤ number = leb-true start number above in
    let end : number < start + window start = ltb-true number (start + window start) below in
    let bound : window start ≤ 8192 = (window_bounds start).1 in
    let high : start ≤ first + 8192 = start_high is_half first in
    let opened : opened_start is_half first ≤ number = subst (λ start. start ≤ number) (sym (start_is is_half first)) low in
    recent_opened setting t is_half space first number small opened (omega arith)

-- opening a window leaves what is present in it
pub tries_window : (setting : Setting) (t : Transaction) (space : List ℕ) (is_half : Bool) (first : ℕ) (words : ℕ → ℕ)
    → first ≤ GREATEST_COUNTER
    → tries_of space (view setting (all_acted setting (opens is_half space first) t).transaction)
    (window_candidates (start_behind is_half first) words)
    ≡ tries_of space (view setting t) (window_candidates (start_behind is_half first) words)
unfolding tries_of window_candidates
tries_window setting t space is_half first words small =
    let start = start_behind is_half first in
    ap (flat_map (tries space)) (tried_same _ _ start (start + window start) (candidates start words) (candidates_inside start words)
    (opened_alike setting t space is_half first small))

pub found_window : (setting : Setting) (t : Transaction) (space : List ℕ) (is_half : Bool) (first : ℕ) (words : ℕ → ℕ)
    → first ≤ GREATEST_COUNTER
    → found_in space (view setting (all_acted setting (opens is_half space first) t).transaction)
    (window_candidates (start_behind is_half first) words)
    ≡ found_in space (view setting t) (window_candidates (start_behind is_half first) words)
unfolding found_in window_candidates
found_window setting t space is_half first words small =
    let start = start_behind is_half first in
    absent_same _ _ start (start + window start) (candidates start words) (candidates_inside start words)
    (opened_alike setting t space is_half first small)
