-- Candidates in their order, and that each is a number of its window.
use Rattle.std.proofs.Common.{◌≡◌, ℕ, zero, suc, ◌+◌, ◌<◌, ◌≤◌, Bool, true, false, List, [], ◌∷◌, ◌++◌, refl, ap, ◌∙◌, arith, map}
use Rattle.std.specs.Prelude.{◌%◌, ◌-◌, if◌then◌else◌, nat_lt}
use Rattle.std.specs.List.{list_all}
use Rattle.std.proofs.lemmas.Bool.{and_from, le-leb, lt-ltb}
use Rattle.std.proofs.lemmas.List.Folds.{list_all-append}
use Rattle.model_allocator.specs.declared.TheConstants.{RANDOM_TRIES}
use Rattle.model_allocator.specs.Counters.{window}
use Rattle.model_allocator.specs.Granting.{Candidate, counting, drawn, above, candidates}
use Rattle.model_allocator.proofs.Trying.{is_among}

-- ---- counting

-- so many numbers, and then so many more
pub counting-append : (from count more : ℕ) → counting from (count + more) ≡ counting from count ++ counting (from + count) more
counting-append from zero more =
    let none : zero + more ≡ more = omega arith in
    let same : from + zero ≡ from = omega arith in
    rw (none, same) refl
counting-append from (suc count) more =
    let next : suc count + more ≡ suc (count + more) = omega arith in
    let on : from + suc count ≡ from + 1 + count = omega arith in
    rw (next, on) (ap (λ others. from ∷ others) (counting-append (from + 1) count more))

-- ---- windows

pub window_bounds : (start : ℕ) → (0 < window start) × (window start ≤ 8192)
window_bounds start = by (nat_lt start 255) (nat_lt start 65535)
  where
    by : (first second : Bool)
        → (0 < (if first then 64 else if second then 1024 else 8192)) × ((if first then 64 else if second then 1024 else 8192) ≤ 8192)
    by true second = (omega arith, omega arith)
    by false true = (omega arith, omega arith)
    by false false = (omega arith, omega arith)

-- a number counted from the start on by what is left of another is one of the window
is_inside : (start other : ℕ) (is_drawn : Bool)
    → is_among start (start + window start) (record { number = start + other % window start; is_drawn = is_drawn }) ≡ true
is_inside start other is_drawn =
    let wide : 0 < window start = (window_bounds start).0 in
    let rest : other % window start < window start = omega arith in
    and_from _ _ (le-leb start (start + other % window start) (omega arith))
    (lt-ltb (start + other % window start) (start + window start) (omega arith))

each_inside : (from end : ℕ) (candidate_of : ℕ → Candidate) (places : List ℕ)
    → ((place : ℕ) → is_among from end (candidate_of place) ≡ true)
    → list_all (is_among from end) (map candidate_of places) ≡ true
each_inside from end candidate_of [] each = refl
each_inside from end candidate_of (place ∷ places) each = and_from _ _ (each place) (each_inside from end candidate_of places each)

-- each candidate is a number of the window
pub candidates_inside : (start : ℕ) (words : ℕ → ℕ) → list_all (is_among start (start + window start)) (candidates start words) ≡ true
candidates_inside start words =
    let last = drawn start words (RANDOM_TRIES - 1) in
    list_all-append (is_among start (start + window start))
    (map (λ place. record { number = drawn start words place; is_drawn = true }) (counting 0 RANDOM_TRIES))
    (map (λ distance. record { number = above start last distance; is_drawn = false }) (counting 1 (window start)))
    ∙ and_from _ _
    (each_inside start (start + window start) (λ place. record { number = drawn start words place; is_drawn = true })
    (counting 0 RANDOM_TRIES) (λ place. is_inside start (words place) true))
    (each_inside start (start + window start) (λ distance. record { number = above start last distance; is_drawn = false })
    (counting 1 (window start)) (λ distance. is_inside start (last - start + distance) false))
