-- The steps of walks: what is taken, followed by what is left, stays the whole.
use Rattle.std.proofs.Common.{◌≡◌, ℕ, zero, suc, ◌<◌, ◌≤◌, ◌-◌, Bool, List, [], ◌∷◌, ◌++◌, length, take, slice_get, Some, refl, sym, ap, ◌∙◌, append_assoc, arith, length-append}
use Rattle.std.proofs.lemmas.List.{append-nil, take_all}
use Rattle.std.specs.Map.{keys_of}
use Rattle.key_map.specs.Ends.{first}
use Rattle.model_database.specs.Databases.{Database}
use Rattle.model_database.specs.Slices.{Entries, cut, span}
use Rattle.range_read.specs.Walks.{onward, behind, begin_behind, end_behind}
use Rattle.range_read.proofs.Lists.{first_is}
use Rattle.range_read.proofs.Walks.{Entry, onward_behind, span_behind}

-- ---- one step through a range

pub span_first : (database : Database) (b e : List ℕ) (backward : Bool) (x : Entry) → first (span database b e backward) ≡ Some x
    → span database b e backward ≡ x ∷ span database (begin_behind b x.0 backward) (end_behind e x.0 backward) backward
span_first database b e backward x is =
    let parts = first_is (span database b e backward) x is in
    parts.1 ∙ ap (λ ys. x ∷ ys) (sym (span_behind database b e backward x parts.0 parts.1))

module _ (database : Database) (b e : List ℕ) (backward : Bool) (x : Entry) (is : first (span database b e backward) ≡ Some x) (c d : List ℕ)
    (begin : c ≡ begin_behind b x.0 backward) (end : d ≡ end_behind e x.0 backward) where
  rest_is : span database b e backward ≡ x ∷ span database c d backward
  rest_is = span_first database b e backward x is ∙ (λ i. x ∷ span database (sym begin i) (sym end i) backward)

  pub step_smaller : length (span database c d backward) < length (span database b e backward)
  step_smaller = let e = ap length rest_is in omega (arith, e)

  pub step_whole : (ps qs all : Entries) → ps ++ span database b e backward ≡ all → qs ≡ ps ++ x ∷ [] → qs ++ span database c d backward ≡ all
  step_whole ps qs all whole pushed =
      ap (λ qs. qs ++ span database c d backward) pushed
      ∙ append_assoc ps (x ∷ []) (span database c d backward)
      ∙ ap (λ ys. ps ++ ys) (sym rest_is) ∙ whole

pub pushed_length : (ps qs : Entries) (x : Entry) → qs ≡ ps ++ x ∷ [] → length qs ≡ suc (length ps)
pushed_length ps qs x pushed = let e = ap length pushed in let f = length-append ps (x ∷ []) in omega (arith, e, f)

-- ---- the end of a walk

module _ {X : Type 0} where
  take_front : (ps rest : List X) → take (length ps) (ps ++ rest) ≡ ps
  take_front [] rest = refl
  take_front (p ∷ ps) rest = ap (λ ys. p ∷ ys) (take_front ps rest)

  -- so many are taken as the limit says
  pub taken_full : (limit : ℕ) (ps rest all : List X) → ps ++ rest ≡ all → 0 < limit → limit ≡ length ps → ps ≡ cut limit all
  taken_full zero ps rest all whole some full = absurd (omega arith)
  taken_full (suc n) ps rest all whole some full =
      sym (take_front ps rest) ∙ (λ i. take (sym full i) (whole i))

-- all are taken, and no more than the limit says
module _ {X : Type 0} where
  pub taken_all : (limit : ℕ) (ps rest all : List X) → ps ++ rest ≡ all → rest ≡ [] → (0 < limit → length ps ≤ limit) → ps ≡ cut limit all
  taken_all zero ps rest all whole none short = sym (append-nil ps) ∙ ap (λ more. ps ++ more) (sym none) ∙ whole
  taken_all (suc n) ps rest all whole none short =
      sym (take_all (suc n) ps (short (omega arith)))
      ∙ ap (take (suc n)) (sym (append-nil ps) ∙ ap (λ more. ps ++ more) (sym none) ∙ whole)

-- ---- one step of a walk from a key

pub nth_step : (database : Database) (from : List ℕ) (backward : Bool) (x : Entry) (next : List ℕ) (left : ℕ)
    → Some x ≡ first (onward database from backward) → next ≡ behind x.0 backward → 0 < left
    → slice_get (keys_of (onward database next backward)) (left - 1) ≡ slice_get (keys_of (onward database from backward)) left
nth_step database from backward x next zero is on some = absurd (omega arith)
nth_step database from backward x next (suc n) is on some =
    let parts = first_is (onward database from backward) x (sym is) in
    let e : suc n - 1 ≡ n = omega arith in
    ap (slice_get (keys_of (onward database next backward))) e
    ∙ ap (λ ys. slice_get (keys_of ys) n) (ap (λ k. onward database k backward) on ∙ onward_behind database from backward x parts.0 parts.1)
    ∙ ap (λ ys. slice_get (keys_of ys) (suc n)) (sym parts.1)
