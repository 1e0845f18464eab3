-- A selector is a slice from its place, so its key depends on its interval alone.
use Rattle.std.proofs.Common.{◌≡◌, ℕ, zero, suc, ◌<◌, ◌≤◌, ◌⊎◌, inl, inr, Bool, true, false, cond, not, ◌&&◌, List, [], ◌∷◌, length, take, get_or, Option, None, Some, refl, sym, ap, subst, ◌∙◌, arith}
use Rattle.std.specs.Prelude.{ℤ, pos, negsuc, neg_ℤ, nat_le, bytes_eq, is_some}
use Rattle.std.specs.FinMap as finite
use Rattle.std.specs.List.{All}
use Rattle.std.specs.Map.{keys_of}
use Rattle.std.specs.Ordering.{is_eq}
use Rattle.std.specs.Cmp.Lexicographic.{texts_ties}
use Rattle.std.proofs.lemmas.Bool.{and_parts, cases_lt, false≢true, leb-true, le-leb, lt-leb}
use Rattle.std.proofs.lemmas.List.{get_or_past, length-take, length-map}
use Rattle.std.proofs.lemmas.List.Elements.{All-head, All-tail, filter_passes}
use Rattle.key_bytes.specs.Keys.{key_cmp, key_lt, key_le, after, lesser, top, within}
use Rattle.key_bytes.proofs.Orders.{less}
use Rattle.model_database.specs.declared.selector.Selector.{Selector}
use Rattle.model_database.specs.Databases.{Database}
use Rattle.model_database.specs.Intervals.{counts_up, start_of, end_at, is_reached, last_key, selector_interval, slice_interval}
use Rattle.model_database.specs.Selecting.{select}
use Rattle.model_database.specs.Slices.{Entries, turned, slice}
use Rattle.model_database.specs.States.{range_from}
use Rattle.model_database.proofs.Ranges.{lt_lesser}
use Rattle.range_read.proofs.Selectors.{law_up, law_backward}
use Rattle.laws_history.specs.Held.{AgreeOn}
use Rattle.laws_history.specs.Small.{IsBelowTop}
use Rattle.laws_history.proofs.Maps.{chosen, alike_chosen}
use Rattle.laws_history.proofs.Slices.{chosen-turned, reached_inside, slice_local}

-- ---- the last key of a front

-- the last key of a front is that at its place
last_is : (d none : List ℕ) (i : ℕ) (es : Entries) → i < length es → last_key d (take (suc i) es) ≡ get_or (keys_of es) i none
last_is d none i [] inside = absurd (omega arith)
last_is d none zero (e ∷ es) inside = refl
last_is d none (suc i) (e ∷ es) inside = last_is e.0 none i es (omega arith)

-- a test that each key of a list passes is passed by the last of a front
last_passes : (p : List ℕ → Bool) (d : List ℕ) (i : ℕ) (es : Entries) → All (λ e. p e.0 ≡ true) es → i < length es
    → p (last_key d (take (suc i) es)) ≡ true
last_passes p d i [] all inside = absurd (omega arith)
last_passes p d zero (e ∷ es) all inside = All-head (λ e. p e.0 ≡ true) e es all
last_passes p d (suc i) (e ∷ es) all inside = last_passes p e.0 i es (All-tail (λ e. p e.0 ≡ true) e es all) (omega arith)

-- where the limit is reached, the last key is the same whatever stands for none
last_same : (c d : List ℕ) (i : ℕ) (es : Entries) → nat_le (suc i) (length es) ≡ true → last_key c es ≡ last_key d es
last_same c d i [] reached = absurd (omega (arith, leb-true (suc i) 0 reached))
last_same c d i (e ∷ es) reached = refl

-- the key of the last pair of a slice that reaches its limit, else this one
abbrev pub picked : (none : List ℕ) → (limit : ℕ) → Entries → List ℕ
picked none limit pairs = cond (is_reached limit (length pairs)) (last_key none pairs) none

-- it is the key at the place that the limit counts to
picked_is : (none : List ℕ) (i : ℕ) (es : Entries) → picked none (suc i) (take (suc i) es) ≡ get_or (keys_of es) i none
picked_is none i es = by (cases_lt i (length es))
  where
    by : (i < length es) ⊎ (length es ≤ i) → picked none (suc i) (take (suc i) es) ≡ get_or (keys_of es) i none
    by (inl inside) =
        ap (λ b. cond b (last_key none (take (suc i) es)) none)
        (le-leb (suc i) (length (take (suc i) es)) (omega (arith, length-take (suc i) es)))
        ∙ last_is none none i es inside
    by (inr outside) =
        ap (λ b. cond b (last_key none (take (suc i) es)) none)
        (lt-leb (suc i) (length (take (suc i) es)) (omega (arith, length-take (suc i) es)))
        ∙ sym (get_or_past (keys_of es) i none (omega (arith, length-map es (λ e. e.0))))

-- ---- a selector's key by a slice

-- a test that holds of each key of a database changes nothing beside another
and_held : (a b : Bool) (value : Option (List ℕ)) → (is_some value ≡ true → b ≡ true) → cond (a && b) value None ≡ cond a value None
and_held false b value held = refl
and_held true true value held = refl
and_held true false None held = refl
and_held true false (Some value) held = absurd (false≢true (held refl))

-- no key is below the empty key
not_below_empty : (k : List ℕ) → key_lt k [] ≡ false
not_below_empty [] = refl
not_below_empty (b ∷ k) = refl

module _ (m : Database) (s : Selector) (small : IsBelowTop m) where
  -- a selector that counts up means the last key of a slice from its place up to FF, or FF
  pub up_is_slice : (n : ℕ) → s.offset ≡ pos (suc n) → select m s ≡ picked top (suc n) (slice m (start_of s) top (suc n) false)
  up_is_slice n is = sym (
      picked_is top n (chosen (within (start_of s) top) (finite.entries m))
      ∙ ap (λ es. get_or (keys_of es) n top)
      (alike_chosen m (within (start_of s) top) (key_le (start_of s))
      (λ k. and_held (key_le (start_of s) k) (key_lt k top) (finite.get m k) (small k)))
      ∙ law_up m s n is)

  -- one that counts down means the last key of a slice down from its place, or the empty key
  pub down_is_slice : (i : ℕ) → s.offset ≡ neg_ℤ (pos i)
      → select m s ≡ picked [] (suc i) (slice m [] (lesser (start_of s) top) (suc i) true)
  down_is_slice i is = sym (
      picked_is [] i (turned true (chosen (within [] (lesser (start_of s) top)) (finite.entries m)))
      ∙ ap (λ es. get_or (keys_of (turned true es)) i [])
      (alike_chosen m (within [] (lesser (start_of s) top)) (λ k. key_lt k (start_of s)) alike)
      ∙ ap (λ es. get_or (keys_of es) i []) (sym (chosen-turned (λ k. key_lt k (start_of s)) true (finite.entries m)))
      ∙ law_backward m s i is)
    where
      alike : (k : List ℕ)
          → cond (within [] (lesser (start_of s) top) k) (finite.get m k) None ≡ cond (key_lt k (start_of s)) (finite.get m k) None
      alike k =
          (λ j. cond (not (not_below_empty k j) && lt_lesser k (start_of s) top j) (finite.get m k) None)
          ∙ and_held (key_lt k (start_of s)) (key_lt k top) (finite.get m k) (small k)

-- ---- its interval

-- a key below FF is not FF
not_top : (k : List ℕ) → key_lt k top ≡ true → bytes_eq k top ≡ false
not_top k below = texts_ties k top ∙ ap is_eq (less (key_cmp k top) below)

module _ (m : Database) (s : Selector) where
  -- the interval of a selector that counts up is that of the slice
  up_interval : (n : ℕ) → s.offset ≡ pos (suc n)
      → selector_interval s (picked top (suc n) (slice m (start_of s) top (suc n) false))
      ≡ slice_interval (start_of s) top (suc n) false (slice m (start_of s) top (suc n) false)
  up_interval n is =
      ap (λ z. cond (counts_up z) (range_from (start_of s) (end_at found)) (range_from found (lesser (start_of s) top))) is
      ∙ elim (nat_le (suc n) (length got))
      as (λ b. nat_le (suc n) (length got) ≡ b → range_from (start_of s) (end_at (cond b (last_key top got) top))
      ≡ cond b (range_from (start_of s) (after (last_key (start_of s) got))) (range_from (start_of s) top)) [
        | true ↦ λ reached.
            ap (λ b. range_from (start_of s) (cond b top (after (last_key top got)))) (not_top (last_key top got) (below reached))
            ∙ ap (λ k. range_from (start_of s) (after k)) (last_same top (start_of s) n got reached)
        | false ↦ λ all. refl
      ] refl
    where
      inside : Entries
      inside = chosen (within (start_of s) top) (finite.entries m)

      got : Entries
      got = take (suc n) inside

      found : List ℕ
      found = picked top (suc n) got

      below : nat_le (suc n) (length got) ≡ true → key_lt (last_key top got) top ≡ true
      below reached =
          (and_parts (key_le (start_of s) (last_key top got)) (key_lt (last_key top got) top)
          (last_passes (within (start_of s) top) top n inside (filter_passes (λ e. within (start_of s) top e.0) (finite.entries m))
          (reached_inside n inside reached))).1

-- an offset of 0 or below doesn't count up
counts_backward : (i : ℕ) → counts_up (neg_ℤ (pos i)) ≡ false
counts_backward zero = refl
counts_backward (suc i) = refl

-- the interval of a selector that counts down is that of the slice
down_interval : (s : Selector) (i : ℕ) (got : Entries) → s.offset ≡ neg_ℤ (pos i)
    → selector_interval s (picked [] (suc i) got) ≡ slice_interval [] (lesser (start_of s) top) (suc i) true got
down_interval s i got is =
    ap (λ b. cond b (range_from (start_of s) (end_at (picked [] (suc i) got))) (range_from (picked [] (suc i) got) (lesser (start_of s) top)))
    (ap counts_up is ∙ counts_backward i)
    ∙ elim (nat_le (suc i) (length got))
    as (λ b. nat_le (suc i) (length got) ≡ b → range_from (cond b (last_key [] got) []) (lesser (start_of s) top)
    ≡ cond b (range_from (last_key (lesser (start_of s) top) got) (lesser (start_of s) top)) (range_from [] (lesser (start_of s) top))) [
      | true ↦ λ reached. ap (λ k. range_from k (lesser (start_of s) top)) (last_same [] (lesser (start_of s) top) i got reached)
      | false ↦ λ all. refl
    ] refl

-- ---- its key depends on its interval

-- an offset counts up, or down
which_way : (z : ℤ) → ((n : ℕ) × (z ≡ pos (suc n))) ⊎ ((i : ℕ) × (z ≡ neg_ℤ (pos i)))
which_way (pos zero) = inr (0, refl)
which_way (pos (suc n)) = inl (n, refl)
which_way (negsuc n) = inr (suc n, refl)

module _ (m n : Database) (s : Selector) (small : IsBelowTop m) (small_other : IsBelowTop n) where
  -- two databases with keys below FF alone that have the same of each key of a selector's interval have the same key at it
  pub select_local : AgreeOn (selector_interval s (select m s) ∷ []) m n → select m s ≡ select n s
  select_local agree = elim (which_way s.offset) [
    | inl up ↦
        up_is_slice m s small up.0 up.1
        ∙ ap (picked top (suc up.0)) (slice_local m n (start_of s) top (suc up.0) false
        (subst (λ range. AgreeOn (range ∷ []) m n)
        (ap (selector_interval s) (up_is_slice m s small up.0 up.1) ∙ up_interval m s up.0 up.1) agree))
        ∙ sym (up_is_slice n s small_other up.0 up.1)
    | inr backward ↦
        down_is_slice m s small backward.0 backward.1
        ∙ ap (picked [] (suc backward.0)) (slice_local m n [] (lesser (start_of s) top) (suc backward.0) true
        (subst (λ range. AgreeOn (range ∷ []) m n)
        (ap (selector_interval s) (down_is_slice m s small backward.0 backward.1)
        ∙ down_interval s backward.0 (slice m [] (lesser (start_of s) top) (suc backward.0) true) backward.1) agree))
        ∙ sym (down_is_slice n s small_other backward.0 backward.1)
  ]
