-- A selector's key by a walk: up for a positive offset, down else.
use Rattle.std.proofs.Common.{◌≡◌, ℕ, suc, ◌<◌, ◌+◌, ◌-◌, Bool, true, false, cond, not, List, [], ◌∷◌, ◌++◌, length, reverse, get_or, nat_lt, ltb-true, ltb-false, refl, sym, ap, ◌∙◌, arith}
use Rattle.std.specs.Prelude.{pos, negsuc, ◌+ℤ◌, ◌-ℤ◌, neg_ℤ, count_by}
use Rattle.std.specs.FinMap as finite
use Rattle.std.specs.List.{filter}
use Rattle.std.specs.Map.{keys_of}
use Rattle.std.proofs.lemmas.Int.{ints}
use Rattle.std.proofs.lemmas.List.{get_or-append-add, get_or_append_left, get_or-reverse, get_or_past, get_or_default, length-reverse, map-append}
use Rattle.std.proofs.lemmas.List.Sums.{length-filter}
use Rattle.key_bytes.specs.Keys.{key_lt, key_le, after, top}
use Rattle.model_database.specs.Databases.{Database}
use Rattle.model_database.specs.declared.selector.Selector.{Selector}
use Rattle.model_database.specs.Intervals.{start_of}
use Rattle.model_database.specs.Selecting.{select, key_at, sorted_keys, stands_before}
use Rattle.model_database.specs.Slices.{Entries}
use Rattle.range_read.specs.Walks.{onward}
use Rattle.range_read.proofs.Lists.{filter-reverse, reverse-cons}
use Rattle.key_bytes.proofs.Orders.{lt_after, above_not_below, le_lt}
use Rattle.range_read.proofs.Rising.{IsBefore, Rises}
use Rattle.range_read.proofs.Walks.{Entry, meets_first, turned_rises}

-- ---- the keys before a place, and the others

-- a key stands before the place where it is below the start
before_start : (s : Selector) (k : List ℕ) → stands_before s k ≡ key_lt k (start_of s)
before_start s k = by_or_equal s.or_equal
  where
    by_or_equal : (b : Bool) → cond b (key_le k s.key) (key_lt k s.key) ≡ key_lt k (cond b (after s.key) s.key)
    by_or_equal true = sym (lt_after k s.key)
    by_or_equal false = refl

keys_filter : (p : List ℕ → Bool) (q : List ℕ → Bool) → ((k : List ℕ) → p k ≡ q k) → (es : Entries)
    → filter p (keys_of es) ≡ keys_of (filter (λ e. q e.0) es)
keys_filter p q same [] = refl
keys_filter p q same (e ∷ es) =
    (λ i. cond (same e.0 i) (e.0 ∷ keys_filter p q same es i) (keys_filter p q same es i))
    ∙ elim (q e.0) as
    (λ b. cond b (e.0 ∷ keys_of (filter (λ e. q e.0) es)) (keys_of (filter (λ e. q e.0) es))
    ≡ keys_of (cond b (e ∷ filter (λ e. q e.0) es) (filter (λ e. q e.0) es)))
    [ true ↦ refl | false ↦ refl ]

keys_reverse : (es : Entries) → keys_of (reverse es) ≡ reverse (keys_of es)
keys_reverse [] = refl
keys_reverse (e ∷ es) =
    ap keys_of (reverse-cons e es) ∙ map-append (λ e. e.0) (reverse es) (e ∷ [])
    ∙ ap (λ ks. ks ++ e.0 ∷ []) (keys_reverse es) ∙ sym (reverse-cons e.0 (keys_of es))

module _ (start : List ℕ) where
  below : Entries → Entries
  below es = filter (λ e. key_lt e.0 start) es

  not_below : Entries → Entries
  not_below es = filter (λ e. key_le start e.0) es

  none_is_below : (e : Entry) (es : Entries) → IsBefore (meets_first false) e es → key_lt e.0 start ≡ false
      → (below es ≡ []) × (not_below es ≡ es)
  unfolding below not_below
  none_is_below e [] before high = (refl, refl)
  none_is_below e (f ∷ es) before high =
      let rest = none_is_below e es before.1 high in
      let fails : key_lt f.0 start ≡ false = above_not_below start f.0 (le_lt start e.0 f.0 high before.0) in (
        ap (λ b. cond b (f ∷ below es) (below es)) fails ∙ rest.0,
        ap (λ b. cond (not b) (f ∷ not_below es) (not_below es)) fails ∙ ap (λ ys. f ∷ ys) rest.1,
      )

  -- entries that rise are those below the start, and then the others
  split : (es : Entries) → Rises (meets_first false) es → es ≡ below es ++ not_below es
  unfolding below not_below
  split [] rises = refl
  split (e ∷ es) rises =
      elim (key_lt e.0 start)
      as (λ b. key_lt e.0 start ≡ b → e ∷ es ≡ cond b (e ∷ below es) (below es) ++ cond (not b) (e ∷ not_below es) (not_below es)) [
        | true ↦ λ low. ap (λ ys. e ∷ ys) (split es rises.1)
        | false ↦ λ high. let rest = none_is_below e es rises.0 high in
            sym ((λ i. rest.0 i ++ e ∷ rest.1 i))
      ] refl

-- ---- the two laws

module _ (database : Database) (s : Selector) where
  lows : List (List ℕ)
  lows = keys_of (filter (λ e. key_lt e.0 (start_of s)) (finite.entries database))

  highs : List (List ℕ)
  highs = keys_of (filter (λ e. key_le (start_of s) e.0) (finite.entries database))

  keys_are : sorted_keys database ≡ lows ++ highs
  unfolding lows highs below not_below
  keys_are =
      ap keys_of (split (start_of s) (finite.entries database) (turned_rises database false))
      ∙ map-append (λ e. e.0) (below (start_of s) (finite.entries database)) (not_below (start_of s) (finite.entries database))

  counted : count_by (stands_before s) (sorted_keys database) ≡ length lows
  unfolding lows
  counted =
      sym (length-filter (stands_before s) (sorted_keys database))
      ∙ ap length (keys_filter (stands_before s) (λ k. key_lt k (start_of s)) (before_start s) (finite.entries database))

  -- the place, by how many keys stand below the start
  selected : select database s ≡ key_at (pos (length lows) -ℤ pos 1 +ℤ s.offset) (lows ++ highs)
  selected = λ i. key_at (pos (counted i) -ℤ pos 1 +ℤ s.offset) (keys_are i)

  pub law_up : (n : ℕ) → s.offset ≡ pos (suc n) → get_or (keys_of (onward database (start_of s) false)) n top ≡ select database s
  unfolding highs
  law_up n is =
      let place : pos (length lows) -ℤ pos 1 +ℤ s.offset ≡ pos (length lows + n) = ap (λ z. pos (length lows) -ℤ pos 1 +ℤ z) is
      ∙ omega (arith, ints) in
      sym (selected ∙ ap (λ z. key_at z (lows ++ highs)) place ∙ get_or-append-add lows highs n top)

  pub law_backward : (i : ℕ) → s.offset ≡ neg_ℤ (pos i) → get_or (keys_of (onward database (start_of s) true)) i [] ≡ select database s
  unfolding lows
  law_backward i is =
      ap (λ ks. get_or ks i [])
      (ap keys_of (filter-reverse (λ e. key_lt e.0 (start_of s)) (finite.entries database)) ∙ keys_reverse
      (filter (λ e. key_lt e.0 (start_of s)) (finite.entries database)))
      ∙ by_place (nat_lt i (length lows)) refl
      ∙ sym (selected ∙ ap (λ z. key_at (pos (length lows) -ℤ pos 1 +ℤ z) (lows ++ highs)) is)
    where
      by_place : (b : Bool) → nat_lt i (length lows) ≡ b
          → get_or (reverse lows) i [] ≡ key_at (pos (length lows) -ℤ pos 1 +ℤ neg_ℤ (pos i)) (lows ++ highs)
      by_place true inside =
          let h = ltb-true i (length lows) inside in
          let place : pos (length lows) -ℤ pos 1 +ℤ neg_ℤ (pos i) ≡ pos (length lows - 1 - i) = omega (arith, ints, h) in
          let low : length lows - 1 - i < length lows = omega (arith, h) in
          get_or-reverse lows i [] h ∙ get_or_default lows (length lows - 1 - i) [] top low
          ∙ sym (ap (λ z. key_at z (lows ++ highs)) place ∙ get_or_append_left lows highs top (length lows - 1 - i) low)
      by_place false outside =
          let h = ltb-false i (length lows) outside in
          let e = length-reverse lows in
          let place : pos (length lows) -ℤ pos 1 +ℤ neg_ℤ (pos i) ≡ negsuc (i - length lows) = omega (arith, ints, h) in
          get_or_past (reverse lows) i [] (omega (arith, h, e)) ∙ sym (ap (λ z. key_at z (lows ++ highs)) place)
