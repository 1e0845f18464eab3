-- A slice of a range depends on its interval alone.
use Rattle.std.proofs.Common.{◌≡◌, ℕ, zero, suc, ◌<◌, Bool, true, false, cond, not, List, [], ◌∷◌, length, take, refl, sym, ap, subst, ◌∙◌, arith}
use Rattle.std.specs.Prelude.{nat_le}
use Rattle.std.specs.FinMap as finite
use Rattle.std.proofs.lemmas.Bool.{and_from, and_parts, leb-true, not-true}
use Rattle.std.proofs.lemmas.List.{length-take}
use Rattle.key_bytes.specs.Keys.{key_lt, key_le, after, within}
use Rattle.key_bytes.specs.Ranges.{has}
use Rattle.key_bytes.proofs.Orders.{irreflexive, above_not_below, lt_trans, lt_after}
use Rattle.model_database.specs.Databases.{Database}
use Rattle.model_database.specs.Intervals.{last_key, slice_interval}
use Rattle.model_database.specs.Slices.{Entries, turned, cut, span, slice}
use Rattle.model_database.specs.States.{range_from}
use Rattle.model_database.proofs.Ranges.{covers_single}
use Rattle.range_read.proofs.Lists.{filter-reverse}
use Rattle.range_read.proofs.Rising.{Rises}
use Rattle.range_read.proofs.Walks.{turned_rises}
use Rattle.laws_history.specs.Held.{AgreeOn}
use Rattle.laws_history.proofs.Rising.{IsStrict, by_key, upto, front_local}
use Rattle.laws_history.proofs.Maps.{chosen, get-retained, entries-retain, same_cond, same_retained, same_chosen}

-- ---- the order of keys, or the other order

-- b stands behind a
abbrev pub ahead : Bool → List ℕ → List ℕ → Bool
ahead true a b = key_lt b a
ahead false a b = key_lt a b

-- no key stands behind itself, either way
ahead_strict : (backward : Bool) → IsStrict (ahead backward)
ahead_strict true = record {
  irreflexive = irreflexive;
  apart = λ a b h. above_not_below b a h;
  trans = λ a b c p q. lt_trans c b a q p;
}
ahead_strict false = record { irreflexive = irreflexive; apart = above_not_below; trans = lt_trans }

-- the entries of a database rise, either way
rises_ahead : (m : Database) (backward : Bool) → Rises (by_key (ahead backward)) (turned backward (finite.entries m))
rises_ahead m true = turned_rises m true
rises_ahead m false = turned_rises m false

-- what a test takes of a list that is turned is what it takes of the list, turned
pub chosen-turned : (p : List ℕ → Bool) (backward : Bool) (es : Entries) → chosen p (turned backward es) ≡ turned backward (chosen p es)
chosen-turned p true es = filter-reverse (λ e. p e.0) es
chosen-turned p false es = refl

-- ---- a range, as what its database retains

-- the pairs of a range, of a database that retains the range alone
span_of : Database → (b e : List ℕ) → Bool → Entries
span_of m b e backward = turned backward (finite.entries (finite.retain_keys m (within b e)))

-- they are the pairs of the range
span_is : (m : Database) (b e : List ℕ) (backward : Bool) → span m b e backward ≡ span_of m b e backward
unfolding span_of
span_is m b e backward = ap (turned backward) (sym (entries-retain m (within b e)))

-- two databases that have the same of each key of a range up to the last of a front have the same front
front_same : (m n : Database) (b e d : List ℕ) (i : ℕ) (backward : Bool) → i < length (span_of m b e backward)
    → ((k : List ℕ) → within b e k ≡ true → ahead backward (last_key d (take (suc i) (span_of m b e backward))) k ≡ false
    → finite.get m k ≡ finite.get n k)
    → take (suc i) (span_of m b e backward) ≡ take (suc i) (span_of n b e backward)
unfolding span_of
front_same m n b e d i backward inside same =
    front_local (ahead backward) (ahead_strict backward) d i (span_of m b e backward) (span_of n b e backward) (rises_ahead kept backward) (rises_ahead other backward)
    inside (
    chosen-turned test backward (finite.entries kept)
    ∙ ap (turned backward) (same_chosen kept other test same_kept)
    ∙ sym (chosen-turned test backward (finite.entries other)))
  where
    kept : Database
    kept = finite.retain_keys m (within b e)

    other : Database
    other = finite.retain_keys n (within b e)

    test : List ℕ → Bool
    test k = not (ahead backward (last_key d (take (suc i) (span_of m b e backward))) k)

    same_kept : (k : List ℕ) → test k ≡ true → finite.get kept k ≡ finite.get other k
    same_kept k upto =
        get-retained m (within b e) k
        ∙ same_cond m n (within b e) k (λ inside. same k inside (not-true _ upto))
        ∙ sym (get-retained n (within b e) k)

-- ---- the interval of a slice

-- the keys of a range up to the last of a front are in the interval of the front
in_front : (b e z k : List ℕ) (backward : Bool) → within b e k ≡ true → ahead backward z k ≡ false
    → has (cond backward (range_from z e) (range_from b (after z))) k ≡ true
in_front b e z k true inside front = and_from (key_le z k) (key_lt k e) (ap not front) (and_parts (key_le b k) (key_lt k e) inside).1
in_front b e z k false inside front =
    and_from (key_le b k) (key_lt k (after z)) (and_parts (key_le b k) (key_lt k e) inside).0 (lt_after k z ∙ ap not front)

-- a list whose front reaches the limit has so many entries, or more
pub reached_inside : (i : ℕ) (es : Entries) → nat_le (suc i) (length (take (suc i) es)) ≡ true → i < length es
reached_inside i es reached = omega (arith, leb-true (suc i) (length (take (suc i) es)) reached, length-take (suc i) es)

module _ (m n : Database) (b e : List ℕ) where
  -- two databases that agree on a whole range have the same slice of it
  whole_local : (limit : ℕ) (backward : Bool) → AgreeOn (range_from b e ∷ []) m n
      → cut limit (span_of m b e backward) ≡ cut limit (span_of n b e backward)
  unfolding span_of
  whole_local limit backward agree =
      ap (λ kept. cut limit (turned backward (finite.entries kept)))
      (same_retained m n (within b e) (λ k inside. agree k (covers_single (range_from b e) k ∙ inside)))

  -- so they have where the limit is reached and they agree up to the last key
  reached_local : (i : ℕ) (backward : Bool) → i < length (span_of m b e backward)
      → AgreeOn (cond backward (range_from (last_key e (take (suc i) (span_of m b e backward))) e)
      (range_from b (after (last_key b (take (suc i) (span_of m b e backward))))) ∷ []) m n
      → take (suc i) (span_of m b e backward) ≡ take (suc i) (span_of n b e backward)
  reached_local i true inside agree =
      let z = last_key e (take (suc i) (span_of m b e true)) in
      front_same m n b e e i true inside (λ k within front. agree k (covers_single (range_from z e) k ∙ in_front b e z k true within front))
  reached_local i false inside agree =
      let z = last_key b (take (suc i) (span_of m b e false)) in
      front_same m n b e b i false inside
      (λ k within front. agree k (covers_single (range_from b (after z)) k ∙ in_front b e z k false within front))

  -- so they have where they agree on the interval of the slice, whether the limit is reached or not
  cut_local : (limit : ℕ) (backward : Bool) → AgreeOn (slice_interval b e limit backward (cut limit (span_of m b e backward)) ∷ []) m n
      → cut limit (span_of m b e backward) ≡ cut limit (span_of n b e backward)
  cut_local zero backward agree = whole_local zero backward agree
  cut_local (suc i) backward agree =
      elim (nat_le (suc i) (length (take (suc i) (span_of m b e backward))))
      as (λ t. nat_le (suc i) (length (take (suc i) (span_of m b e backward))) ≡ t
      → AgreeOn (cond t (cond backward (range_from (last_key e (take (suc i) (span_of m b e backward))) e)
      (range_from b (after (last_key b (take (suc i) (span_of m b e backward)))))) (range_from b e) ∷ []) m n
      → take (suc i) (span_of m b e backward) ≡ take (suc i) (span_of n b e backward)) [
        | true ↦ λ reached agree. reached_local i backward (reached_inside i (span_of m b e backward) reached) agree
        | false ↦ λ all agree. whole_local (suc i) backward agree
      ] refl agree

  -- two databases that have the same of each key of a slice's interval have the same slice
  pub slice_local : (limit : ℕ) (backward : Bool) → AgreeOn (slice_interval b e limit backward (slice m b e limit backward) ∷ []) m n
      → slice m b e limit backward ≡ slice n b e limit backward
  slice_local limit backward agree =
      ap (cut limit) (span_is m b e backward)
      ∙ cut_local limit backward (subst (λ es. AgreeOn (slice_interval b e limit backward (cut limit es) ∷ []) m n) (span_is m b e backward) agree)
      ∙ ap (cut limit) (sym (span_is n b e backward))
