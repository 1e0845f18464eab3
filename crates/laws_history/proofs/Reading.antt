-- The answer of a read depends on its interval alone, and so does the interval.
use Rattle.std.proofs.Common.{◌≡◌, ℕ, Bool, not, List, [], ◌∷◌, refl, sym, ap, ◌∙◌}
use Rattle.std.specs.FinMap as finite
use Rattle.std.proofs.lemmas.Bool.{and_from, or_left, or_right}
use Rattle.key_bytes.specs.declared.range.KeyRange.{KeyRange}
use Rattle.key_bytes.specs.Keys.{key_lt, key_le, after}
use Rattle.key_bytes.specs.Ranges.{has}
use Rattle.key_bytes.proofs.Orders.{irreflexive, below_after}
use Rattle.model_database.specs.declared.selector.Selector.{Selector}
use Rattle.model_database.specs.Databases.{Database}
use Rattle.model_database.specs.Intervals.{one, selector_interval, slice_interval, interval}
use Rattle.model_database.specs.Reads.{Read, Get, GetKey, GetKeyRange, GetRange, ValueIs, KeyIs, PairsAre, answer}
use Rattle.model_database.specs.Selecting.{select}
use Rattle.model_database.specs.Slices.{slice}
use Rattle.model_database.specs.States.{covers}
use Rattle.model_database.proofs.Ranges.{covers_single}
use Rattle.laws_history.specs.Held.{AgreeOn}
use Rattle.laws_history.specs.Small.{IsBelowTop}
use Rattle.laws_history.proofs.Slices.{slice_local}
use Rattle.laws_history.proofs.Selectors.{select_local}

module _ (m n : Database) where
  -- databases that agree on some ranges agree on the first
  pub agree_first : (range : KeyRange) (ranges : List KeyRange) → AgreeOn (range ∷ ranges) m n → AgreeOn (range ∷ []) m n
  agree_first range ranges agree =
      λ key in_first. agree key (or_left (has range key) (covers ranges key) (sym (covers_single range key) ∙ in_first))

  -- and on the others
  pub agree_rest : (range : KeyRange) (ranges : List KeyRange) → AgreeOn (range ∷ ranges) m n → AgreeOn ranges m n
  agree_rest range ranges agree = λ key in_rest. agree key (or_right (has range key) (covers ranges key) in_rest)

  -- databases that agree on the range of a key have the same of the key
  pub get_local : (key : List ℕ) → AgreeOn (one key ∷ []) m n → finite.get m key ≡ finite.get n key
  get_local key agree =
      agree key (covers_single (one key) key ∙ and_from (key_le key key) (key_lt key (after key)) (ap not (irreflexive key)) (below_after key))

module _ (m n : Database) (small : IsBelowTop m) (small_other : IsBelowTop n) where
  -- a range between selectors: each selector's key depends on its own interval, and the slice between these keys on that of the
  -- slice
  pub range_local : (begin end : Selector) (limit : ℕ) (backward : Bool) → AgreeOn (interval (GetRange begin end limit backward) m) m n
      → (answer (GetRange begin end limit backward) m ≡ answer (GetRange begin end limit backward) n)
      × (interval (GetRange begin end limit backward) m ≡ interval (GetRange begin end limit backward) n)
  unfolding answer
  range_local begin end limit backward agree = (
    ap PairsAre pairs,
    λ j. selector_interval begin (first j) ∷ selector_interval end (second j)
        ∷ slice_interval (first j) (second j) limit backward (pairs j) ∷ [],
  )
    where
      pairs_rest_on : KeyRange
      pairs_rest_on =
          slice_interval (select m begin) (select m end) limit backward (slice m (select m begin) (select m end) limit backward)

      rest : AgreeOn (selector_interval end (select m end) ∷ pairs_rest_on ∷ []) m n
      rest = agree_rest m n (selector_interval begin (select m begin)) (selector_interval end (select m end) ∷ pairs_rest_on ∷ []) agree

      first : select m begin ≡ select n begin
      first =
          select_local m n begin small small_other
          (agree_first m n (selector_interval begin (select m begin)) (selector_interval end (select m end) ∷ pairs_rest_on ∷ []) agree)

      second : select m end ≡ select n end
      second = select_local m n end small small_other (agree_first m n (selector_interval end (select m end)) (pairs_rest_on ∷ []) rest)

      pairs : slice m (select m begin) (select m end) limit backward ≡ slice n (select n begin) (select n end) limit backward
      pairs =
          slice_local m n (select m begin) (select m end) limit backward
          (agree_rest m n (selector_interval end (select m end)) (pairs_rest_on ∷ []) rest)
          ∙ (λ j. slice n (first j) (second j) limit backward)

-- Two databases with keys below FF alone that have the same of each key of a read's conflict range answer it alike, and it has the
-- same keys of both.
pub read_local : (read : Read) (m n : Database) → IsBelowTop m → IsBelowTop n → AgreeOn (interval read m) m n
    → (answer read m ≡ answer read n) × (interval read m ≡ interval read n)
unfolding answer
read_local (Get key) m n small small_other agree = (ap ValueIs (get_local m n key agree), refl)
read_local (GetKey selector) m n small small_other agree =
    let same = select_local m n selector small small_other agree in
    (ap KeyIs same, ap (λ found. selector_interval selector found ∷ []) same)
read_local (GetKeyRange begin end limit backward) m n small small_other agree =
    let same = slice_local m n begin end limit backward agree in
    (ap PairsAre same, ap (λ pairs. slice_interval begin end limit backward pairs ∷ []) same)
read_local (GetRange begin end limit backward) m n small small_other agree =
    range_local m n small small_other begin end limit backward agree
