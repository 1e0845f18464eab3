-- The greatest number that a key of a range has: what its begin has, and what the boundaries in it have.
use Rattle.std.proofs.Common.{◌≡◌, ◌≤◌, ◌⊎◌, inl, inr, ℕ, max, arith, Bool, true, false, cond, not, List, [], ◌∷◌, refl, sym, ap, subst, ◌∙◌, true≢false}
use Rattle.std.proofs.lemmas.Bool.{cases_lt}
use Rattle.std.specs.List.{filter}
use Rattle.key_bytes.specs.Keys.{key_lt, within}
use Rattle.key_bytes.proofs.Orders.{above_not_below, irreflexive, le_lt}
use Rattle.model_database.specs.States.{range_from}
use Rattle.range_map.specs.Boundaries.{Boundaries, held, held_from}
use Rattle.range_map.proofs.Held.{IsBelow, IsRising, below_lower, held_past, rising_below, rising_rest}
use Rattle.conflict_ranges.proofs.Between.{from_within, is_within}
use Rattle.conflict_ranges.proofs.Walks.{IsReached}

abbrev Numbers : Type 0
Numbers = List (List ℕ × ℕ)

-- the greatest of a number and of what these boundaries have
abbrev pub greatest : ℕ → Numbers → ℕ
greatest number [] = number
greatest number (e ∷ es) = greatest (max number e.1) es

pub grows : (number : ℕ) (es : Numbers) → number ≤ greatest number es
grows number [] = omega arith
grows number (e ∷ es) = let more = grows (max number e.1) es in omega (arith, more)

module _ (begin end : List ℕ) where
  abbrev inside : Numbers → Numbers
  inside es = filter (λ e. within begin end e.0) es

  -- of these boundaries, where the begin has no more than a number, a key has no more than the greatest
  abbrev IsBelowGreatest : ℕ → Numbers → List ℕ → Type 0
  IsBelowGreatest d es key =
      (number : ℕ) → held_from d es begin ≤ number → held_from d es key ≤ greatest number (inside es)

  -- no key of the range has a greater one
  above_from : (d : ℕ) (es : Numbers) (key : List ℕ) → IsRising es → key_lt key begin ≡ false → key_lt key end ≡ true
      → IsBelowGreatest d es key
  above_from d [] key rising from below number least = least
  above_from d ((q, x) ∷ es) key rising from below number least =
      by_key (key_lt key q) refl (above_from x es key (rising_rest q x es rising) from below)
    where
      by_first : (t : Bool) → (t ≡ true → held_from x es begin ≤ max number x) → (t ≡ false → held_from x es begin ≤ number) → IsBelowGreatest x es key
          → held_from x es key ≤ greatest number (cond t ((q, x) ∷ inside es) (inside es))
      by_first true here _ rest = rest (max number x) (here refl)
      by_first false _ here rest = rest number (here refl)

      by_begin : (t : Bool) → key_lt begin q ≡ t → key_lt key q ≡ false → cond (not t) (held_from x es begin) d ≤ number → IsBelowGreatest x es key
          → held_from x es key ≤ greatest number (cond (within begin end q) ((q, x) ∷ inside es) (inside es))
      by_begin true low over _ rest =
          let is_in = is_within begin end q (above_not_below begin q low) (le_lt q key end over below) in
          let same = held_past x es begin (below_lower begin q es low (rising_below q x es rising)) in
          by_first (within begin end q) (λ _. omega (arith, same)) (λ out. absurd (true≢false (sym is_in ∙ out))) rest
      by_begin false _ _ least rest = by_first (within begin end q) (λ _. omega (arith, least)) (λ _. least) rest

      by_key : (t : Bool) → key_lt key q ≡ t → IsBelowGreatest x es key
          → cond (not t) (held_from x es key) d ≤ greatest number (cond (within begin end q) ((q, x) ∷ inside es) (inside es))
      by_key true low _ =
          let here : d ≤ number =
          subst (λ t. cond (not t) (held_from x es begin) d ≤ number) (le_lt begin key q from low) least in
          let more = grows number (inside ((q, x) ∷ es)) in omega (arith, here, more)
      by_key false over rest = by_begin (key_lt begin q) refl over least rest

  -- it is the number that was there before, or a key of the range has it, which is above all that lies below the boundaries
  abbrev IsMet : ℕ → Numbers → ℕ → Type 0
  IsMet d es number =
      (key : List ℕ) × (within begin end key ≡ true) × ((low : List ℕ) → IsBelow low es → key_lt low key ≡ true)
      × (held_from d es key ≡ number)

  met_from : (d : ℕ) (es : Numbers) → IsRising es → (number : ℕ)
      → (greatest number (inside es) ≡ number) ⊎ IsMet d es (greatest number (inside es))
  met_from d [] rising number = inl refl
  met_from d ((q, x) ∷ es) rising number =
      by_first (within begin end q) refl (met_from x es (rising_rest q x es rising))
    where
      above : IsBelow q es
      above = rising_below q x es rising

      later : (n : ℕ) → IsMet x es n → IsMet d ((q, x) ∷ es) n
      later n (key, is_in, higher, has) = (
        key,
        is_in,
        (λ low below. higher low below.1),
        ap (λ t. cond (not t) (held_from x es key) d) (above_not_below q key (higher q above)) ∙ has,
      )

      here : within begin end q ≡ true → IsMet d ((q, x) ∷ es) x
      here is_in = (
        q,
        is_in,
        (λ low below. below.0),
        ap (λ t. cond (not t) (held_from x es q) d) (irreflexive q) ∙ held_past x es q above,
      )

      by_first : (t : Bool) → within begin end q ≡ t
          → ((n : ℕ) → (greatest n (inside es) ≡ n) ⊎ IsMet x es (greatest n (inside es)))
          → (greatest number (cond t ((q, x) ∷ inside es) (inside es)) ≡ number)
          ⊎ IsMet d ((q, x) ∷ es) (greatest number (cond t ((q, x) ∷ inside es) (inside es)))
      by_first true is_in rest = elim (rest (max number x)) [
        | inr met ↦ inr (later (greatest (max number x) (inside es)) met)
        | inl same ↦ elim (cases_lt number x) [
          | inl less ↦
              let is : x ≡ greatest (max number x) (inside es) = omega (arith, same, less) in
              inr (subst (IsMet d ((q, x) ∷ es)) is (here is_in))
          | inr more ↦ let is : greatest (max number x) (inside es) ≡ number = omega (arith, same, more) in inl is
        ]
      ]
      by_first false _ rest = elim (rest number) [
        | inl same ↦ inl same
        | inr met ↦ inr (later (greatest number (inside es)) met)
      ]

  module _ (boundaries : Boundaries ℕ) (rising : IsRising boundaries.entries) where
    abbrev newest : ℕ
    newest = greatest (held boundaries begin) (inside boundaries.entries)

    pub newest_above : (key : List ℕ) → within begin end key ≡ true → held boundaries key ≤ newest
    newest_above key is_in =
        let sides = from_within begin end key is_in in
        above_from boundaries.base boundaries.entries key rising sides.0 sides.1 (held boundaries begin) (omega arith)

    pub newest_reached : key_lt begin end ≡ true → IsReached (range_from begin end) boundaries newest
    newest_reached some = elim (met_from boundaries.base boundaries.entries rising (held boundaries begin)) [
      | inl same ↦ (begin, is_within begin end begin (irreflexive begin) some, sym same)
      | inr (key, is_in, _, has) ↦ (key, is_in, has)
    ]
