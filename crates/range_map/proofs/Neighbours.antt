-- Between two boundaries that follow each other all keys have the same.
use Rattle.std.proofs.Common.{◌≡◌, ℕ, Bool, true, false, cond, not, List, [], ◌∷◌, Some, None, is_some, refl, sym, ap, ◌∙◌, true≢false}
use Rattle.std.proofs.lemmas.Bool.{false≢true, not-true}
use Rattle.std.proofs.lemmas.Map.Lookups.{exact_bytes}
use Rattle.std.proofs.lemmas.Map.Views.{tells_apart}
use Rattle.std.proofs.lemmas.Option.{same_Some, none-some}
use Rattle.std.specs.BTreeMap.{is_at}
use Rattle.std.specs.List.{filter}
use Rattle.std.specs.Map.{keys_of, lookup}
use Rattle.key_bytes.specs.Keys.{key_cmp, key_le, key_lt, after}
use Rattle.key_bytes.proofs.Orders.{irreflexive, above_not_below, le_lt, lt_le, lt_after, below_after}
use Rattle.key_map.specs.Ends.{first, last}
use Rattle.range_map.specs.Boundaries.{Boundaries, held_from, held, boundaries_of, is_boundary, IsBelowBoundary}
use Rattle.range_map.proofs.Held.{IsBelow, IsRising, is_among, rising_below, rising_rest, among_above}

last_some : (x : List ℕ) (xs : List (List ℕ)) → last (x ∷ xs) ≡ None → ⊥
last_some x [] none = none-some x (sym none)
last_some x (y ∷ xs) none = last_some y xs none

-- a ≤ b ≤ c, by what is not below
le_le : (a b c : List ℕ) → key_lt b a ≡ false → key_lt c b ≡ false → key_lt c a ≡ false
le_le a b c first second = elim (key_lt c a) as (λ t. key_lt c a ≡ t → t ≡ false) [
  | true ↦ λ below. absurd (true≢false (sym (lt_le c a b below first) ∙ second))
  | false ↦ λ _. refl
] refl

-- what is not above is below what is above
below_other : (a b c : List ℕ) → key_lt b a ≡ false → key_lt c a ≡ true → key_lt c b ≡ true
below_other a b c above below = lt_le c a b below above

module _ {X : Type 0} where
  is_among-first : (b : List ℕ) (e : List ℕ × X) (es : List (List ℕ × X)) → (is_at (key_cmp b) e.0 ≡ false) → is_among b (e ∷ es) ≡ true
      → is_among b es ≡ true
  is_among-first b e es other among =
      sym (ap (λ t. is_some (cond t (Some e.1) (lookup (is_at (key_cmp b)) es))) other) ∙ among

  -- ---- the first boundary above a key

  same_up_to : (d : X) (es : List (List ℕ × X)) (k q : List ℕ) → key_lt q k ≡ false
      → IsBelowBoundary q (first (filter (key_lt k) (keys_of es))) → held_from d es q ≡ held_from d es k
  same_up_to d [] k q from below = refl
  same_up_to d (e ∷ es) k q from below = by_first (key_lt k e.0) refl below (same_up_to e.1 es k q from)
    where
      by_first : (t : Bool) → key_lt k e.0 ≡ t
          → IsBelowBoundary q (first (cond t (e.0 ∷ filter (key_lt k) (keys_of es)) (filter (key_lt k) (keys_of es))))
          → (IsBelowBoundary q (first (filter (key_lt k) (keys_of es))) → held_from e.1 es q ≡ held_from e.1 es k)
          → cond (key_le e.0 q) (held_from e.1 es q) d ≡ cond (not t) (held_from e.1 es k) d
      by_first true _ under rest = ap (λ t. cond (not t) (held_from e.1 es q) d) under
      by_first false past under rest =
          ap (λ t. cond (not t) (held_from e.1 es q) d) (le_le e.0 k q past from) ∙ rest under

  -- from a key up to the first boundary above it all keys have the same
  pub held-up_to : (boundaries : Boundaries X) (k q : List ℕ) → key_le k q ≡ true
      → IsBelowBoundary q (first (filter (key_lt k) (boundaries_of boundaries))) → held boundaries q ≡ held boundaries k
  held-up_to boundaries k q from below = same_up_to boundaries.base boundaries.entries k q (not-true (key_lt q k) from) below

  first_after : (es : List (List ℕ × X)) (k : List ℕ) → IsRising es → is_among (after k) es ≡ true
      → first (filter (key_lt k) (keys_of es)) ≡ Some (after k)
  first_after [] k rising among = absurd (false≢true among)
  first_after (e ∷ es) k rising among =
      by_first (key_lt k e.0) refl (is_at (key_cmp (after k)) e.0) refl (first_after es k (rising_rest e.0 e.1 es rising))
    where
      by_first : (t : Bool) → key_lt k e.0 ≡ t → (s : Bool) → is_at (key_cmp (after k)) e.0 ≡ s
          → (is_among (after k) es ≡ true → first (filter (key_lt k) (keys_of es)) ≡ Some (after k))
          → first (cond t (e.0 ∷ filter (key_lt k) (keys_of es)) (filter (key_lt k) (keys_of es))) ≡ Some (after k)
      by_first true above true same rest = ap Some (sym (tells_apart exact_bytes (after k) e.0 same))
      by_first true above false other rest =
          let later = among_above (after k) e.0 es (rising_below e.0 e.1 es rising) (is_among-first (after k) e es other among) in
          absurd (true≢false (sym later ∙ lt_after e.0 k ∙ ap not above))
      by_first false past true same rest =
          let over : key_lt k e.0 ≡ true = sym (ap (key_lt k) (tells_apart exact_bytes (after k) e.0 same)) ∙ below_after k in
          absurd (true≢false (sym over ∙ past))
      by_first false past false other rest = rest (is_among-first (after k) e es other among)

  -- where the key after a key is a boundary, it is the first boundary above it
  pub next-after : (boundaries : Boundaries X) (k : List ℕ) → IsRising boundaries.entries → is_boundary (after k) boundaries ≡ true
      → first (filter (key_lt k) (boundaries_of boundaries)) ≡ Some (after k)
  next-after boundaries k = first_after boundaries.entries k

  -- ---- the last boundary below a key

  module _ (k : List ℕ) where
    abbrev lower : List (List ℕ × X) → List (List ℕ)
    lower es = filter (λ boundary. key_lt boundary k) (keys_of es)

    -- no boundary is below the key
    held_below : (d : X) (es : List (List ℕ × X)) (q : List ℕ) → last (lower es) ≡ None → key_lt q k ≡ true → held_from d es q ≡ d
    held_below d [] q none below = refl
    held_below d (e ∷ es) q none below = by_first (key_lt e.0 k) refl none
      where
        by_first : (t : Bool) → key_lt e.0 k ≡ t → last (cond t (e.0 ∷ lower es) (lower es)) ≡ None
            → cond (key_le e.0 q) (held_from e.1 es q) d ≡ d
        by_first true _ nothing = absurd (last_some e.0 (lower es) nothing)
        by_first false past _ = ap (λ t. cond (not t) (held_from e.1 es q) d) (below_other k e.0 q past below)

    -- a boundary below the key is not above the last one
    last_above : (key boundary : List ℕ) (es : List (List ℕ × X)) → IsBelow key es → last (lower es) ≡ Some boundary → key_lt key boundary ≡ true
    last_above key boundary [] below is = absurd (none-some boundary is)
    last_above key boundary (e ∷ es) below is = by_first (key_lt e.0 k) (lower es) is (last_above key boundary es below.1)
      where
        by_first : (t : Bool) (more : List (List ℕ)) → last (cond t (e.0 ∷ more) more) ≡ Some boundary
            → (last more ≡ Some boundary → key_lt key boundary ≡ true) → key_lt key boundary ≡ true
        by_first true [] is rest = ap (key_lt key) (same_Some _ _ (sym is)) ∙ below.0
        by_first true (x ∷ more) is rest = rest is
        by_first false more is rest = rest is

    same_down_to : (d : X) (es : List (List ℕ × X)) (boundary q : List ℕ) → IsRising es → last (lower es) ≡ Some boundary
        → key_lt q boundary ≡ false → key_lt q k ≡ true → held_from d es q ≡ held_from d es boundary
    same_down_to d [] boundary q rising is from below = refl
    same_down_to d (e ∷ es) boundary q rising is from below =
        by_first (key_lt e.0 k) refl is (same_down_to e.1 es boundary q (rising_rest e.0 e.1 es rising))
      where
        past_both : key_lt boundary e.0 ≡ false → cond (key_le e.0 q) (held_from e.1 es q) d ≡ held_from e.1 es q
        past_both past = ap (λ t. cond (not t) (held_from e.1 es q) d) (le_le e.0 boundary q past from)

        later : (more : List (List ℕ)) → lower es ≡ more → last (e.0 ∷ more) ≡ Some boundary
            → (last (lower es) ≡ Some boundary → key_lt q boundary ≡ false → key_lt q k ≡ true → held_from e.1 es q ≡ held_from e.1 es boundary)
            → cond (key_le e.0 q) (held_from e.1 es q) d ≡ cond (key_le e.0 boundary) (held_from e.1 es boundary) d
        later [] none is rest =
            let same : e.0 ≡ boundary = same_Some _ _ is in
            let here : key_lt boundary e.0 ≡ false = ap (λ x. key_lt boundary x) same ∙ irreflexive boundary in
            past_both here
            ∙ held_below e.1 es q (ap last none) below
            ∙ sym (held_below e.1 es boundary (ap last none) (le_lt boundary q k from below))
            ∙ sym (ap (λ t. cond (not t) (held_from e.1 es boundary) d) here)
        later (x ∷ more) some is rest =
            let found : last (lower es) ≡ Some boundary = ap last some ∙ is in
            let above = last_above e.0 boundary es (rising_below e.0 e.1 es rising) found in
            let here = above_not_below e.0 boundary above in
            past_both here ∙ rest found from below ∙ sym (ap (λ t. cond (not t) (held_from e.1 es boundary) d) here)

        by_first : (t : Bool) → key_lt e.0 k ≡ t → last (cond t (e.0 ∷ lower es) (lower es)) ≡ Some boundary
            → (last (lower es) ≡ Some boundary → key_lt q boundary ≡ false → key_lt q k ≡ true → held_from e.1 es q ≡ held_from e.1 es boundary)
            → cond (key_le e.0 q) (held_from e.1 es q) d ≡ cond (key_le e.0 boundary) (held_from e.1 es boundary) d
        by_first true _ is rest = later (lower es) refl is rest
        by_first false past is rest =
            ap (λ t. cond (not t) (held_from e.1 es q) d) (below_other k e.0 q past below)
            ∙ sym (ap (λ t. cond (not t) (held_from e.1 es boundary) d) (below_other k e.0 boundary past (le_lt boundary q k from below)))

    -- nothing among them where there is nothing below
    none_among : (b : List ℕ) (es : List (List ℕ × X)) → is_among b es ≡ true → key_lt b k ≡ true → lower es ≡ [] → ⊥
    none_among b [] among below none = false≢true among
    none_among b (e ∷ es) among below none = by_first (key_lt e.0 k) refl (is_at (key_cmp b) e.0) refl none (none_among b es)
      where
        by_first : (t : Bool) → key_lt e.0 k ≡ t → (s : Bool) → is_at (key_cmp b) e.0 ≡ s → cond t (e.0 ∷ lower es) (lower es) ≡ []
            → (is_among b es ≡ true → key_lt b k ≡ true → lower es ≡ [] → ⊥) → ⊥
        by_first true _ s _ none rest = cons≢nil none
          where
            cons≢nil : e.0 ∷ lower es ≡ [] → ⊥
            cons≢nil h = cc
        by_first false past true same none rest =
            true≢false (sym below ∙ ap (λ x. key_lt x k) (tells_apart exact_bytes b e.0 same) ∙ past)
        by_first false past false other none rest = rest (is_among-first b e es other among) below none

    last_greatest : (es : List (List ℕ × X)) (b boundary : List ℕ) → IsRising es → last (lower es) ≡ Some boundary → is_among b es ≡ true
        → key_lt b k ≡ true → key_lt boundary b ≡ false
    last_greatest [] b boundary rising is among below = absurd (false≢true among)
    last_greatest (e ∷ es) b boundary rising is among below =
        by_first (key_lt e.0 k) refl (is_at (key_cmp b) e.0) refl is (last_greatest es b boundary (rising_rest e.0 e.1 es rising))
      where
        there : is_at (key_cmp b) e.0 ≡ true → (more : List (List ℕ)) → lower es ≡ more → last (e.0 ∷ more) ≡ Some boundary
            → key_lt boundary b ≡ false
        there same [] none is =
            let one : e.0 ≡ boundary = same_Some _ _ is in
            ap (key_lt boundary) (tells_apart exact_bytes b e.0 same ∙ one) ∙ irreflexive boundary
        there same (x ∷ more) some is =
            let above = last_above e.0 boundary es (rising_below e.0 e.1 es rising) (ap last some ∙ is) in
            ap (key_lt boundary) (tells_apart exact_bytes b e.0 same) ∙ above_not_below e.0 boundary above

        later : is_at (key_cmp b) e.0 ≡ false → (more : List (List ℕ)) → lower es ≡ more → last (e.0 ∷ more) ≡ Some boundary
            → (last (lower es) ≡ Some boundary → is_among b es ≡ true → key_lt b k ≡ true → key_lt boundary b ≡ false)
            → key_lt boundary b ≡ false
        later other [] none is rest = absurd (none_among b es (is_among-first b e es other among) below none)
        later other (x ∷ more) some is rest = rest (ap last some ∙ is) (is_among-first b e es other among) below

        by_first : (t : Bool) → key_lt e.0 k ≡ t → (s : Bool) → is_at (key_cmp b) e.0 ≡ s
            → last (cond t (e.0 ∷ lower es) (lower es)) ≡ Some boundary
            → (last (lower es) ≡ Some boundary → is_among b es ≡ true → key_lt b k ≡ true → key_lt boundary b ≡ false)
            → key_lt boundary b ≡ false
        by_first true _ true same is rest = there same (lower es) refl is
        by_first true _ false other is rest = later other (lower es) refl is rest
        by_first false past true same is rest =
            absurd (true≢false (sym below ∙ ap (λ x. key_lt x k) (tells_apart exact_bytes b e.0 same) ∙ past))
        by_first false past false other is rest = rest is (is_among-first b e es other among) below

  -- from the last boundary below a key up to the key all keys have the same
  pub held-down_to : (boundaries : Boundaries X) (k boundary q : List ℕ) → IsRising boundaries.entries
      → last (filter (λ boundary. key_lt boundary k) (boundaries_of boundaries)) ≡ Some boundary → key_le boundary q ≡ true → key_lt q k ≡ true
      → held boundaries q ≡ held boundaries boundary
  held-down_to boundaries k boundary q rising is from below =
      same_down_to k boundaries.base boundaries.entries boundary q rising is (not-true (key_lt q boundary) from) below

  -- where no boundary is below a key, the keys below it have what those below all boundaries have
  pub held-bottom : (boundaries : Boundaries X) (k q : List ℕ) → last (filter (λ boundary. key_lt boundary k) (boundaries_of boundaries)) ≡ None → key_lt q k ≡ true
      → held boundaries q ≡ boundaries.base
  held-bottom boundaries k q = held_below k boundaries.base boundaries.entries q

  -- no boundary lies between the last boundary below a key and the key
  pub prev-greatest : (boundaries : Boundaries X) (k boundary b : List ℕ) → IsRising boundaries.entries
      → last (filter (λ boundary. key_lt boundary k) (boundaries_of boundaries)) ≡ Some boundary → is_boundary b boundaries ≡ true → key_lt boundary b ≡ true
      → key_le k b ≡ true
  prev-greatest boundaries k boundary b rising is among above = by_key (key_lt b k) refl
    where
      by_key : (t : Bool) → key_lt b k ≡ t → not t ≡ true
      by_key true below = absurd (true≢false (sym above ∙ last_greatest k boundaries.entries b boundary rising is among below))
      by_key false _ = refl
