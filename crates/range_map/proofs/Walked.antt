-- What a walk along a row tells of a walk that goes on from where it ended.
use Rattle.std.proofs.Common.{◌≡◌, ℕ, zero, suc, ◌+◌, ◌≤◌, Bool, true, false, cond, not, List, [], ◌∷◌, length, drop, Some, is_some, refl, sym, ap, ◌∙◌, arith, true≢false}
use Rattle.std.specs.BTreeMap.{insert_entry, is_at}
use Rattle.std.specs.Cmp.Lexicographic.{nat_list_cmp_total}
use Rattle.std.specs.Map.{lookup, remove_entry}
use Rattle.std.specs.Ordering.{is_eq, is_lt, match_ordering, ordering_reverse}
use Rattle.std.specs.declared.cmp.Ordering.{Ordering}
use Rattle.std.specs.declared.cmp.Ordering.TheVariants.{Less, Equal, Greater}
use Rattle.key_bytes.specs.Keys.{key_cmp, key_le, key_lt}
use Rattle.key_bytes.proofs.Orders.{irreflexive, le_lt, lt_trans}
use Rattle.range_map.specs.Boundaries.{held_from, with_base, split_at}
use Rattle.range_map.specs.Halves.{count_while}
use Rattle.range_map.proofs.Bounded.{removed_inserted}
use Rattle.range_map.proofs.Held.{is_among}

module _ {X : Type 0} where
  -- how many boundaries are not above a key, and how many are below it
  abbrev up_to : List ℕ → List (List ℕ × X) → ℕ
  up_to k es = count_while (λ boundary. key_le boundary k) es

  abbrev before : List ℕ → List (List ℕ × X) → ℕ
  before k es = count_while (λ boundary. key_lt boundary k) es

  module _ (k : List ℕ) where
    -- boundaries that are below the key may be left out of the walk
    pub walk_on : (es : List (List ℕ × X)) (n : ℕ) → n ≤ before k es
        → (n ≤ length es) × (n + up_to k (drop n es) ≡ up_to k es) × (is_among k (drop n es) ≡ is_among k es)
    walk_on es zero some = (omega arith, omega arith, refl)
    walk_on [] (suc n) some = absurd (omega (arith, some))
    walk_on (e ∷ es) (suc n) some = by_order (key_cmp k e.0) refl some (walk_on es n)
      where
        lower : (o : Ordering) → key_cmp k e.0 ≡ o → key_lt e.0 k ≡ is_lt (ordering_reverse o)
        lower o is = ap is_lt (nat_list_cmp_total.antisymm e.0 k ∙ ap ordering_reverse is)

        by_order : (o : Ordering) → key_cmp k e.0 ≡ o → suc n ≤ cond (key_lt e.0 k) (suc (before k es)) 0
            → (n ≤ before k es
            → (n ≤ length es) × (n + up_to k (drop n es) ≡ up_to k es) × (is_among k (drop n es) ≡ is_among k es))
            → (suc n ≤ suc (length es)) × (suc n + up_to k (drop n es) ≡ cond (not (is_lt o)) (suc (up_to k es)) 0)
            × (is_among k (drop n es) ≡ is_some (cond (is_eq o) (Some e.1) (lookup (is_at (key_cmp k)) es)))
        by_order Less is some rest =
            let none = ap (λ t. cond t (suc (before k es)) 0) (lower Less is) in absurd (omega (arith, some, none))
        by_order Equal is some rest =
            let none = ap (λ t. cond t (suc (before k es)) 0) (lower Equal is) in absurd (omega (arith, some, none))
        by_order Greater is some rest =
            let one = ap (λ t. cond t (suc (before k es)) 0) (lower Greater is) in
            let later = rest (omega (arith, some, one)) in
            let inside = later.0 in let count = later.1 in
            (omega (arith, inside), omega (arith, count), later.2)

    -- a new boundary is one of those that are not above it
    pub counted_itself : (x : X) (es : List (List ℕ × X)) → is_among k es ≡ false
        → up_to k (insert_entry key_cmp es k x) ≡ up_to k es + 1
    counted_itself x [] new = ap (λ t. cond (not t) 1 0) (irreflexive k)
    counted_itself x (e ∷ es) new = by_order (key_cmp k e.0) refl new (counted_itself x es)
      where
        by_order : (o : Ordering) → key_cmp k e.0 ≡ o → is_some (cond (is_eq o) (Some e.1) (lookup (is_at (key_cmp k)) es)) ≡ false
            → (is_among k es ≡ false → up_to k (insert_entry key_cmp es k x) ≡ up_to k es + 1)
            → up_to k (match_ordering o ((k, x) ∷ e ∷ es) ((e.0, x) ∷ es) (e ∷ insert_entry key_cmp es k x))
            ≡ cond (not (is_lt o)) (suc (up_to k es)) 0 + 1
        by_order Less is new rest =
            let first = ap (λ t. cond (not t) (suc (up_to k (e ∷ es))) 0) (irreflexive k) in
            let none = ap (λ o. cond (not (is_lt o)) (suc (up_to k es)) 0) is in
            omega (arith, first, none)
        by_order Equal is new rest = absurd (true≢false new)
        by_order Greater is new rest =
            let first = ap (λ o. cond (not (is_lt o)) (suc (up_to k (insert_entry key_cmp es k x))) 0) is in
            let more = rest new in
            omega (arith, first, more)

  module _ (b k : List ℕ) (lower : key_lt b k ≡ true) where
    -- what is not above a key is below each key above that one
    pub up_to_before : (es : List (List ℕ × X)) → up_to b es ≤ before k es
    up_to_before [] = omega arith
    up_to_before (e ∷ es) = by_first (key_lt b e.0) refl (up_to_before es)
      where
        by_first : (t : Bool) → key_lt b e.0 ≡ t → up_to b es ≤ before k es
            → cond (not t) (suc (up_to b es)) 0 ≤ cond (key_lt e.0 k) (suc (before k es)) 0
        by_first true above rest = omega arith
        by_first false at rest =
            let one = ap (λ t. cond t (suc (before k es)) 0) (le_lt e.0 b k at lower) in omega (arith, one, rest)

    -- a new boundary above a key leaves how many are not above it
    pub counted_below : (x : X) (es : List (List ℕ × X)) → up_to b (insert_entry key_cmp es k x) ≡ up_to b es
    counted_below x [] = ap (λ t. cond (not t) 1 0) lower
    counted_below x (e ∷ es) = by_order (key_cmp k e.0) refl (counted_below x es)
      where
        by_order : (o : Ordering) → key_cmp k e.0 ≡ o → up_to b (insert_entry key_cmp es k x) ≡ up_to b es
            → up_to b (match_ordering o ((k, x) ∷ e ∷ es) ((e.0, x) ∷ es) (e ∷ insert_entry key_cmp es k x)) ≡ up_to b (e ∷ es)
        by_order Less is rest =
            ap (λ t. cond (not t) (suc (up_to b (e ∷ es))) 0) lower
            ∙ sym (ap (λ t. cond (not t) (suc (up_to b es)) 0) (lt_trans b k e.0 lower (ap is_lt is)))
        by_order Equal is rest = refl
        by_order Greater is rest = ap (λ n. cond (key_le e.0 b) (suc n) 0) rest

    -- and so does one that was a boundary already
    pub counted_split : (x : X) (old new : List (List ℕ × X)) → new ≡ cond (is_among k old) old (insert_entry key_cmp old k x)
        → up_to b old ≡ up_to b new
    counted_split x old new is =
        sym (ap (up_to b) is ∙ elim (is_among k old) as (λ t. up_to b (cond t old (insert_entry key_cmp old k x)) ≡ up_to b old) [
          | true ↦ refl
          | false ↦ counted_below x old
        ])

  -- ---- a key of a row is made a boundary

  module _ (spread : X → X) (base : X) (key : List ℕ) (old : List (List ℕ × X)) where
    abbrev split_row : List (List ℕ × X)
    split_row = cond (is_among key old) old (insert_entry key_cmp old key (spread (held_from base old key)))

    pub row_split : (new : List (List ℕ × X)) → new ≡ split_row → with_base base new ≡ split_at spread key (with_base base old)
    row_split new is =
        ap (with_base base) is ∙ elim (is_among key old)
        as (λ t. with_base base (cond t old (insert_entry key_cmp old key (spread (held_from base old key))))
        ≡ cond t (with_base base old) (with_base base (insert_entry key_cmp old key (spread (held_from base old key))))) [
          | true ↦ refl
          | false ↦ refl
        ]

    -- and is none again
    pub row_joined : (half new : List (List ℕ × X)) (is_new : Bool) → is_new ≡ not (is_among key old) → half ≡ split_row
        → new ≡ cond is_new (remove_entry (is_at (key_cmp key)) half) half → new ≡ old
    row_joined half new is_new was split is =
        is ∙ (λ i. cond (was i) (remove_entry (is_at (key_cmp key)) (split i)) (split i)) ∙ by_boundary (is_among key old) refl
      where
        by_boundary : (t : Bool) → is_among key old ≡ t
            → cond (not t) (remove_entry (is_at (key_cmp key)) (cond t old (insert_entry key_cmp old key (spread (held_from base old key)))))
            (cond t old (insert_entry key_cmp old key (spread (held_from base old key)))) ≡ old
        by_boundary true _ = refl
        by_boundary false new = removed_inserted key (spread (held_from base old key)) old new
