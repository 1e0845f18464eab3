-- Boundaries in a row, where one comes in, goes, or has something else: what is done at its place.
use Rattle.std.proofs.Common.{◌≡◌, ℕ, zero, suc, ◌<◌, ◌≤◌, Bool, true, false, cond, not, ◌&&◌, List, [], ◌∷◌, ◌++◌, length, get_or, take, drop, Some, is_some, refl, sym, ap, subst, ◌∙◌, arith, true≢false}
use Rattle.std.proofs.Math.ListN.{set}
use Rattle.std.proofs.lemmas.Bool.{false≢true}
use Rattle.std.proofs.lemmas.Map.Lookups.{exact_bytes}
use Rattle.std.proofs.lemmas.Map.Views.{tells_apart}
use Rattle.std.specs.BTreeMap.{insert_entry, is_at}
use Rattle.std.specs.Cmp.Lexicographic.{nat_list_cmp_total}
use Rattle.std.specs.List.{AllByRecursion, insert, remove}
use Rattle.std.specs.List.Sorted.{IsStrictlySortedBy}
use Rattle.std.specs.Map.{keys_of, lookup, remove_entry}
use Rattle.std.specs.Ordering.{is_eq, is_lt, match_ordering, ordering_reverse}
use Rattle.std.specs.declared.cmp.Ordering.{Ordering}
use Rattle.std.specs.declared.cmp.Ordering.TheVariants.{Less, Equal, Greater}
use Rattle.key_bytes.specs.Keys.{key_cmp, key_le, key_lt, within}
use Rattle.range_map.specs.Boundaries.{changed_entries}
use Rattle.range_map.specs.Halves.{count_while}
use Rattle.range_map.proofs.Bounded.{changed_none, none_at}
use Rattle.range_map.proofs.Held.{IsBelow, IsRising, is_among, rising_below, rising_rest, below_lower, not_above}

-- ---- boundaries that rise still do

pub less : (o : Ordering) → is_lt o ≡ true → o ≡ Less
less Less is = refl
less Equal is = absurd (false≢true is)
less Greater is = absurd (false≢true is)

module _ {X : Type 0} where
  all_above : (q : List ℕ) (es : List (List ℕ × X)) → IsBelow q es → AllByRecursion (λ y. key_cmp q y ≡ Less) (keys_of es)
  all_above q [] below = tt
  all_above q (e ∷ es) below = (less (key_cmp q e.0) below.0, all_above q es below.1)

  rising_cons : (q : List ℕ) (x : X) (es : List (List ℕ × X)) → IsBelow q es → IsRising es → IsRising ((q, x) ∷ es)
  unfolding IsStrictlySortedBy
  rising_cons q x es below rising = (all_above q es below, rising)

  pub rising_none : (es : List (List ℕ × X)) → es ≡ [] → IsRising es
  unfolding IsStrictlySortedBy
  rising_none es none = subst IsRising (sym none) tt

  pub rising_drop : (n : ℕ) (es : List (List ℕ × X)) → IsRising es → IsRising (drop n es)
  rising_drop zero es rising = rising
  rising_drop (suc n) [] rising = rising
  rising_drop (suc n) (e ∷ es) rising = rising_drop n es (rising_rest e.0 e.1 es rising)

  below_inserted : (q k : List ℕ) (x : X) (es : List (List ℕ × X)) → key_lt q k ≡ true → IsBelow q es
      → IsBelow q (insert_entry key_cmp es k x)
  below_inserted q k x [] lower below = (lower, tt)
  below_inserted q k x (e ∷ es) lower below = by_order (key_cmp k e.0) (below_inserted q k x es lower below.1)
    where
      by_order : (o : Ordering) → IsBelow q (insert_entry key_cmp es k x)
          → IsBelow q (match_ordering o ((k, x) ∷ e ∷ es) ((e.0, x) ∷ es) (e ∷ insert_entry key_cmp es k x))
      by_order Less rest = (lower, below)
      by_order Equal rest = below
      by_order Greater rest = (below.0, rest)

  pub rising_inserted : (k : List ℕ) (x : X) (es : List (List ℕ × X)) → IsRising es → IsRising (insert_entry key_cmp es k x)
  rising_inserted k x [] rising = rising_cons k x [] tt rising
  rising_inserted k x (e ∷ es) rising =
      by_order (key_cmp k e.0) refl (rising_inserted k x es (rising_rest e.0 e.1 es rising))
    where
      first : IsBelow e.0 es
      first = rising_below e.0 e.1 es rising

      by_order : (o : Ordering) → key_cmp k e.0 ≡ o → IsRising (insert_entry key_cmp es k x)
          → IsRising (match_ordering o ((k, x) ∷ e ∷ es) ((e.0, x) ∷ es) (e ∷ insert_entry key_cmp es k x))
      by_order Less is rest = rising_cons k x (e ∷ es) (ap is_lt is, below_lower k e.0 es (ap is_lt is) first) rising
      by_order Equal is rest = rising_cons e.0 x es first (rising_rest e.0 e.1 es rising)
      by_order Greater is rest =
          let lower : key_lt e.0 k ≡ true = ap is_lt (nat_list_cmp_total.antisymm e.0 k ∙ ap ordering_reverse is) in
          rising_cons e.0 e.1 (insert_entry key_cmp es k x) (below_inserted e.0 k x es lower first) rest

  below_removed : (q : List ℕ) (test : List ℕ → Bool) (es : List (List ℕ × X)) → IsBelow q es → IsBelow q (remove_entry test es)
  below_removed q test [] below = tt
  below_removed q test (e ∷ es) below = elim (test e.0) as (λ t. IsBelow q (cond t es (e ∷ remove_entry test es))) [
    | true ↦ below.1
    | false ↦ (below.0, below_removed q test es below.1)
  ]

  pub rising_removed : (test : List ℕ → Bool) (es : List (List ℕ × X)) → IsRising es → IsRising (remove_entry test es)
  rising_removed test [] rising = rising
  rising_removed test (e ∷ es) rising = elim (test e.0) as (λ t. IsRising (cond t es (e ∷ remove_entry test es))) [
    | true ↦ rising_rest e.0 e.1 es rising
    | false ↦ rising_cons e.0 e.1 (remove_entry test es) (below_removed e.0 test es (rising_below e.0 e.1 es rising))
        (rising_removed test es (rising_rest e.0 e.1 es rising))
  ]

  -- a change of what boundaries have leaves their keys
  pub keys_of-changed : (p : List ℕ → Bool) (f : X → X) (es : List (List ℕ × X)) → keys_of (changed_entries p f es) ≡ keys_of es
  keys_of-changed p f [] = refl
  keys_of-changed p f (e ∷ es) = ap (λ ks. e.0 ∷ ks) (keys_of-changed p f es)

  pub rising_changed : (p : List ℕ → Bool) (f : X → X) (es : List (List ℕ × X)) → IsRising es → IsRising (changed_entries p f es)
  rising_changed p f es rising = rw (keys_of-changed p f es) rising

  -- ---- at the place of a key

  module _ (k : List ℕ) where
    abbrev up_to : List (List ℕ × X) → ℕ
    up_to es = count_while (λ boundary. key_le boundary k) es

    -- a new boundary comes in behind those that aren't above it
    pub inserted : (x : X) (es : List (List ℕ × X)) → is_among k es ≡ false
        → insert es (up_to es) (k, x) ≡ insert_entry key_cmp es k x
    inserted x [] other = refl
    inserted x (e ∷ es) other = by_order (key_cmp k e.0) other (inserted x es)
      where
        by_order : (o : Ordering) → is_some (cond (is_eq o) (Some e.1) (lookup (is_at (key_cmp k)) es)) ≡ false
            → (is_among k es ≡ false → insert es (up_to es) (k, x) ≡ insert_entry key_cmp es k x)
            → insert (e ∷ es) (cond (not (is_lt o)) (suc (up_to es)) 0) (k, x)
            ≡ match_ordering o ((k, x) ∷ e ∷ es) ((e.0, x) ∷ es) (e ∷ insert_entry key_cmp es k x)
        by_order Less other rest = refl
        by_order Equal other rest = absurd (true≢false other)
        by_order Greater other rest = ap (λ es. e ∷ es) (rest other)

    above_none : (es : List (List ℕ × X)) → IsBelow k es → up_to es ≡ 0
    above_none [] below = refl
    above_none (e ∷ es) below = ap (λ t. cond (not t) (suc (up_to es)) 0) below.0

    among_counted : (es : List (List ℕ × X)) → IsRising es → is_among k es ≡ true → up_to es ≡ 0 → ⊥
    among_counted [] rising among none = false≢true among
    among_counted (e ∷ es) rising among none = by_order (key_cmp k e.0) refl among none
      where
        by_order : (o : Ordering) → key_cmp k e.0 ≡ o → is_some (cond (is_eq o) (Some e.1) (lookup (is_at (key_cmp k)) es)) ≡ true
            → cond (not (is_lt o)) (suc (up_to es)) 0 ≡ 0 → ⊥
        by_order Less is among none =
            let above = below_lower k e.0 es (ap is_lt is) (rising_below e.0 e.1 es rising) in
            true≢false (sym among ∙ ap is_some (none_at k es above k refl))
        by_order Equal is among none = absurd (omega (arith, none))
        by_order Greater is among none = absurd (omega (arith, none))

    pub boundary_counted : (es : List (List ℕ × X)) (n : ℕ) → IsRising es → is_among k es ≡ true → n ≡ up_to es → 1 ≤ n
    boundary_counted es n rising among is = by_count n is
      where
        by_count : (n : ℕ) → n ≡ up_to es → 1 ≤ n
        by_count zero none = absurd (among_counted es rising among (sym none))
        by_count (suc n) some = omega arith

    -- what holds of a boundary that is the first one, and of one behind the first where it holds of the rest, holds of each
    -- boundary
    module _ (P : List (List ℕ × X) → ℕ → Type 0)
        (here : (e : List ℕ × X) (es : List (List ℕ × X)) → is_at (key_cmp k) e.0 ≡ true → IsBelow k es → P (e ∷ es) 0)
        (later : (e : List ℕ × X) (es : List (List ℕ × X)) (n : ℕ) → is_at (key_cmp k) e.0 ≡ false → P es n → P (e ∷ es) (suc n)) where
      at_boundary : (es : List (List ℕ × X)) (n : ℕ) → IsRising es → is_among k es ≡ true → up_to es ≡ suc n → P es n
      at_boundary [] n rising among is = absurd (false≢true among)
      at_boundary (e ∷ es) n rising among is =
          by_order (key_cmp k e.0) refl among is (λ n. at_boundary es n (rising_rest e.0 e.1 es rising))
        where
          first : IsBelow e.0 es
          first = rising_below e.0 e.1 es rising

          by_rest : ((n : ℕ) → is_among k es ≡ true → up_to es ≡ suc n → P es n) → is_at (key_cmp k) e.0 ≡ false → is_among k es ≡ true
              → (n : ℕ) → up_to es ≡ n → P (e ∷ es) n
          by_rest rest other among zero none = absurd (among_counted es (rising_rest e.0 e.1 es rising) among none)
          by_rest rest other among (suc n) some = later e es n other (rest n among some)

          by_order : (o : Ordering) → key_cmp k e.0 ≡ o → is_some (cond (is_eq o) (Some e.1) (lookup (is_at (key_cmp k)) es)) ≡ true
              → cond (not (is_lt o)) (suc (up_to es)) 0 ≡ suc n
              → ((n : ℕ) → is_among k es ≡ true → up_to es ≡ suc n → P es n) → P (e ∷ es) n
          by_order Less order among is rest = absurd (omega (arith, is))
          by_order Equal order among is rest =
              let same : k ≡ e.0 = tells_apart exact_bytes k e.0 (ap is_eq order) in
              let above = subst (λ q. IsBelow q es) (sym same) first in
              let none = above_none es above in
              let zero_is : 0 ≡ n = omega (arith, is, none) in
              subst (λ n. P (e ∷ es) n) zero_is (here e es (ap is_eq order) above)
          by_order Greater order among is rest = by_rest rest (ap is_eq order) among n (omega (arith, is))

    -- a boundary goes
    pub removed : (es : List (List ℕ × X)) (n : ℕ) → IsRising es → is_among k es ≡ true → up_to es ≡ suc n
        → remove es n ≡ remove_entry (is_at (key_cmp k)) es
    removed = at_boundary (λ es n. remove es n ≡ remove_entry (is_at (key_cmp k)) es)
        (λ e es same above. sym (ap (λ t. cond t es (e ∷ remove_entry (is_at (key_cmp k)) es)) same))
        (λ e es n other rest. ap (λ es. e ∷ es) rest ∙ sym (ap (λ t. cond t es (e ∷ remove_entry (is_at (key_cmp k)) es)) other))

    pub removed_none : (es : List (List ℕ × X)) → is_among k es ≡ false → es ≡ remove_entry (is_at (key_cmp k)) es
    removed_none [] other = refl
    removed_none (e ∷ es) other = by_first (is_at (key_cmp k) e.0) other (removed_none es)
      where
        by_first : (t : Bool) → is_some (cond t (Some e.1) (lookup (is_at (key_cmp k)) es)) ≡ false
            → (is_among k es ≡ false → es ≡ remove_entry (is_at (key_cmp k)) es)
            → e ∷ es ≡ cond t es (e ∷ remove_entry (is_at (key_cmp k)) es)
        by_first true other rest = absurd (true≢false other)
        by_first false other rest = ap (λ es. e ∷ es) (rest other)

    -- a boundary has something else
    pub replaced : (x : X) (d : List ℕ × X) (es : List (List ℕ × X)) (n : ℕ) → IsRising es → is_among k es ≡ true → up_to es ≡ suc n
        → set es n ((get_or es n d).0, x) ≡ changed_entries (is_at (key_cmp k)) (λ _. x) es
    replaced x d = at_boundary (λ es n. set es n ((get_or es n d).0, x) ≡ changed_entries (is_at (key_cmp k)) (λ _. x) es)
        (λ e es same above. λ i. (e.0, cond (sym same i) x e.1) ∷ sym (changed_none k (λ _. x) es (none_at k es above k refl)) i)
        (λ e es n other rest. λ i. (e.0, cond (sym other i) x e.1) ∷ rest i)

  -- a new boundary stands where the search ended
  pub came_in : (new inside es : List (List ℕ × X)) (n : ℕ) (copy k : List ℕ) (level x : X) → new ≡ insert inside n (copy, level)
      → inside ≡ es → n ≡ count_while (λ boundary. key_le boundary k) es → copy ≡ k → level ≡ x → is_among k es ≡ false
      → new ≡ insert_entry key_cmp es k x
  came_in new inside es n copy k level x put same counted copied given other =
      put ∙ (λ i. insert (same i) (counted i) (copied i, given i)) ∙ inserted k x es other

  -- ---- the boundaries of a range change, one after the other

  module _ (begin end : List ℕ) (f : X → X) where
    abbrev lower : List ℕ → Bool
    lower boundary = key_lt boundary end

    all_from : (q : List ℕ) (es : List (List ℕ × X)) → IsBelow q es → key_lt q begin ≡ false
        → changed_entries lower f es ≡ changed_entries (within begin end) f es
    all_from q [] below from = refl
    all_from q (e ∷ es) below from =
        let later : key_lt e.0 begin ≡ false = not_above q e.0 begin below.0 from in
        λ i. (e.0, cond (not (sym later i) && key_lt e.0 end) (f e.1) e.1) ∷ all_from q es below.1 from i

    -- those from the first that isn't below the range on
    counted : (es : List (List ℕ × X)) → IsRising es
        → take (count_while (λ boundary. key_lt boundary begin) es) es
        ++ changed_entries lower f (drop (count_while (λ boundary. key_lt boundary begin) es) es)
        ≡ changed_entries (within begin end) f es
    counted [] rising = refl
    counted (e ∷ es) rising = by_first (key_lt e.0 begin) refl (counted es (rising_rest e.0 e.1 es rising))
      where
        by_first : (t : Bool) → key_lt e.0 begin ≡ t
            → take (count_while (λ boundary. key_lt boundary begin) es) es
            ++ changed_entries lower f (drop (count_while (λ boundary. key_lt boundary begin) es) es)
            ≡ changed_entries (within begin end) f es
            → take (cond t (suc (count_while (λ boundary. key_lt boundary begin) es)) 0) (e ∷ es)
            ++ changed_entries lower f (drop (cond t (suc (count_while (λ boundary. key_lt boundary begin) es)) 0) (e ∷ es))
            ≡ (e.0, cond (within begin end e.0) (f e.1) e.1) ∷ changed_entries (within begin end) f es
        by_first true is rest = λ i. (e.0, cond (not (sym is i) && key_lt e.0 end) (f e.1) e.1) ∷ rest i
        by_first false is rest =
            λ i. (e.0, cond (not (sym is i) && key_lt e.0 end) (f e.1) e.1)
            ∷ all_from e.0 es (rising_below e.0 e.1 es rising) is i

    pub changed_from : (es : List (List ℕ × X)) (n : ℕ) → IsRising es → n ≡ count_while (λ boundary. key_lt boundary begin) es
        → take n es ++ changed_entries lower f (drop n es) ≡ changed_entries (within begin end) f es
    changed_from es n rising is =
        ap (λ n. take n es ++ changed_entries lower f (drop n es)) is ∙ counted es rising

    -- the first of those that are left has changed
    pub changed_next : (es : List (List ℕ × X)) (n : ℕ) (d y : List ℕ × X) → n < length es → lower (get_or es n d).0 ≡ true
        → y ≡ ((get_or es n d).0, f (get_or es n d).1)
        → take (suc n) (set es n y) ++ changed_entries lower f (drop (suc n) (set es n y)) ≡ take n es ++ changed_entries lower f (drop n es)
    changed_next [] n d y inside below is = absurd (omega (arith, inside))
    changed_next (e ∷ es) zero d y inside below is =
        (λ i. is i ∷ changed_entries lower f es) ∙ (λ i. (e.0, cond (sym below i) (f e.1) e.1) ∷ changed_entries lower f es)
    changed_next (e ∷ es) (suc n) d y inside below is = ap (λ es. e ∷ es) (changed_next es n d y (omega (arith, inside)) below is)

    all_past : (q : List ℕ) (es : List (List ℕ × X)) → IsBelow q es → lower q ≡ false → es ≡ changed_entries lower f es
    all_past q [] below past = refl
    all_past q (e ∷ es) below past =
        let later : lower e.0 ≡ false = not_above q e.0 end below.0 past in
        λ i. (e.0, cond (sym later i) (f e.1) e.1) ∷ all_past q es below.1 past i

    -- none of those that are left is in the range
    pub changed_past : (es : List (List ℕ × X)) (n : ℕ) (d : List ℕ × X) → n < length es → IsRising es → lower (get_or es n d).0 ≡ false
        → es ≡ take n es ++ changed_entries lower f (drop n es)
    changed_past [] n d inside rising past = absurd (omega (arith, inside))
    changed_past (e ∷ es) zero d inside rising past =
        λ i. (e.0, cond (sym past i) (f e.1) e.1) ∷ all_past e.0 es (rising_below e.0 e.1 es rising) past i
    changed_past (e ∷ es) (suc n) d inside rising past =
        ap (λ es. e ∷ es) (changed_past es n d (omega (arith, inside)) (rising_rest e.0 e.1 es rising) past)

  keys_of-set : (es : List (List ℕ × X)) (n : ℕ) (d y : List ℕ × X) → n < length es → y.0 ≡ (get_or es n d).0
      → keys_of (set es n y) ≡ keys_of es
  keys_of-set [] n d y inside same = absurd (omega (arith, inside))
  keys_of-set (e ∷ es) zero d y inside same = λ i. same i ∷ keys_of es
  keys_of-set (e ∷ es) (suc n) d y inside same = ap (λ ks. e.0 ∷ ks) (keys_of-set es n d y (omega (arith, inside)) same)

  pub rising_set : (es : List (List ℕ × X)) (n : ℕ) (d y : List ℕ × X) → n < length es → y.0 ≡ (get_or es n d).0 → IsRising es
      → IsRising (set es n y)
  rising_set es n d y inside same rising = rw (keys_of-set es n d y inside same) rising
