-- What the places of boundaries in a row tell.
use Rattle.std.proofs.Common.{◌≡◌, ℕ, zero, suc, ◌+◌, ◌-◌, ◌<◌, ◌≤◌, Bool, true, false, cond, not, bytes_eq, List, [], ◌∷◌, length, get_or, take, drop, Some, None, is_some, refl, sym, ap, subst, ◌∙◌, arith, true≢false}
use Rattle.std.proofs.lemmas.Bool.{false≢true}
use Rattle.std.proofs.lemmas.List.{drop_more, take_rest}
use Rattle.std.proofs.lemmas.Map.Lookups.{exact_bytes}
use Rattle.std.proofs.lemmas.Map.Text.{is_eq-slice_cmp}
use Rattle.std.proofs.lemmas.Map.Views.{tells_apart}
use Rattle.std.specs.Cmp.{eq_by_cmp_equiv}
use Rattle.std.specs.BTreeMap.{is_at}
use Rattle.std.specs.Cmp.Lexicographic.{nat_list_cmp_total}
use Rattle.std.specs.List.{filter}
use Rattle.std.specs.Map.{keys_of, lookup}
use Rattle.std.specs.Ordering.{is_eq, is_lt, is_gt, ordering_reverse}
use Rattle.std.specs.declared.cmp.Ordering.{Ordering}
use Rattle.std.specs.declared.cmp.Ordering.TheVariants.{Less, Equal, Greater}
use Rattle.key_bytes.specs.Keys.{key_cmp, key_le, key_lt}
use Rattle.key_bytes.proofs.Orders.{lt_trans}
use Rattle.range_map.specs.Boundaries.{held_from}
use Rattle.range_map.specs.Halves.{count_while}
use Rattle.key_map.specs.Ends.{first, last}
use Rattle.range_map.proofs.Bounded.{none_at}
use Rattle.range_map.proofs.Spans.{keys_of-filter}
use Rattle.range_map.proofs.Held.{IsBelow, IsRising, is_among, rising_below, rising_rest, below_lower}

not-not : (b : Bool) → not (not b) ≡ b
not-not true = refl
not-not false = refl

-- a test that is passed below each key that passes it
abbrev pub IsFalling : (List ℕ → Bool) → Type 0
IsFalling p = (a b : List ℕ) → key_lt a b ≡ true → p b ≡ true → p a ≡ true

pub falling_lt : (k : List ℕ) → IsFalling (λ boundary. key_lt boundary k)
falling_lt k a b lower passes = lt_trans a b k lower passes

pub falling_le : (k : List ℕ) → IsFalling (λ boundary. key_le boundary k)
falling_le k a b lower passes = elim (key_lt k a) as (λ t. key_lt k a ≡ t → not t ≡ true) [
  | true ↦ λ above. absurd (true≢false (sym passes ∙ ap not (lt_trans k a b above lower)))
  | false ↦ λ _. refl
] refl

fails_past : (p : List ℕ → Bool) → IsFalling p → (q r : List ℕ) → key_lt q r ≡ true → p q ≡ false → p r ≡ false
fails_past p falls q r lower fails = elim (p r) as (λ t. p r ≡ t → t ≡ false) [
  | true ↦ λ passes. absurd (true≢false (sym (falls q r lower passes) ∙ fails))
  | false ↦ λ _. refl
] refl

module _ {X : Type 0} where
  module _ (p : List ℕ → Bool) where
    -- one step of a search
    pub counted : (es : List (List ℕ × X)) (at : ℕ) (d : List ℕ × X) → at < length es → p (get_or es at d).0 ≡ true
        → count_while p (drop at es) ≡ count_while p (drop (at + 1) es) + 1
    counted es at d inside passes =
        ap (count_while p) (drop_more es at d inside)
        ∙ ap (λ t. cond t (suc (count_while p (drop (at + 1) es))) 0) passes
        ∙ (omega arith)

    pub count_inside : (es : List (List ℕ × X)) → count_while p es ≤ length es
    count_inside [] = omega arith
    count_inside (e ∷ es) = elim (p e.0) as (λ t. cond t (suc (count_while p es)) 0 ≤ suc (length es)) [
      | true ↦ omega (arith, count_inside es)
      | false ↦ omega arith
    ]

    module _ (falls : IsFalling p) where
      none_pass : (q : List ℕ) (es : List (List ℕ × X)) → IsBelow q es → p q ≡ false → filter (λ e. p e.0) es ≡ []
      none_pass q [] below fails = refl
      none_pass q (e ∷ es) below fails =
          ap (λ t. cond t (e ∷ filter (λ e. p e.0) es) (filter (λ e. p e.0) es)) (fails_past p falls q e.0 below.0 fails)
          ∙ none_pass q es below.1 fails

      all_fail : (q : List ℕ) (es : List (List ℕ × X)) → IsBelow q es → p q ≡ false → filter (λ e. not (p e.0)) es ≡ es
      all_fail q [] below fails = refl
      all_fail q (e ∷ es) below fails =
          ap (λ t. cond (not t) (e ∷ filter (λ e. not (p e.0)) es) (filter (λ e. not (p e.0)) es)) (fails_past p falls q e.0 below.0 fails)
          ∙ ap (λ rest. e ∷ rest) (all_fail q es below.1 fails)

      -- those that pass stand before the others
      pub take_count : (es : List (List ℕ × X)) → IsRising es → take (count_while p es) es ≡ filter (λ e. p e.0) es
      take_count [] rising = refl
      take_count (e ∷ es) rising = by_first (p e.0) refl (take_count es (rising_rest e.0 e.1 es rising))
        where
          by_first : (t : Bool) → p e.0 ≡ t → take (count_while p es) es ≡ filter (λ e. p e.0) es
              → take (cond t (suc (count_while p es)) 0) (e ∷ es) ≡ cond t (e ∷ filter (λ e. p e.0) es) (filter (λ e. p e.0) es)
          by_first true _ rest = ap (λ rest. e ∷ rest) rest
          by_first false fails _ = sym (none_pass e.0 es (rising_below e.0 e.1 es rising) fails)

      pub drop_count : (es : List (List ℕ × X)) → IsRising es → drop (count_while p es) es ≡ filter (λ e. not (p e.0)) es
      drop_count [] rising = refl
      drop_count (e ∷ es) rising = by_first (p e.0) refl (drop_count es (rising_rest e.0 e.1 es rising))
        where
          by_first : (t : Bool) → p e.0 ≡ t → drop (count_while p es) es ≡ filter (λ e. not (p e.0)) es
              → drop (cond t (suc (count_while p es)) 0) (e ∷ es)
              ≡ cond (not t) (e ∷ filter (λ e. not (p e.0)) es) (filter (λ e. not (p e.0)) es)
          by_first true _ rest = rest
          by_first false fails _ = ap (λ rest. e ∷ rest) (sym (all_fail e.0 es (rising_below e.0 e.1 es rising) fails))

  last_taken : (es : List (List ℕ × X)) (n : ℕ) (d : List ℕ × X) → n < length es → last (keys_of (take (suc n) es)) ≡ Some (get_or es n d).0
  last_taken [] n d inside = absurd (omega (arith, inside))
  last_taken (e ∷ es) zero d inside = refl
  last_taken (e ∷ []) (suc n) d inside = absurd (omega (arith, inside))
  last_taken (e ∷ f ∷ es) (suc n) d inside = last_taken (f ∷ es) n d (omega (arith, inside))

  -- ---- the parts of a row before a place and from it on

  module _ (k : List ℕ) (es : List (List ℕ × X)) (rising : IsRising es) (n : ℕ) where
    pub part_from : n ≡ count_while (λ boundary. key_lt boundary k) es → take (length es - n) (drop n es) ≡ filter (λ e. key_le k e.0) es
    part_from is = take_rest es n ∙ ap (λ n. drop n es) is ∙ drop_count (λ boundary. key_lt boundary k) (falling_lt k) es rising

    pub part_below : n ≡ count_while (λ boundary. key_lt boundary k) es → take n es ≡ filter (λ e. key_lt e.0 k) es
    part_below is = ap (λ n. take n es) is ∙ take_count (λ boundary. key_lt boundary k) (falling_lt k) es rising

    pub drop_up_to : n ≡ count_while (λ boundary. key_le boundary k) es → drop n es ≡ filter (λ e. key_lt k e.0) es
    drop_up_to is =
        ap (λ n. drop n es) is
        ∙ drop_count (λ boundary. key_le boundary k) (falling_le k) es rising
        ∙ (λ i. filter (λ e. not-not (key_lt k e.0) i) es)

    pub part_above : n ≡ count_while (λ boundary. key_le boundary k) es → take (length es - n) (drop n es) ≡ filter (λ e. key_lt k e.0) es
    part_above is = take_rest es n ∙ drop_up_to is

    -- the first boundary above a key, and the last one below it
    pub first_past : n ≡ count_while (λ boundary. key_le boundary k) es → first (keys_of (drop n es)) ≡ first (filter (key_lt k) (keys_of es))
    first_past is = ap (λ es. first (keys_of es)) (drop_up_to is) ∙ ap first (keys_of-filter (key_lt k) es)

    last_before : n ≡ count_while (λ boundary. key_lt boundary k) es → last (keys_of (take n es)) ≡ last (filter (λ boundary. key_lt boundary k) (keys_of es))
    last_before is = ap (λ es. last (keys_of es)) (part_below is) ∙ ap last (keys_of-filter (λ boundary. key_lt boundary k) es)

    pub none_before : n ≡ count_while (λ boundary. key_lt boundary k) es → n ≡ 0 → None ≡ last (filter (λ boundary. key_lt boundary k) (keys_of es))
    none_before is none = sym (ap (λ n. last (keys_of (take n es))) none) ∙ last_before is

    pub some_before : (d : List ℕ × X) → n ≡ count_while (λ boundary. key_lt boundary k) es → (n ≡ 0 → ⊥) → n ≤ length es
        → Some (get_or es (n - 1) d).0 ≡ last (filter (λ boundary. key_lt boundary k) (keys_of es))
    some_before d is some inside =
        let before : suc (n - 1) ≡ n = omega (arith, some) in
        sym (last_taken es (n - 1) d (omega (arith, some, inside)))
        ∙ ap (λ n. last (keys_of (take n es))) before
        ∙ last_before is

  -- ---- what a key has

  module _ (k : List ℕ) where
    abbrev up_to : List (List ℕ × X) → ℕ
    up_to es = count_while (λ boundary. key_le boundary k) es

    pub held_none : (d : X) (es : List (List ℕ × X)) → up_to es ≡ 0 → held_from d es k ≡ d
    held_none d [] none = refl
    held_none d (e ∷ es) none = by_first (key_le e.0 k) none
      where
        by_first : (t : Bool) → cond t (suc (up_to es)) 0 ≡ 0 → cond t (held_from e.1 es k) d ≡ d
        by_first true some = absurd (omega (arith, some))
        by_first false _ = refl

    pub held_last : (d : X) (es : List (List ℕ × X)) (n : ℕ) (e : List ℕ × X) → up_to es ≡ suc n → held_from d es k ≡ (get_or es n e).1
    held_last d [] n x some = absurd (omega (arith, some))
    held_last d (e ∷ es) n x some = by_first (key_le e.0 k) some (λ m more. held_last e.1 es m x more)
      where
        by_rest : ((m : ℕ) → up_to es ≡ suc m → held_from e.1 es k ≡ (get_or es m x).1)
            → (n : ℕ) → up_to es ≡ n → held_from e.1 es k ≡ (get_or (e ∷ es) n x).1
        by_rest later zero none = held_none e.1 es none
        by_rest later (suc m) more = later m more

        by_first : (t : Bool) → cond t (suc (up_to es)) 0 ≡ suc n
            → ((m : ℕ) → up_to es ≡ suc m → held_from e.1 es k ≡ (get_or es m x).1)
            → cond t (held_from e.1 es k) d ≡ (get_or (e ∷ es) n x).1
        by_first true some later = by_rest later n (omega (arith, some))
        by_first false none later = absurd (omega (arith, none))

    -- ---- a search that stops at the first boundary that isn't below the key

    above_none : (es : List (List ℕ × X)) → IsBelow k es → up_to es ≡ 0
    above_none [] below = refl
    above_none (e ∷ es) below = ap (λ t. cond (not t) (suc (up_to es)) 0) below.0

    module _ (es rest : List (List ℕ × X)) (e : List ℕ × X) (begins : es ≡ e ∷ rest) (rising : IsRising es) where
      up_to_first : (o : Ordering) → key_cmp k e.0 ≡ o → up_to es ≡ cond (not (is_lt o)) (suc (up_to rest)) 0
      up_to_first o is = ap up_to begins ∙ ap (λ o. cond (not (is_lt o)) (suc (up_to rest)) 0) is

      among_first : (o : Ordering) → key_cmp k e.0 ≡ o → is_among k es ≡ is_some (cond (is_eq o) (Some e.1) (lookup (is_at (key_cmp k)) rest))
      among_first o is = ap (is_among k) begins ∙ ap (λ o. is_some (cond (is_eq o) (Some e.1) (lookup (is_at (key_cmp k)) rest))) is

      first_below : IsBelow e.0 rest
      first_below = rising_below e.0 e.1 rest (subst IsRising begins rising)

      reversed : (o : Ordering) → key_cmp e.0 k ≡ o → key_cmp k e.0 ≡ ordering_reverse o
      reversed o is = nat_list_cmp_total.antisymm k e.0 ∙ ap ordering_reverse is

      pub spot_here : (o : Ordering) → key_cmp e.0 k ≡ o → is_eq o ≡ true → (up_to es ≡ 1) × (is_among k es ≡ true)
      spot_here Less is stops = absurd (false≢true stops)
      spot_here Greater is stops = absurd (false≢true stops)
      spot_here Equal is stops =
          let same : k ≡ e.0 = tells_apart exact_bytes k e.0 (ap is_eq (reversed Equal is)) in
          let none = above_none rest (subst (λ q. IsBelow q rest) (sym same) first_below) in
          (up_to_first Equal (reversed Equal is) ∙ ap suc none, among_first Equal (reversed Equal is))

      pub spot_past : (o : Ordering) → key_cmp e.0 k ≡ o → is_gt o ≡ true → (up_to es ≡ 0) × (is_among k es ≡ false)
      spot_past Less is stops = absurd (false≢true stops)
      spot_past Equal is stops = absurd (false≢true stops)
      spot_past Greater is stops =
          let before = below_lower k e.0 rest (ap is_lt (reversed Greater is)) first_below in (
            up_to_first Less (reversed Greater is),
            among_first Less (reversed Greater is) ∙ ap is_some (none_at k rest before k refl),
          )

      pub spot_before : (o : Ordering) → key_cmp e.0 k ≡ o → is_eq o ≡ false → is_gt o ≡ false
          → (up_to es ≡ suc (up_to rest)) × (is_among k es ≡ is_among k rest)
      spot_before Equal is other goes = absurd (true≢false other)
      spot_before Greater is other goes = absurd (true≢false goes)
      spot_before Less is other goes = (up_to_first Greater (reversed Less is), among_first Greater (reversed Less is))

-- a key compares as equal to a boundary that has the same text
pub same_text : (key boundary : List ℕ) → is_at (key_cmp key) boundary ≡ bytes_eq boundary key
same_text key boundary = (eq_by_cmp_equiv nat_list_cmp_total).symm key boundary ∙ is_eq-slice_cmp boundary key

-- what stands at a place is the first of what is left from there on
pub left_from : {X : Type 0} (items all : List X) (at : ℕ) (e : X) → items ≡ all → at < length items → e ≡ get_or items at e
    → drop at all ≡ e ∷ drop (at + 1) all
left_from items all at e same inside here =
    ap (drop at) (sym same) ∙ drop_more items at e inside ∙ (λ i. sym here i ∷ drop (at + 1) (same i))
