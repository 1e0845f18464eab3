-- What keys have under boundaries, where a boundary comes in, goes, or has something else.
use Rattle.std.proofs.Common.{◌≡◌, ℕ, ◌⊎◌, inl, inr, Bool, true, false, cond, not, ◌&&◌, List, [], ◌∷◌, Some, is_some, refl, sym, ap, subst, ◌∙◌, true≢false}
use Rattle.std.proofs.lemmas.Bool.{false≢true}
use Rattle.std.proofs.lemmas.Option.{same_Some, none-some}
use Rattle.std.proofs.lemmas.Map.Keys.{sorted_head, sorted_tail}
use Rattle.std.proofs.lemmas.Map.Lookups.{exact_bytes}
use Rattle.std.proofs.lemmas.Map.Views.{tells_apart}
use Rattle.std.specs.BTreeMap.{insert_entry, is_at}
use Rattle.std.specs.Cmp.Lexicographic.{nat_list_cmp_total}
use Rattle.std.specs.List.{AllByRecursion}
use Rattle.std.specs.List.Sorted.{IsStrictlySortedBy}
use Rattle.std.specs.Map.{keys_of, lookup}
use Rattle.std.specs.Ordering.{is_eq, is_lt, match_ordering, ordering_reverse}
use Rattle.std.specs.declared.cmp.Ordering.{Ordering}
use Rattle.std.specs.declared.cmp.Ordering.TheVariants.{Less, Equal, Greater}
use Rattle.key_bytes.specs.Keys.{key_cmp, key_le, key_lt, within}
use Rattle.key_bytes.proofs.Orders.{irreflexive, above_not_below, le_lt, lt_trans}
use Rattle.range_map.specs.Boundaries.{Boundaries, held_from, held, is_boundary, with_boundary, changed_entries, changed}

-- boundaries whose keys rise
abbrev pub IsRising : {X : Type 0} → List (List ℕ × X) → Type 0
IsRising es = IsStrictlySortedBy key_cmp (keys_of es)

-- a key is one of these boundaries
abbrev pub is_among : {X : Type 0} → List ℕ → List (List ℕ × X) → Bool
is_among key es = is_some (lookup (is_at (key_cmp key)) es)

-- a key is below each of these boundaries
abbrev pub IsBelow : {X : Type 0} → List ℕ → List (List ℕ × X) → Type 0
IsBelow key [] = Unit {0}
IsBelow key (e ∷ es) = (key_lt key e.0 ≡ true) × IsBelow key es

module _ {X : Type 0} where
  pub below_lower : (k q : List ℕ) (es : List (List ℕ × X)) → key_lt k q ≡ true → IsBelow q es → IsBelow k es
  below_lower k q [] lower below = tt
  below_lower k q (e ∷ es) lower below = (lt_trans k q e.0 lower below.0, below_lower k q es lower below.1)

  below_from_all : (q : List ℕ) (es : List (List ℕ × X)) → AllByRecursion (λ y. key_cmp q y ≡ Less) (keys_of es) → IsBelow q es
  below_from_all q [] all = tt
  below_from_all q (e ∷ es) all = (ap is_lt all.0, below_from_all q es all.1)

  -- the first of boundaries that rise is below the others
  pub rising_below : (q : List ℕ) (x : X) (es : List (List ℕ × X)) → IsRising ((q, x) ∷ es) → IsBelow q es
  rising_below q x es rising = below_from_all q es (sorted_head key_cmp q (keys_of es) rising)

  pub rising_rest : (q : List ℕ) (x : X) (es : List (List ℕ × X)) → IsRising ((q, x) ∷ es) → IsRising es
  rising_rest q x es rising = sorted_tail key_cmp q (keys_of es) rising

  -- a boundary is above what is below all boundaries
  pub among_above : (b k : List ℕ) (es : List (List ℕ × X)) → IsBelow k es → is_among b es ≡ true → key_lt k b ≡ true
  among_above b k [] below among = absurd (false≢true among)
  among_above b k (e ∷ es) below among = by_first (is_at (key_cmp b) e.0) refl (among_above b k es below.1)
    where
      by_first : (t : Bool) → is_at (key_cmp b) e.0 ≡ t → (is_among b es ≡ true → key_lt k b ≡ true) → key_lt k b ≡ true
      by_first true same rest = ap (key_lt k) (tells_apart exact_bytes b e.0 same) ∙ below.0
      by_first false other rest = rest (sym (ap (λ t. is_some (cond t (Some e.1) (lookup (is_at (key_cmp b)) es))) other) ∙ among)

-- ---- a change of each boundary of a range

-- b is not above q, or it is one of these boundaries
abbrev IsAtOrAmong : {X : Type 0} → List ℕ → List ℕ → List (List ℕ × X) → Type 0
IsAtOrAmong b q es = (key_lt q b ≡ false) ⊎ (is_among b es ≡ true)

pub not_above : (q r b : List ℕ) → key_lt q r ≡ true → key_lt q b ≡ false → key_lt r b ≡ false
not_above q r b lower at = elim (key_lt r b) as (λ t. key_lt r b ≡ t → t ≡ false) [
  | true ↦ λ above. absurd (true≢false (sym (lt_trans q r b lower above) ∙ at))
  | false ↦ λ _. refl
] refl

within_side : (b e q k : List ℕ) → key_lt q b ≡ key_lt k b → key_lt q e ≡ key_lt k e → within b e q ≡ within b e k
within_side b e q k at_b at_e = λ i. not (at_b i) && at_e i

at_end : (X : Type 0) (b q : List ℕ) → IsAtOrAmong {X = X} b q [] → key_lt q b ≡ false
at_end X b q (inl at) = at
at_end X b q (inr among) = absurd (false≢true among)

module _ {X : Type 0} where
  at_or_among_first : (b r : List ℕ) (y : X) (es : List (List ℕ × X)) → is_among b ((r, y) ∷ es) ≡ true → IsAtOrAmong b r es
  at_or_among_first b r y es among = by_first (is_at (key_cmp b) r) refl
    where
      by_first : (t : Bool) → is_at (key_cmp b) r ≡ t → IsAtOrAmong b r es
      by_first true same = inl (ap (key_lt r) (tells_apart exact_bytes b r same) ∙ irreflexive r)
      by_first false other = inr (sym (ap (λ t. is_some (cond t (Some y) (lookup (is_at (key_cmp b)) es))) other) ∙ among)

  at_or_among_next : (b q r : List ℕ) (y : X) (es : List (List ℕ × X)) → key_lt q r ≡ true → IsAtOrAmong b q ((r, y) ∷ es)
      → IsAtOrAmong b r es
  at_or_among_next b q r y es lower (inl at) = inl (not_above q r b lower at)
  at_or_among_next b q r y es lower (inr among) = at_or_among_first b r y es among

  -- between two boundaries all keys are on the same side of a third
  same_side : (b q k : List ℕ) (es : List (List ℕ × X)) → key_lt k q ≡ false → IsBelow k es → IsAtOrAmong b q es
      → key_lt q b ≡ key_lt k b
  same_side b q k es from below (inl at) = at ∙ sym (elim (key_lt k b) as (λ t. key_lt k b ≡ t → t ≡ false) [
    | true ↦ λ above. absurd (true≢false (sym (le_lt q k b from above) ∙ at))
    | false ↦ λ _. refl
  ] refl)
  same_side b q k es from below (inr among) =
      let above = among_above b k es below among in le_lt q k b from above ∙ sym above

module _ {X : Type 0} (b e : List ℕ) (f : X → X) where
  abbrev made : List ℕ → X → X
  made q x = cond (within b e q) (f x) x

  held-changed_from : (q : List ℕ) (x : X) (es : List (List ℕ × X)) (k : List ℕ) → IsRising ((q, x) ∷ es) → key_lt k q ≡ false
      → IsAtOrAmong b q es → IsAtOrAmong e q es
      → held_from (made q x) (changed_entries (within b e) f es) k ≡ made k (held_from x es k)
  held-changed_from q x [] k rising from at_b at_e =
      ap (λ t. cond t (f x) x) (within_side b e q k (same_side {X = X} b q k [] from tt at_b) (same_side {X = X} e q k [] from tt at_e))
  held-changed_from q x ((r, y) ∷ es) k rising from at_b at_e =
      by_next (key_lt k r) refl (λ past. held-changed_from r y es k rest past
      (at_or_among_next b q r y es lower at_b) (at_or_among_next e q r y es lower at_e))
    where
      rest : IsRising ((r, y) ∷ es)
      rest = rising_rest q x ((r, y) ∷ es) rising

      lower : key_lt q r ≡ true
      lower = (rising_below q x ((r, y) ∷ es) rising).0

      by_next : (t : Bool) → key_lt k r ≡ t
          → (key_lt k r ≡ false → held_from (made r y) (changed_entries (within b e) f es) k ≡ made k (held_from y es k))
          → cond (not t) (held_from (made r y) (changed_entries (within b e) f es) k) (made q x)
          ≡ made k (cond (not t) (held_from y es k) x)
      by_next true below later =
          let over : IsBelow k ((r, y) ∷ es) = (below, below_lower k r es below (rising_below r y es rest)) in
          ap (λ t. cond t (f x) x)
          (within_side b e q k (same_side b q k ((r, y) ∷ es) from over at_b) (same_side e q k ((r, y) ∷ es) from over at_e))
      by_next false past later = later past

  held-changed_entries : (d : X) (es : List (List ℕ × X)) (k : List ℕ) → IsRising es → is_among b es ≡ true → is_among e es ≡ true
      → held_from d (changed_entries (within b e) f es) k ≡ made k (held_from d es k)
  held-changed_entries d [] k rising is_b is_e = absurd (false≢true is_b)
  held-changed_entries d ((q, x) ∷ es) k rising is_b is_e = by_first (key_lt k q) refl
    where
      by_first : (t : Bool) → key_lt k q ≡ t
          → cond (not t) (held_from (made q x) (changed_entries (within b e) f es) k) d ≡ made k (cond (not t) (held_from x es k) d)
      by_first true below =
          let over : IsBelow k ((q, x) ∷ es) = (below, below_lower k q es below (rising_below q x es rising)) in
          ap (λ t. cond (not t && key_lt k e) (f d) d) (sym (among_above b k ((q, x) ∷ es) over is_b))
      by_first false past =
          held-changed_from q x es k rising past (at_or_among_first b q x es is_b) (at_or_among_first e q x es is_e)

  -- a change of each boundary of a range, both of whose ends are boundaries, changes what the keys of the range have and no other
  pub held-changed : (boundaries : Boundaries X) (k : List ℕ) → IsRising boundaries.entries → is_boundary b boundaries ≡ true → is_boundary e boundaries ≡ true
      → held (changed (within b e) f boundaries) k ≡ cond (within b e k) (f (held boundaries k)) (held boundaries k)
  held-changed boundaries k = held-changed_entries boundaries.base boundaries.entries k

-- ---- a boundary more

below_first : (key q : List ℕ) → key_cmp key q ≡ Greater → key_lt q key ≡ true
below_first key q is = ap is_lt (nat_list_cmp_total.antisymm q key ∙ ap ordering_reverse is)

module _ {X : Type 0} where
  -- a new boundary with what its key had changes what no key has
  held-inserted : (key : List ℕ) (x d : X) (es : List (List ℕ × X)) (k : List ℕ) → is_among key es ≡ false → x ≡ held_from d es key
      → held_from d (insert_entry key_cmp es key x) k ≡ held_from d es k
  held-inserted key x d [] k new is = elim (key_le key k) as (λ t. cond t x d ≡ d) [ true ↦ is | false ↦ refl ]
  held-inserted key x d ((q, y) ∷ es) k new is = by_order (key_cmp key q) refl (held-inserted key x y es k)
    where
      by_order : (o : Ordering) → key_cmp key q ≡ o
          → (is_among key es ≡ false → x ≡ held_from y es key → held_from y (insert_entry key_cmp es key x) k ≡ held_from y es k)
          → held_from d (match_ordering o ((key, x) ∷ (q, y) ∷ es) ((q, x) ∷ es) ((q, y) ∷ insert_entry key_cmp es key x)) k
          ≡ held_from d ((q, y) ∷ es) k
      by_order Less lower rest = by_key (key_lt k key) refl
        where
          outside : x ≡ d
          outside = is ∙ ap (λ t. cond (not t) (held_from y es key) d) (ap is_lt lower)

          by_key : (t : Bool) → key_lt k key ≡ t
              → cond (not t) (held_from x ((q, y) ∷ es) k) d ≡ held_from d ((q, y) ∷ es) k
          by_key true below = sym (ap (λ t. cond (not t) (held_from y es k) d) (lt_trans k key q below (ap is_lt lower)))
          by_key false _ = ap (λ x. cond (key_le q k) (held_from y es k) x) outside
      by_order Equal same rest =
          absurd (true≢false (sym (ap (λ o. is_some (cond (is_eq o) (Some y) (lookup (is_at (key_cmp key)) es))) same) ∙ new))
      by_order Greater higher rest =
          let lower = below_first key q higher in
          ap (λ x. cond (key_le q k) x d)
          (rest
          (sym (ap (λ o. is_some (cond (is_eq o) (Some y) (lookup (is_at (key_cmp key)) es))) higher) ∙ new)
          (is ∙ ap (λ t. cond (not t) (held_from y es key) d) (above_not_below q key lower)))

  -- a boundary more, with what its key had, changes what no key has
  pub held-with_boundary : (key : List ℕ) (x : X) (boundaries : Boundaries X) (k : List ℕ) → (is_boundary key boundaries ≡ false → x ≡ held boundaries key)
      → held (with_boundary key x boundaries) k ≡ held boundaries k
  held-with_boundary key x boundaries k is = by_boundary (is_boundary key boundaries) refl
    where
      by_boundary : (t : Bool) → is_boundary key boundaries ≡ t
          → held (cond t boundaries (record boundaries { entries = insert_entry key_cmp boundaries.entries key x })) k ≡ held boundaries k
      by_boundary true _ = refl
      by_boundary false new = held-inserted key x boundaries.base boundaries.entries k new (is new)

-- ---- a boundary itself

module _ {X : Type 0} where
  pub held_past : (d : X) (es : List (List ℕ × X)) (k : List ℕ) → IsBelow k es → held_from d es k ≡ d
  held_past d [] k below = refl
  held_past d (e ∷ es) k below = ap (λ t. cond (not t) (held_from e.1 es k) d) below.0

  -- a boundary's key has what the boundary has
  pub held-at : (d x : X) (es : List (List ℕ × X)) (key : List ℕ) → IsRising es → lookup (is_at (key_cmp key)) es ≡ Some x
      → held_from d es key ≡ x
  held-at d x [] key rising found = absurd (none-some x found)
  held-at d x ((q, y) ∷ es) key rising found =
      by_order (key_cmp key q) refl (held-at y x es key (rising_rest q y es rising))
    where
      here : (o : Ordering) → key_cmp key q ≡ o → cond (is_eq o) (Some y) (lookup (is_at (key_cmp key)) es) ≡ Some x
      here o is = sym (ap (λ o. cond (is_eq o) (Some y) (lookup (is_at (key_cmp key)) es)) is) ∙ found

      by_order : (o : Ordering) → key_cmp key q ≡ o
          → (lookup (is_at (key_cmp key)) es ≡ Some x → held_from y es key ≡ x)
          → cond (not (is_lt o)) (held_from y es key) d ≡ x
      by_order Less is rest =
          let among : is_among key es ≡ true = ap is_some (here Less is) in
          absurd (true≢false (sym (among_above key q es (rising_below q y es rising) among) ∙ above_not_below key q (ap is_lt is)))
      by_order Equal is rest =
          let same = tells_apart exact_bytes key q (ap is_eq is) in
          held_past y es key (subst (λ k. IsBelow k es) (sym same) (rising_below q y es rising)) ∙ same_Some _ _ (here Equal is)
      by_order Greater is rest = rest (here Greater is)
