-- Which keys are boundaries, where a boundary comes in or goes, or what a boundary has changes.
use Rattle.std.proofs.Common.{◌≡◌, ℕ, Bool, true, false, cond, List, [], ◌∷◌, Option, Some, None, is_some, not, ◌&&◌, refl, sym, ap, ◌∙◌, true≢false}
use Rattle.std.proofs.lemmas.Bool.{false≢true}
use Rattle.std.proofs.lemmas.Cmp.{tied_itself}
use Rattle.std.proofs.lemmas.Map.Lookups.{exact_bytes}
use Rattle.std.proofs.lemmas.Map.Views.{tells_apart}
use Rattle.std.proofs.lemmas.Option.{same_Some, none-some}
use Rattle.std.specs.BTreeMap.{insert_entry, is_at}
use Rattle.std.specs.Cmp.Lexicographic.{nat_list_cmp_total}
use Rattle.std.specs.Map.{lookup, remove_entry}
use Rattle.std.specs.Ordering.{is_eq, is_lt, match_ordering, ordering_reverse}
use Rattle.std.specs.declared.cmp.Ordering.{Ordering}
use Rattle.std.specs.declared.cmp.Ordering.TheVariants.{Less, Equal, Greater}
use Rattle.key_bytes.specs.Keys.{key_cmp, key_lt, within, after}
use Rattle.key_bytes.proofs.Orders.{lt_le, lt_after}
use Rattle.range_map.specs.Boundaries.{Boundaries, held_from, held, is_boundary, with_boundary, without_boundary, split_at, split_both, changed_entries, changed}
use Rattle.range_map.proofs.Held.{IsBelow, IsRising, is_among, rising_below, rising_rest, held-at, held-changed}

module _ {X : Type 0} where
  pub with_boundary-there : (key : List ℕ) (x : X) (boundaries : Boundaries X) → is_boundary key boundaries ≡ true → with_boundary key x boundaries ≡ boundaries
  with_boundary-there key x boundaries there =
      ap (λ t. cond t boundaries (record boundaries { entries = insert_entry key_cmp boundaries.entries key x })) there

  pub with_boundary-new : (key : List ℕ) (x : X) (boundaries : Boundaries X) → is_boundary key boundaries ≡ false
      → with_boundary key x boundaries ≡ record boundaries { entries = insert_entry key_cmp boundaries.entries key x }
  with_boundary-new key x boundaries new =
      ap (λ t. cond t boundaries (record boundaries { entries = insert_entry key_cmp boundaries.entries key x })) new

module _ {X : Type 0} where
  -- a test that no key passes changes nothing
  pub changed-nothing : (p : List ℕ → Bool) (f : X → X) (es : List (List ℕ × X)) → ((k : List ℕ) → p k ≡ false)
      → changed_entries p f es ≡ es
  changed-nothing p f [] none = refl
  changed-nothing p f (e ∷ es) none = λ i. (e.0, cond (none e.0 i) (f e.1) e.1) ∷ changed-nothing p f es none i

-- no key is in a range that doesn't end above its begin
pub within_backward : (b e q : List ℕ) → key_lt b e ≡ false → within b e q ≡ false
within_backward b e q back = by_end (key_lt q e) refl
  where
    by_end : (t : Bool) → key_lt q e ≡ t → (not (key_lt q b) && t) ≡ false
    by_end true below = ap (λ t. not t && true) (lt_le q e b below back)
    by_end false _ = elim (key_lt q b) as (λ t. (not t && false) ≡ false) [ true ↦ refl | false ↦ refl ]

-- ---- a key that is made a boundary, and taken away again

at_itself : (key : List ℕ) → is_at (key_cmp key) key ≡ true
at_itself key = ap is_eq (tied_itself nat_list_cmp_total key)

module _ {X : Type 0} where
  among_new : (key : List ℕ) (x : X) (es : List (List ℕ × X)) → is_among key (insert_entry key_cmp es key x) ≡ true
  among_new key x [] = ap (λ t. is_some (cond t (Some x) None)) (at_itself key)
  among_new key x (e ∷ es) = by_order (key_cmp key e.0) refl (among_new key x es)
    where
      by_order : (o : Ordering) → key_cmp key e.0 ≡ o → is_among key (insert_entry key_cmp es key x) ≡ true
          → is_among key (match_ordering o ((key, x) ∷ e ∷ es) ((e.0, x) ∷ es) (e ∷ insert_entry key_cmp es key x)) ≡ true
      by_order Less is rest = ap (λ t. is_some (cond t (Some x) (lookup (is_at (key_cmp key)) (e ∷ es)))) (at_itself key)
      by_order Equal is rest = ap (λ o. is_some (cond (is_eq o) (Some x) (lookup (is_at (key_cmp key)) es))) is
      by_order Greater is rest =
          ap (λ o. is_some (cond (is_eq o) (Some e.1) (lookup (is_at (key_cmp key)) (insert_entry key_cmp es key x)))) is ∙ rest

  among_kept : (q key : List ℕ) (x : X) (es : List (List ℕ × X)) → is_among q es ≡ true → is_among q (insert_entry key_cmp es key x) ≡ true
  among_kept q key x [] among = absurd (false≢true among)
  among_kept q key x (e ∷ es) among = by_order (key_cmp key e.0) (is_at (key_cmp q) e.0) refl (among_kept q key x es)
    where
      first : (t : Bool) → is_at (key_cmp q) e.0 ≡ t → is_some (cond t (Some e.1) (lookup (is_at (key_cmp q)) es)) ≡ true
      first t is = sym (ap (λ t. is_some (cond t (Some e.1) (lookup (is_at (key_cmp q)) es))) is) ∙ among

      by_order : (o : Ordering) (t : Bool) → is_at (key_cmp q) e.0 ≡ t
          → (is_among q es ≡ true → is_among q (insert_entry key_cmp es key x) ≡ true)
          → is_among q (match_ordering o ((key, x) ∷ e ∷ es) ((e.0, x) ∷ es) (e ∷ insert_entry key_cmp es key x)) ≡ true
      by_order Less t is rest = elim (is_at (key_cmp q) key)
          as (λ s. is_some (cond s (Some x) (lookup (is_at (key_cmp q)) (e ∷ es))) ≡ true) [ true ↦ refl | false ↦ among ]
      by_order Equal true is rest = ap (λ t. is_some (cond t (Some x) (lookup (is_at (key_cmp q)) es))) is
      by_order Equal false is rest =
          ap (λ t. is_some (cond t (Some x) (lookup (is_at (key_cmp q)) es))) is ∙ first false is
      by_order Greater true is rest =
          ap (λ t. is_some (cond t (Some e.1) (lookup (is_at (key_cmp q)) (insert_entry key_cmp es key x)))) is
      by_order Greater false is rest =
          ap (λ t. is_some (cond t (Some e.1) (lookup (is_at (key_cmp q)) (insert_entry key_cmp es key x)))) is
          ∙ rest (first false is)

  pub removed_inserted : (key : List ℕ) (x : X) (es : List (List ℕ × X)) → is_among key es ≡ false
      → remove_entry (is_at (key_cmp key)) (insert_entry key_cmp es key x) ≡ es
  removed_inserted key x [] new = ap (λ t. cond t [] ((key, x) ∷ [])) (at_itself key)
  removed_inserted key x (e ∷ es) new = by_order (key_cmp key e.0) refl (removed_inserted key x es)
    where
      here : (o : Ordering) → key_cmp key e.0 ≡ o → is_some (cond (is_eq o) (Some e.1) (lookup (is_at (key_cmp key)) es)) ≡ false
      here o is = sym (ap (λ o. is_some (cond (is_eq o) (Some e.1) (lookup (is_at (key_cmp key)) es))) is) ∙ new

      by_order : (o : Ordering) → key_cmp key e.0 ≡ o
          → (is_among key es ≡ false → remove_entry (is_at (key_cmp key)) (insert_entry key_cmp es key x) ≡ es)
          → remove_entry (is_at (key_cmp key)) (match_ordering o ((key, x) ∷ e ∷ es) ((e.0, x) ∷ es) (e ∷ insert_entry key_cmp es key x))
          ≡ e ∷ es
      by_order Less is rest = ap (λ t. cond t (e ∷ es) ((key, x) ∷ remove_entry (is_at (key_cmp key)) (e ∷ es))) (at_itself key)
      by_order Equal is rest = absurd (true≢false (here Equal is))
      by_order Greater is rest =
          ap (λ o. cond (is_eq o) (insert_entry key_cmp es key x)
          (e ∷ remove_entry (is_at (key_cmp key)) (insert_entry key_cmp es key x))) is
          ∙ ap (λ es. e ∷ es) (rest (here Greater is))

  -- a key that was made a boundary is one, and each that was one still is
  pub boundary_made : (key : List ℕ) (x : X) (boundaries : Boundaries X) → is_boundary key (with_boundary key x boundaries) ≡ true
  boundary_made key x boundaries = by_boundary (is_boundary key boundaries) refl
    where
      by_boundary : (t : Bool) → is_boundary key boundaries ≡ t
          → is_boundary key (cond t boundaries (record boundaries { entries = insert_entry key_cmp boundaries.entries key x })) ≡ true
      by_boundary true there = there
      by_boundary false _ = among_new key x boundaries.entries

  pub boundary_kept : (q key : List ℕ) (x : X) (boundaries : Boundaries X) → is_boundary q boundaries ≡ true → is_boundary q (with_boundary key x boundaries) ≡ true
  boundary_kept q key x boundaries there = elim (is_boundary key boundaries)
      as (λ t. is_boundary q (cond t boundaries (record boundaries { entries = insert_entry key_cmp boundaries.entries key x })) ≡ true) [
        | true ↦ there
        | false ↦ among_kept q key x boundaries.entries there
      ]

  -- without a boundary that was none before all is as it was
  pub without_new : (key : List ℕ) (x : X) (boundaries : Boundaries X) → is_boundary key boundaries ≡ false
      → without_boundary key (with_boundary key x boundaries) ≡ boundaries
  without_new key x boundaries new =
      ap (without_boundary key) (with_boundary-new key x boundaries new)
      ∙ ap (λ entries. record boundaries { entries = entries }) (removed_inserted key x boundaries.entries new)

  -- a key that was made a boundary is none again
  pub joined : (spread : X → X) (key : List ℕ) (old half new : Boundaries X) (is_new : Bool) → is_new ≡ not (is_boundary key old)
      → half ≡ split_at spread key old → new ≡ cond is_new (without_boundary key half) half → new ≡ old
  joined spread key old half new is_new was split is =
      is ∙ (λ i. cond (was i) (without_boundary key (split i)) (split i)) ∙ by_boundary (is_boundary key old) refl
    where
      by_boundary : (t : Bool) → is_boundary key old ≡ t → cond (not t) (without_boundary key (split_at spread key old)) (split_at spread key old) ≡ old
      by_boundary true there = with_boundary-there key (spread (held old key)) old there
      by_boundary false new = without_new key (spread (held old key)) old new

  -- ---- two keys are made boundaries

  module _ (spread : X → X) (begin end : List ℕ) (boundaries : Boundaries X) where
    pub begin_made : is_boundary begin (split_both spread begin end boundaries) ≡ true
    begin_made =
        let half = split_at spread begin boundaries in
        boundary_kept begin end (spread (held half end)) half (boundary_made begin (spread (held boundaries begin)) boundaries)

    pub end_made : is_boundary end (split_both spread begin end boundaries) ≡ true
    end_made = let half = split_at spread begin boundaries in boundary_made end (spread (held half end)) half

    -- where both are boundaries nothing changes
    pub split_both-there : is_boundary begin boundaries ≡ true → is_boundary end boundaries ≡ true → boundaries ≡ split_both spread begin end boundaries
    split_both-there begins ends = sym
        (ap (split_at spread end) (with_boundary-there begin (spread (held boundaries begin)) boundaries begins)
        ∙ with_boundary-there end (spread (held boundaries end)) boundaries ends)

  -- a new boundary leaves what the keys below all boundaries have
  pub base-with_boundary : (key : List ℕ) (x : X) (boundaries : Boundaries X) → (with_boundary key x boundaries).base ≡ boundaries.base
  base-with_boundary key x boundaries = elim (is_boundary key boundaries)
      as (λ t. (cond t boundaries (record boundaries { entries = insert_entry key_cmp boundaries.entries key x })).base ≡ boundaries.base) [
        | true ↦ refl
        | false ↦ refl
      ]

  -- ---- a change of what boundaries have

  among_changed : (q : List ℕ) (p : List ℕ → Bool) (f : X → X) (es : List (List ℕ × X))
      → is_among q (changed_entries p f es) ≡ is_among q es
  among_changed q p f [] = refl
  among_changed q p f (e ∷ es) = elim (is_at (key_cmp q) e.0)
      as (λ t. is_some (cond t (Some (cond (p e.0) (f e.1) e.1)) (lookup (is_at (key_cmp q)) (changed_entries p f es)))
      ≡ is_some (cond t (Some e.1) (lookup (is_at (key_cmp q)) es))) [ true ↦ refl | false ↦ among_changed q p f es ]

  -- which keys are boundaries doesn't change
  pub boundary_changed : (q : List ℕ) (p : List ℕ → Bool) (f : X → X) (boundaries : Boundaries X) → is_boundary q (changed p f boundaries) ≡ is_boundary q boundaries
  boundary_changed q p f boundaries = among_changed q p f boundaries.entries

-- ---- one boundary changes

-- what is below each of some boundaries is none of them
pub none_at : {X : Type 0} (key : List ℕ) (es : List (List ℕ × X)) → IsBelow key es → (k : List ℕ) → k ≡ key
    → lookup (is_at (key_cmp k)) es ≡ None
none_at key [] below k same = refl
none_at key (e ∷ es) below k same = by_first (key_cmp k e.0) refl (none_at key es below.1 k same)
  where
    less : is_lt (key_cmp k e.0) ≡ true
    less = ap (λ k. key_lt k e.0) same ∙ below.0

    by_first : (o : Ordering) → key_cmp k e.0 ≡ o → lookup (is_at (key_cmp k)) es ≡ None
        → cond (is_eq o) (Some e.1) (lookup (is_at (key_cmp k)) es) ≡ None
    by_first Less is rest = rest
    by_first Equal is rest = absurd (true≢false (sym less ∙ ap is_lt is))
    by_first Greater is rest = rest

module _ {X : Type 0} where
  -- a change of a key that is no boundary changes nothing
  pub changed_none : (key : List ℕ) (f : X → X) (es : List (List ℕ × X)) → lookup (is_at (key_cmp key)) es ≡ None
      → changed_entries (is_at (key_cmp key)) f es ≡ es
  changed_none key f [] none = refl
  changed_none key f (e ∷ es) none = by_first (is_at (key_cmp key) e.0) refl (changed_none key f es)
    where
      by_first : (t : Bool) → is_at (key_cmp key) e.0 ≡ t
          → (lookup (is_at (key_cmp key)) es ≡ None → changed_entries (is_at (key_cmp key)) f es ≡ es)
          → (e.0, cond t (f e.1) e.1) ∷ changed_entries (is_at (key_cmp key)) f es ≡ e ∷ es
      by_first true is rest = absurd (none-some e.1 (sym none ∙ ap (λ t. cond t (Some e.1) (lookup (is_at (key_cmp key)) es)) is))
      by_first false is rest =
          ap (λ es. e ∷ es) (rest (sym (ap (λ t. cond t (Some e.1) (lookup (is_at (key_cmp key)) es)) is) ∙ none))

  back_entries : (key : List ℕ) (x : X) (es : List (List ℕ × X)) → IsRising es → lookup (is_at (key_cmp key)) es ≡ Some x
      → changed_entries (is_at (key_cmp key)) (λ _. x) es ≡ es
  back_entries key x [] rising found = absurd (none-some x found)
  back_entries key x (e ∷ es) rising found =
      by_first (is_at (key_cmp key) e.0) refl (back_entries key x es (rising_rest e.0 e.1 es rising))
    where
      here : (t : Bool) → is_at (key_cmp key) e.0 ≡ t → cond t (Some e.1) (lookup (is_at (key_cmp key)) es) ≡ Some x
      here t is = sym (ap (λ t. cond t (Some e.1) (lookup (is_at (key_cmp key)) es)) is) ∙ found

      by_first : (t : Bool) → is_at (key_cmp key) e.0 ≡ t
          → (lookup (is_at (key_cmp key)) es ≡ Some x → changed_entries (is_at (key_cmp key)) (λ _. x) es ≡ es)
          → (e.0, cond t x e.1) ∷ changed_entries (is_at (key_cmp key)) (λ _. x) es ≡ e ∷ es
      by_first true is rest =
          let same : x ≡ e.1 = sym (same_Some _ _ (here true is)) in
          let none = none_at e.0 es (rising_below e.0 e.1 es rising) key (tells_apart exact_bytes key e.0 is) in
          λ i. (e.0, same i) ∷ changed_none key (λ _. x) es none i
      by_first false is rest = ap (λ es. e ∷ es) (rest (here false is))

  -- a boundary that is given what it has stays as it is
  pub changed_back : (key : List ℕ) (boundaries : Boundaries X) → IsRising boundaries.entries → is_boundary key boundaries ≡ true
      → changed (is_at (key_cmp key)) (λ _. held boundaries key) boundaries ≡ boundaries
  changed_back key boundaries rising there = by_found (lookup (is_at (key_cmp key)) boundaries.entries) refl
    where
      by_found : (o : Option X) → lookup (is_at (key_cmp key)) boundaries.entries ≡ o
          → changed (is_at (key_cmp key)) (λ _. held boundaries key) boundaries ≡ boundaries
      by_found None none = absurd (false≢true (sym (ap is_some none) ∙ there))
      by_found (Some x) found =
          ap (λ x. changed (is_at (key_cmp key)) (λ _. x) boundaries) (held-at boundaries.base x boundaries.entries key rising found)
          ∙ ap (λ entries. record boundaries { entries = entries }) (back_entries key x boundaries.entries rising found)

  twice_entries : (p : List ℕ → Bool) (x y : X) (es : List (List ℕ × X))
      → changed_entries p (λ _. y) (changed_entries p (λ _. x) es) ≡ changed_entries p (λ _. y) es
  twice_entries p x y [] = refl
  twice_entries p x y (e ∷ es) = elim (p e.0)
      as (λ t. (e.0, cond t y (cond t x e.1)) ∷ changed_entries p (λ _. y) (changed_entries p (λ _. x) es)
      ≡ (e.0, cond t y e.1) ∷ changed_entries p (λ _. y) es) [
        | true ↦ ap (λ es. (e.0, y) ∷ es) (twice_entries p x y es)
        | false ↦ ap (λ es. e ∷ es) (twice_entries p x y es)
      ]

  -- of two things that boundaries are given, one after the other, they have the second
  pub changed_twice : (p : List ℕ → Bool) (x y : X) (boundaries : Boundaries X)
      → changed p (λ _. y) (changed p (λ _. x) boundaries) ≡ changed p (λ _. y) boundaries
  changed_twice p x y boundaries = ap (λ entries. record boundaries { entries = entries }) (twice_entries p x y boundaries.entries)

-- ---- one key as a range

-- from a key up to the key after it there is the key alone
pub within_one : (key q : List ℕ) → within key (after key) q ≡ is_at (key_cmp key) q
within_one key q = by_order (key_cmp key q) refl
  where
    back : (o : Ordering) → key_cmp key q ≡ o → key_lt q key ≡ is_lt (ordering_reverse o)
    back o is = ap is_lt (nat_list_cmp_total.antisymm q key ∙ ap ordering_reverse is)

    by_order : (o : Ordering) → key_cmp key q ≡ o → within key (after key) q ≡ is_eq o
    by_order Less is = λ i. not (back Less is i) && (lt_after q key ∙ ap (λ o. not (is_lt o)) is) i
    by_order Equal is = λ i. not (back Equal is i) && (lt_after q key ∙ ap (λ o. not (is_lt o)) is) i
    by_order Greater is = ap (λ t. not t && key_lt q (after key)) (back Greater is)

changed_same : {X : Type 0} (p r : List ℕ → Bool) (f : X → X) (es : List (List ℕ × X)) → ((k : List ℕ) → p k ≡ r k)
    → changed_entries p f es ≡ changed_entries r f es
changed_same p r f [] same = refl
changed_same p r f (e ∷ es) same = λ i. (e.0, cond (same e.0 i) (f e.1) e.1) ∷ changed_same p r f es same i

-- a change of one boundary, where the next key is a boundary too, changes what its key has and no other
pub held-changed_one : {X : Type 0} (key : List ℕ) (f : X → X) (boundaries : Boundaries X) (k : List ℕ) → IsRising boundaries.entries
    → is_boundary key boundaries ≡ true → is_boundary (after key) boundaries ≡ true
    → held (changed (is_at (key_cmp key)) f boundaries) k ≡ cond (is_at (key_cmp key) k) (f (held boundaries k)) (held boundaries k)
held-changed_one key f boundaries k rising here next =
    ap (λ entries. held_from boundaries.base entries k)
    (changed_same (is_at (key_cmp key)) (within key (after key)) f boundaries.entries (λ q. sym (within_one key q)))
    ∙ held-changed key (after key) f boundaries k rising here next
    ∙ ap (λ t. cond t (f (held boundaries k)) (held boundaries k)) (within_one key k)
