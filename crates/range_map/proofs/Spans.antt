-- What ranges of the places tell of the boundaries: what a key has, and which boundary stands next to it.
use Rattle.std.proofs.Common.{◌≡◌, ℕ, ◌<◌, Bool, true, false, cond, not, ◌&&◌, List, [], ◌∷◌, ◌++◌, length, get_or, Option, Some, None, is_some, refl, sym, ap, subst, ◌∙◌}
use Rattle.std.proofs.Math.Bool.{and-true}
use Rattle.std.proofs.Math.ListN.{set}
use Rattle.std.proofs.lemmas.List.{get_or_default}
use Rattle.std.specs.BTreeMap.{is_at}
use Rattle.std.specs.BTreeMap.Range.{range_contains}
use Rattle.std.proofs.lemmas.List.Kept.{IsStrictlySortedBy-filter}
use Rattle.std.specs.List.{filter}
use Rattle.std.specs.List.Sorted.{IsStrictlySortedBy}
use Rattle.std.specs.Map.{keys_of, lookup}
use Rattle.std.specs.Option.{option_map, option_map_or, unwrap_or}
use Rattle.std.specs.Ordering.{is_eq, is_lt}
use Rattle.std.specs.declared.cmp.Ordering.{Ordering}
use Rattle.std.specs.declared.cmp.Ordering.TheVariants.{Less, Equal, Greater}
use Rattle.std.proofs.lemmas.Map.Lookups.{exact_bytes}
use Rattle.std.proofs.lemmas.Map.Views.{tells_apart}
use Rattle.range_map.proofs.Bounded.{none_at}
use Rattle.std.specs.declared.ops.Bound.TheVariants.{Included, Excluded, Unbounded}
use Rattle.key_bytes.specs.Keys.{key_cmp, key_le, key_lt, within}
use Rattle.key_map.specs.Ends.{first, last}
use Rattle.key_map.proofs.Spans.{last-append, range_contains-below}
use Rattle.range_map.specs.Boundaries.{held_from}
use Rattle.range_map.specs.Places.{laid_out, AreInside}
use Rattle.range_map.proofs.Held.{IsBelow, IsRising, is_among, rising_below, rising_rest, below_lower, not_above}
use Rattle.range_map.proofs.Placed.{Places, lookup-laid_out, set_all}

-- ---- ends of lists

last_default : {X Y : Type 0} (f : X → Y) (x : X) (xs : List X) (a b : Y)
    → unwrap_or (option_map f (last (x ∷ xs))) a ≡ unwrap_or (option_map f (last (x ∷ xs))) b
last_default f x [] a b = refl
last_default f x (y ∷ xs) a b = last_default f y xs a b

last_cons : {X Y : Type 0} (f : X → Y) (x : X) (xs : List X) (d : Y)
    → unwrap_or (option_map f (last (x ∷ xs))) d ≡ unwrap_or (option_map f (last xs)) (f x)
last_cons f x [] d = refl
last_cons f x (y ∷ xs) d = last_default f y xs d (f x)

pub first-keys_of : {X : Type 0} (es : List (List ℕ × X)) → option_map (λ e. e.0) (first es) ≡ first (keys_of es)
first-keys_of [] = refl
first-keys_of (e ∷ es) = refl

pub last-keys_of : {X : Type 0} (es : List (List ℕ × X)) → option_map (λ e. e.0) (last es) ≡ last (keys_of es)
last-keys_of [] = refl
last-keys_of (e ∷ []) = refl
last-keys_of (e ∷ d ∷ es) = last-keys_of (d ∷ es)

pub keys_of-filter : {X : Type 0} (p : List ℕ → Bool) (es : List (List ℕ × X)) → keys_of (filter (λ e. p e.0) es) ≡ filter p (keys_of es)
keys_of-filter p [] = refl
keys_of-filter p (e ∷ es) = elim (p e.0) as (λ t. keys_of (cond t (e ∷ filter (λ e. p e.0) es) (filter (λ e. p e.0) es))
    ≡ cond t (e.0 ∷ filter p (keys_of es)) (filter p (keys_of es))) [
      | true ↦ ap (λ ks. e.0 ∷ ks) (keys_of-filter p es)
      | false ↦ keys_of-filter p es
    ]

-- ---- the boundaries of places

module _ {X : Type 0} (base : X) (levels : List X) where
  pub keys_of-laid_out : (es : Places) → keys_of (laid_out base levels es) ≡ keys_of es
  keys_of-laid_out [] = refl
  keys_of-laid_out (e ∷ es) = ap (λ ks. e.0 ∷ ks) (keys_of-laid_out es)

  -- a part of the places is that of the boundaries
  pub laid_out-filter : (p : List ℕ → Bool) (es : Places)
      → laid_out base levels (filter (λ e. p e.0) es) ≡ filter (λ e. p e.0) (laid_out base levels es)
  laid_out-filter p [] = refl
  laid_out-filter p (e ∷ es) = elim (p e.0) as (λ t. laid_out base levels (cond t (e ∷ filter (λ e. p e.0) es) (filter (λ e. p e.0) es))
      ≡ cond t ((e.0, get_or levels e.1 base) ∷ filter (λ e. p e.0) (laid_out base levels es)) (filter (λ e. p e.0) (laid_out base levels es))) [
        | true ↦ ap (λ rest. (e.0, get_or levels e.1 base) ∷ rest) (laid_out-filter p es)
        | false ↦ laid_out-filter p es
      ]

  pub rising-laid_out : (es : Places) → IsRising es → IsRising (laid_out base levels es)
  rising-laid_out es rising = rw (keys_of-laid_out es) rising

  is_some-map : {A B : Type 0} (f : A → B) (o : Option A) → is_some (option_map f o) ≡ is_some o
  is_some-map f None = refl
  is_some-map f (Some x) = refl

  pub is_among-laid_out : (key : List ℕ) (es : Places) → is_among key (laid_out base levels es) ≡ is_among key es
  is_among-laid_out key es =
      ap is_some (lookup-laid_out base (is_at (key_cmp key)) levels es)
      ∙ is_some-map (λ place. get_or levels place base) (lookup (is_at (key_cmp key)) es)

  abbrev thing : List ℕ × ℕ → X
  thing e = get_or levels e.1 base

  none_up_to : (k : List ℕ) (es : Places) → IsBelow k es → filter (λ e. key_le e.0 k) es ≡ []
  none_up_to k [] below = refl
  none_up_to k (e ∷ es) below =
      ap (λ t. cond (not t) (e ∷ filter (λ e. key_le e.0 k) es) (filter (λ e. key_le e.0 k) es)) below.0
      ∙ none_up_to k es below.1

  -- what a key has lies at the place of the last boundary that isn't above it
  held-laid_out : (d : X) (es : Places) (k : List ℕ) → IsRising es
      → held_from d (laid_out base levels es) k ≡ unwrap_or (option_map thing (last (filter (λ e. key_le e.0 k) es))) d
  held-laid_out d [] k rising = refl
  held-laid_out d (e ∷ es) k rising =
      by_first (key_lt k e.0) refl (held-laid_out (thing e) es k (rising_rest e.0 e.1 es rising))
    where
      by_first : (t : Bool) → key_lt k e.0 ≡ t
          → held_from (thing e) (laid_out base levels es) k
          ≡ unwrap_or (option_map thing (last (filter (λ e. key_le e.0 k) es))) (thing e)
          → cond (not t) (held_from (thing e) (laid_out base levels es) k) d
          ≡ unwrap_or (option_map thing (last (cond (not t) (e ∷ filter (λ e. key_le e.0 k) es) (filter (λ e. key_le e.0 k) es)))) d
      by_first true below rest =
          sym (ap (λ es. unwrap_or (option_map thing (last es)) d)
          (none_up_to k es (below_lower k e.0 es below (rising_below e.0 e.1 es rising))))
      by_first false past rest = rest ∙ sym (last_cons thing e (filter (λ e. key_le e.0 k) es) d)

  -- a key is a boundary exactly where the last boundary that isn't above it is at the key
  among_last : (es : Places) (k : List ℕ) → IsRising es
      → is_among k es ≡ option_map_or (λ e. is_at (key_cmp k) e.0) (last (filter (λ e. key_le e.0 k) es)) false
  among_last [] k rising = refl
  among_last (e ∷ es) k rising = by_order (key_cmp k e.0) refl (among_last es k (rising_rest e.0 e.1 es rising))
    where
      alone : IsBelow k es → is_among k es ≡ false
      alone below = ap is_some (none_at k es below k refl)

      more : (xs : Places) → is_at (key_cmp k) e.0 ≡ false
          → option_map_or (λ e. is_at (key_cmp k) e.0) (last xs) false ≡ option_map_or (λ e. is_at (key_cmp k) e.0) (last (e ∷ xs)) false
      more [] other = sym other
      more (x ∷ xs) other = refl

      by_order : (o : Ordering) → key_cmp k e.0 ≡ o
          → is_among k es ≡ option_map_or (λ e. is_at (key_cmp k) e.0) (last (filter (λ e. key_le e.0 k) es)) false
          → is_some (cond (is_eq o) (Some e.1) (lookup (is_at (key_cmp k)) es))
          ≡ option_map_or (λ e. is_at (key_cmp k) e.0)
          (last (cond (not (is_lt o)) (e ∷ filter (λ e. key_le e.0 k) es) (filter (λ e. key_le e.0 k) es))) false
      by_order Less is rest =
          let below = below_lower k e.0 es (ap is_lt is) (rising_below e.0 e.1 es rising) in
          alone below
          ∙ sym (ap (λ es. option_map_or (λ e. is_at (key_cmp k) e.0) (last es) false) (none_up_to k es below))
      by_order Equal is rest =
          let same = tells_apart exact_bytes k e.0 (ap is_eq is) in
          let below = subst (λ k. IsBelow k es) (sym same) (rising_below e.0 e.1 es rising) in
          sym (ap is_eq is)
          ∙ sym (ap (λ es. option_map_or (λ e. is_at (key_cmp k) e.0) (last (e ∷ es)) false) (none_up_to k es below))
      by_order Greater is rest = rest ∙ more (filter (λ e. key_le e.0 k) es) (ap is_eq is)

  module _ (es : Places) (rising : IsRising es) (k : List ℕ) (span : Places)
      (between : span ≡ filter (λ e. range_contains key_cmp Unbounded (Included k) e.0) es) where
    pub held-found : (d : X) (rest : Places) (e : List ℕ × ℕ) → span ≡ rest ++ e ∷ []
        → held_from d (laid_out base levels es) k ≡ get_or levels e.1 base
    held-found d rest e ends =
        held-laid_out d es k rising
        ∙ ap (λ es. unwrap_or (option_map thing (last es)) d) (sym between ∙ ends)
        ∙ ap (λ o. unwrap_or (option_map thing o) d) (last-append rest e)

    pub is_among-found : (rest : Places) (e : List ℕ × ℕ) → span ≡ rest ++ e ∷ []
        → is_among k (laid_out base levels es) ≡ is_at (key_cmp k) e.0
    is_among-found rest e ends =
        is_among-laid_out k es
        ∙ among_last es k rising
        ∙ ap (λ es. option_map_or (λ e. is_at (key_cmp k) e.0) (last es) false) (sym between ∙ ends)
        ∙ ap (λ o. option_map_or (λ e. is_at (key_cmp k) e.0) o false) (last-append rest e)

    pub is_among-not_found : span ≡ [] → is_among k (laid_out base levels es) ≡ false
    is_among-not_found none =
        is_among-laid_out k es
        ∙ among_last es k rising
        ∙ ap (λ es. option_map_or (λ e. is_at (key_cmp k) e.0) (last es) false) (sym between ∙ none)

    pub held-not_found : (d : X) → span ≡ [] → held_from d (laid_out base levels es) k ≡ d
    held-not_found d none =
        held-laid_out d es k rising ∙ ap (λ es. unwrap_or (option_map thing (last es)) d) (sym between ∙ none)

  -- the first boundary above a key, and the last one below it
  pub first-above : (es : Places) (k : List ℕ) (span : Places)
      → span ≡ filter (λ e. range_contains key_cmp (Excluded k) Unbounded e.0) es
      → option_map (λ e. e.0) (first span) ≡ first (filter (key_lt k) (keys_of (laid_out base levels es)))
  first-above es k span between =
      ap (λ es. option_map (λ e. e.0) (first es)) between
      ∙ first-keys_of (filter (λ e. range_contains key_cmp (Excluded k) Unbounded e.0) es)
      ∙ ap first (keys_of-filter (range_contains key_cmp (Excluded k) Unbounded) es)
      ∙ ap first (same_test (keys_of es))
      ∙ ap (λ ks. first (filter (key_lt k) ks)) (sym (keys_of-laid_out es))
    where
      same_test : (ks : List (List ℕ)) → filter (range_contains key_cmp (Excluded k) Unbounded) ks ≡ filter (key_lt k) ks
      same_test ks = λ i. filter (λ q. and-true (key_lt k q) i) ks

  pub last-below : (es : Places) (k : List ℕ) (span : Places)
      → span ≡ filter (λ e. range_contains key_cmp Unbounded (Excluded k) e.0) es
      → option_map (λ e. e.0) (last span) ≡ last (filter (λ boundary. key_lt boundary k) (keys_of (laid_out base levels es)))
  last-below es k span between =
      ap (λ es. option_map (λ e. e.0) (last es)) between
      ∙ last-keys_of (filter (λ e. range_contains key_cmp Unbounded (Excluded k) e.0) es)
      ∙ ap last (keys_of-filter (range_contains key_cmp Unbounded (Excluded k)) es)
      ∙ (λ i. last (filter (λ q. range_contains-below k q i) (keys_of es)))
      ∙ ap (λ ks. last (filter (λ boundary. key_lt boundary k) ks)) (sym (keys_of-laid_out es))

-- ---- the places of a part of the boundaries

pub inside_filter : (p : List ℕ × ℕ → Bool) (len : ℕ) (es : Places) → AreInside len es → AreInside len (filter p es)
inside_filter p len [] inside = tt
inside_filter p len (e ∷ es) inside = elim (p e) as (λ t. AreInside len (cond t (e ∷ filter p es) (filter p es))) [
  | true ↦ (inside.0, inside_filter p len es inside.1)
  | false ↦ inside_filter p len es inside.1
]

inside_append : (len : ℕ) (rest : Places) (e : List ℕ × ℕ) → AreInside len (rest ++ e ∷ []) → e.1 < len
inside_append len [] e inside = inside.0
inside_append len (d ∷ rest) e inside = inside_append len rest e inside.1

pub found_inside : (p : List ℕ × ℕ → Bool) (len : ℕ) (es span rest : Places) (e : List ℕ × ℕ) → span ≡ filter p es
    → span ≡ rest ++ e ∷ [] → AreInside len es → e.1 < len
found_inside p len es span rest e between ends inside =
    inside_append len rest e (subst (AreInside len) (sym between ∙ ends) (inside_filter p len es inside))

-- the boundaries of a part rise
pub rising_filter : {X : Type 0} (p : List ℕ → Bool) (es : List (List ℕ × X)) → IsRising es → IsRising (filter (λ e. p e.0) es)
rising_filter p es rising =
    subst (IsStrictlySortedBy key_cmp) (sym (keys_of-filter p es)) (IsStrictlySortedBy-filter key_cmp p (keys_of es) rising)

-- ---- the places from a key on, up to an end

pub filter_both : {X : Type 0} (p q : X → Bool) (es : List X) → filter p (filter q es) ≡ filter (λ e. q e && p e) es
filter_both p q [] = refl
filter_both p q (e ∷ es) = elim (q e)
    as (λ t. filter p (cond t (e ∷ filter q es) (filter q es)) ≡ cond (t && p e) (e ∷ filter (λ e. q e && p e) es) (filter (λ e. q e && p e) es)) [
      | true ↦ ap (λ rest. cond (p e) (e ∷ rest) rest) (filter_both p q es)
      | false ↦ filter_both p q es
    ]

-- the places that are less than an end
abbrev pub before : List ℕ → Places → Places
before end es = filter (λ e. key_lt e.0 end) es

pub before_within : (begin end : List ℕ) (es : Places)
    → before end (filter (λ e. key_le begin e.0) es) ≡ filter (λ e. within begin end e.0) es
before_within begin end es = filter_both (λ e. key_lt e.0 end) (λ e. key_le begin e.0) es

before_first : (end : List ℕ) (e : List ℕ × ℕ) (es : Places) → key_lt e.0 end ≡ true → before end (e ∷ es) ≡ e ∷ before end es
before_first end e es below = ap (λ t. cond t (e ∷ before end es) (before end es)) below

none_past : (end key : List ℕ) (es : Places) → key_lt key end ≡ false → IsBelow key es → before end es ≡ []
none_past end key [] past below = refl
none_past end key (e ∷ es) past below =
    ap (λ t. cond t (e ∷ before end es) (before end es)) (not_above key e.0 end below.0 past) ∙ none_past end key es past below.1

-- where the first isn't less than the end none is
pub before_none : (end : List ℕ) (e : List ℕ × ℕ) (es : Places) → IsRising (e ∷ es) → key_lt e.0 end ≡ false → before end (e ∷ es) ≡ []
before_none end e es rising past =
    ap (λ t. cond t (e ∷ before end es) (before end es)) past ∙ none_past end e.0 es past (rising_below e.0 e.1 es rising)

-- where the first is, its thing changes, and then those of the others
pub set_first : {X : Type 0} (base : X) (end : List ℕ) (f : X → X) (e : List ℕ × ℕ) (rest left : Places) (levels : List X) (old new : X)
    → left ≡ e ∷ rest → key_lt e.0 end ≡ true → e.1 < length levels → old ≡ get_or levels e.1 old → new ≡ f old
    → set_all base f (before end rest) (set levels e.1 new) ≡ set_all base f (before end left) levels
set_first base end f e rest left levels old new begins below inside was is =
    ap (λ x. set_all base f (before end rest) (set levels e.1 x)) (is ∙ ap f (was ∙ get_or_default levels e.1 old base inside))
    ∙ sym (ap (λ es. set_all base f es levels) (ap (before end) begins ∙ before_first end e rest below))
