-- The ranges of a set: which keys they have, and that they lie apart.
use Rattle.std.proofs.Common.{◌≡◌, ℕ, suc, ◌<◌, ◌≤◌, Bool, true, false, cond, not, ◌&&◌, ◌||◌, List, [], ◌∷◌, length, Some, is_some, refl, sym, ap, subst, ◌∙◌, arith}
use Rattle.std.proofs.lemmas.Bool.{false≢true}
use Rattle.std.proofs.lemmas.List.Kept.{IsStrictlySortedBy-filter}
use Rattle.std.proofs.lemmas.Map.Lookups.{exact_bytes}
use Rattle.std.proofs.lemmas.Map.Views.{tells_apart}
use Rattle.std.proofs.lemmas.Option.{same_Some, none-some}
use Rattle.std.specs.BTreeMap.{is_at}
use Rattle.std.specs.List.{filter}
use Rattle.std.specs.Map.{keys_of, lookup}
use Rattle.key_bytes.specs.Keys.{key_cmp, key_lt, key_le, within}
use Rattle.key_bytes.proofs.Orders.{irreflexive, above_not_below, le_lt, lt_le, lt_trans}
use Rattle.key_map.specs.Ends.{first}
use Rattle.model_database.specs.States.{covers, range_from}
use Rattle.range_map.specs.Boundaries.{Boundaries, held, held_from, boundaries_of}
use Rattle.range_map.proofs.Held.{IsBelow, IsRising, is_among, rising_below, rising_rest, below_lower}
use Rattle.conflict_ranges.specs.declared.membership.Membership.{Membership}
use Rattle.conflict_ranges.specs.Segments.{ranges_from, left_from, ranges_of, IsSound, AreFrom, AreApart}
use Rattle.conflict_ranges.proofs.Between.{le_le, lowest}

-- no boundary is above a key
abbrev IsPast : {X : Type 0} → List ℕ → List (List ℕ × X) → Type 0
IsPast key [] = Unit {0}
IsPast key (e ∷ es) = (key_lt key e.0 ≡ false) × IsPast key es

-- ---- the boundaries above a key

pub first_above : (b boundary : List ℕ) (keys : List (List ℕ)) → first (filter (key_lt b) keys) ≡ Some boundary → key_lt b boundary ≡ true
first_above b boundary [] none = absurd (none-some boundary none)
first_above b boundary (key ∷ keys) some = elim (key_lt b key) as (λ t. key_lt b key ≡ t
    → first (cond t (key ∷ filter (key_lt b) keys) (filter (key_lt b) keys)) ≡ Some boundary → key_lt b boundary ≡ true) [
      | true ↦ λ above is. ap (key_lt b) (sym (same_Some key boundary is)) ∙ above
      | false ↦ λ _ is. first_above b boundary keys is
    ] refl some

module _ {X : Type 0} where
  abbrev upper : List ℕ → List (List ℕ × X) → List (List ℕ × X)
  upper key es = filter (λ e. key_lt key e.0) es

  keys_of-upper : (key : List ℕ) (es : List (List ℕ × X)) → keys_of (upper key es) ≡ filter (key_lt key) (keys_of es)
  keys_of-upper key [] = refl
  keys_of-upper key (e ∷ es) = elim (key_lt key e.0) as (λ t. keys_of (cond t (e ∷ upper key es) (upper key es))
      ≡ cond t (e.0 ∷ filter (key_lt key) (keys_of es)) (filter (key_lt key) (keys_of es))) [
        | true ↦ ap (λ ks. e.0 ∷ ks) (keys_of-upper key es)
        | false ↦ keys_of-upper key es
      ]

  rising-upper : (key : List ℕ) (es : List (List ℕ × X)) → IsRising es → IsRising (upper key es)
  rising-upper key es rising =
      rw (keys_of-upper key es) (IsStrictlySortedBy-filter key_cmp (key_lt key) (keys_of es) rising)

  below-upper : (key : List ℕ) (es : List (List ℕ × X)) → IsBelow key (upper key es)
  below-upper key [] = tt
  below-upper key (e ∷ es) =
      elim (key_lt key e.0) as (λ t. key_lt key e.0 ≡ t → IsBelow key (cond t (e ∷ upper key es) (upper key es))) [
        | true ↦ λ above. (above, below-upper key es)
        | false ↦ λ _. below-upper key es
      ] refl

  -- all boundaries are above what is below them
  upper-all : (key : List ℕ) (es : List (List ℕ × X)) → IsBelow key es → upper key es ≡ es
  upper-all key [] below = refl
  upper-all key (e ∷ es) below =
      ap (λ t. cond t (e ∷ upper key es) (upper key es)) below.0 ∙ ap (λ es. e ∷ es) (upper-all key es below.1)

  held_below : (d : X) (es : List (List ℕ × X)) (key : List ℕ) → IsBelow key es → held_from d es key ≡ d
  held_below d [] key below = refl
  held_below d (e ∷ es) key below = ap (λ t. cond (not t) (held_from e.1 es key) d) below.0

  -- what keys from a key on have, by the boundaries above it
  held-upper : (d : X) (es : List (List ℕ × X)) (b k : List ℕ) → IsRising es → key_lt k b ≡ false
      → held_from (held_from d es b) (upper b es) k ≡ held_from d es k
  held-upper d [] b k rising from = refl
  held-upper d (e ∷ es) b k rising from = by_first (key_lt b e.0) refl (held-upper e.1 es b k (rising_rest e.0 e.1 es rising) from)
    where
      by_first : (t : Bool) → key_lt b e.0 ≡ t → held_from (held_from e.1 es b) (upper b es) k ≡ held_from e.1 es k
          → held_from (cond (not t) (held_from e.1 es b) d) (cond t (e ∷ upper b es) (upper b es)) k
          ≡ cond (key_le e.0 k) (held_from e.1 es k) d
      by_first true above rest =
          let below = below_lower b e.0 es above (rising_below e.0 e.1 es rising) in
          ap (λ x. cond (key_le e.0 k) x d) (ap (λ x. held_from x (upper b es) k) (sym (held_below e.1 es b below)) ∙ rest)
      by_first false past rest = rest ∙ sym (ap (λ t. cond (not t) (held_from e.1 es k) d) (le_le e.0 b k past from))

  -- where no boundary above a key is above another, none at all is
  past_all : (b k boundary : List ℕ) (es : List (List ℕ × X)) → key_lt k b ≡ false → IsPast k (upper b es) → is_among boundary es ≡ true
      → key_lt k boundary ≡ false
  past_all b k boundary [] from past among = absurd (false≢true among)
  past_all b k boundary (e ∷ es) from past among =
      by_first (key_lt b e.0) refl past (is_at (key_cmp boundary) e.0) refl (past_all b k boundary es from)
    where
      among_rest : is_at (key_cmp boundary) e.0 ≡ false → is_among boundary es ≡ true
      among_rest other = sym (ap (λ t. is_some (cond t (Some e.1) (lookup (is_at (key_cmp boundary)) es))) other) ∙ among

      by_first : (t : Bool) → key_lt b e.0 ≡ t → IsPast k (cond t (e ∷ upper b es) (upper b es)) → (s : Bool)
          → is_at (key_cmp boundary) e.0 ≡ s → (IsPast k (upper b es) → is_among boundary es ≡ true → key_lt k boundary ≡ false)
          → key_lt k boundary ≡ false
      by_first true _ past true same rest = ap (key_lt k) (tells_apart exact_bytes boundary e.0 same) ∙ past.0
      by_first true _ past false other rest = rest past.1 (among_rest other)
      by_first false low past true same rest = ap (key_lt k) (tells_apart exact_bytes boundary e.0 same) ∙ le_le e.0 b k low from
      by_first false low past false other rest = rest past (among_rest other)

  -- the first boundary above a key, what it has, and the boundaries above it
  upper-first : (d : X) (es : List (List ℕ × X)) (b boundary : List ℕ) → IsRising es → first (filter (key_lt b) (keys_of es)) ≡ Some boundary
      → upper b es ≡ (boundary, held_from d es boundary) ∷ upper boundary es
  upper-first d [] b boundary rising is = absurd (none-some boundary is)
  upper-first d (e ∷ es) b boundary rising is =
      by_first (key_lt b e.0) refl is (upper-first e.1 es b boundary (rising_rest e.0 e.1 es rising))
    where
      below : IsBelow e.0 es
      below = rising_below e.0 e.1 es rising

      skipped : key_lt boundary e.0 ≡ false
          → (boundary, cond (key_le e.0 boundary) (held_from e.1 es boundary) d) ∷ cond (key_lt boundary e.0) (e ∷ upper boundary es) (upper boundary es)
          ≡ (boundary, held_from e.1 es boundary) ∷ upper boundary es
      skipped here = λ i. (boundary, cond (not (here i)) (held_from e.1 es boundary) d) ∷ cond (here i) (e ∷ upper boundary es) (upper boundary es)

      by_first : (t : Bool) → key_lt b e.0 ≡ t
          → first (cond t (e.0 ∷ filter (key_lt b) (keys_of es)) (filter (key_lt b) (keys_of es))) ≡ Some boundary
          → (first (filter (key_lt b) (keys_of es)) ≡ Some boundary → upper b es ≡ (boundary, held_from e.1 es boundary) ∷ upper boundary es)
          → cond t (e ∷ upper b es) (upper b es)
          ≡ (boundary, cond (key_le e.0 boundary) (held_from e.1 es boundary) d) ∷ cond (key_lt boundary e.0) (e ∷ upper boundary es) (upper boundary es)
      by_first true above is rest =
          let same : e.0 ≡ boundary = same_Some e.0 boundary is in
          let here : key_lt boundary e.0 ≡ false = ap (λ k. key_lt k e.0) (sym same) ∙ irreflexive e.0 in
          let under : IsBelow boundary es = subst (λ k. IsBelow k es) same below in
          (λ i. (same i, e.1) ∷ upper-all b es (below_lower b e.0 es above below) i)
          ∙ sym (skipped here ∙ (λ i. (boundary, held_below e.1 es boundary under i) ∷ upper-all boundary es under i))
      by_first false past is rest =
          let here : key_lt boundary e.0 ≡ false = above_not_below e.0 boundary (le_lt e.0 b boundary past (first_above b boundary (keys_of es) is)) in
          rest is ∙ sym (skipped here)

-- ---- which keys the ranges have

segment : (is_member below_begin below_end rest : Bool) → (below_begin ≡ true → below_end ≡ true)
    → ((is_member && (not below_begin && below_end)) || cond below_end false rest)
    ≡ cond below_begin false (cond (not below_end) rest is_member)
segment true true true rest lower = refl
segment false true true rest lower = refl
segment is_member true false rest lower = absurd (false≢true (lower refl))
segment true false true rest lower = refl
segment false false true rest lower = refl
segment true false false rest lower = refl
segment false false false rest lower = refl

module _ (k : List ℕ) where
  covers_from : (b : List ℕ) (m : Membership) (es : List (List ℕ × Membership)) → IsBelow b es → IsRising es
      → ((q : List ℕ) → key_lt q b ≡ false → IsPast q es → (held_from m es q).0 ≡ false)
      → covers (ranges_from b m es) k ≡ cond (key_lt k b) false (held_from m es k).0
  covers_from b m [] below rising closed =
      elim (key_lt k b) as (λ t. false ≡ cond t false m.0) [ true ↦ refl | false ↦ sym (closed b (irreflexive b) tt) ]
  covers_from b m (e ∷ es) below rising closed =
      opened m.0
      ∙ ap (λ t. (m.0 && within b e.0 k) || t)
      (covers_from e.0 e.1 es (rising_below e.0 e.1 es rising) (rising_rest e.0 e.1 es rising) closed_rest)
      ∙ segment m.0 (key_lt k b) (key_lt k e.0) (held_from e.1 es k).0 (λ low. lt_trans k b e.0 low below.0)
      ∙ ap (cond (key_lt k b) false) (split (key_lt k e.0))
    where
      opened : (t : Bool) → covers (cond t (range_from b e.0 ∷ ranges_from e.0 e.1 es) (ranges_from e.0 e.1 es)) k
          ≡ ((t && within b e.0 k) || covers (ranges_from e.0 e.1 es) k)
      opened true = refl
      opened false = refl

      closed_rest : (q : List ℕ) → key_lt q e.0 ≡ false → IsPast q es → (held_from e.1 es q).0 ≡ false
      closed_rest q from past =
          sym (ap (λ t. (cond (not t) (held_from e.1 es q) m).0) from)
          ∙ closed q (above_not_below b q (lt_le b e.0 q below.0 from)) (from, past)

      split : (t : Bool) → cond (not t) (held_from e.1 es k).0 m.0 ≡ (cond (not t) (held_from e.1 es k) m).0
      split true = refl
      split false = refl

-- the ranges from a key on have the keys of the set that are not below it
pub covers-left_from : (members : Boundaries Membership) (begin key : List ℕ) → IsSound members
    → covers (left_from members begin) key ≡ cond (key_lt key begin) false (held members key).0
covers-left_from members begin key sound =
    covers_from key begin (held members begin) (upper begin members.entries) (below-upper begin members.entries)
    (rising-upper begin members.entries sound.rising)
    (λ q from past. ap (λ m. m.0) (held-upper members.base members.entries begin q sound.rising from)
    ∙ sound.above q (λ boundary among. past_all begin q boundary members.entries from past among))
    ∙ by_key (key_lt key begin) refl
  where
    by_key : (t : Bool) → key_lt key begin ≡ t
        → cond t false (held_from (held members begin) (upper begin members.entries) key).0 ≡ cond t false (held members key).0
    by_key true _ = refl
    by_key false from = ap (λ m. m.0) (held-upper members.base members.entries begin key sound.rising from)

-- the ranges of a set have its keys
pub covers-ranges_of : (members : Boundaries Membership) → IsSound members → (key : List ℕ) → covers (ranges_of members) key ≡ (held members key).0
covers-ranges_of members sound key =
    covers-left_from members [] key sound ∙ ap (λ t. cond t false (held members key).0) (lowest key)

-- ---- the ranges lie apart

from-ranges_from : (a b : List ℕ) (m : Membership) (es : List (List ℕ × Membership)) → key_lt b a ≡ false → IsBelow b es → IsRising es
    → AreFrom a (ranges_from b m es)
from-ranges_from a b m [] from below rising = tt
from-ranges_from a b m (e ∷ es) from below rising =
    let rest = from-ranges_from a e.0 e.1 es (above_not_below a e.0 (le_lt a b e.0 from below.0)) (rising_below e.0 e.1 es rising)
    (rising_rest e.0 e.1 es rising) in
    elim m.0 as (λ t. AreFrom a (cond t (range_from b e.0 ∷ ranges_from e.0 e.1 es) (ranges_from e.0 e.1 es))) [
      | true ↦ (ap not from, rest)
      | false ↦ rest
    ]

apart-ranges_from : (b : List ℕ) (m : Membership) (es : List (List ℕ × Membership)) → IsBelow b es → IsRising es
    → AreApart (ranges_from b m es)
apart-ranges_from b m [] below rising = tt
apart-ranges_from b m (e ∷ es) below rising =
    let under = rising_below e.0 e.1 es rising in
    let rest = apart-ranges_from e.0 e.1 es under (rising_rest e.0 e.1 es rising) in
    elim m.0 as (λ t. AreApart (cond t (range_from b e.0 ∷ ranges_from e.0 e.1 es) (ranges_from e.0 e.1 es))) [
      | true ↦ (below.0, from-ranges_from e.0 e.0 e.1 es (irreflexive e.0) under (rising_rest e.0 e.1 es rising), rest)
      | false ↦ rest
    ]

pub apart-ranges_of : (members : Boundaries Membership) → IsSound members → AreApart (ranges_of members)
apart-ranges_of members sound =
    apart-ranges_from [] (held members []) (upper [] members.entries) (below-upper [] members.entries)
    (rising-upper [] members.entries sound.rising)

-- ---- there are no more ranges than boundaries

length-ranges_from : (b : List ℕ) (m : Membership) (es : List (List ℕ × Membership)) → length (ranges_from b m es) ≤ length es
length-ranges_from b m [] = omega arith
length-ranges_from b m (e ∷ es) =
    let rest = length-ranges_from e.0 e.1 es in
    elim m.0 as (λ t. length (cond t (range_from b e.0 ∷ ranges_from e.0 e.1 es) (ranges_from e.0 e.1 es)) ≤ suc (length es)) [
      | true ↦ omega (arith, rest)
      | false ↦ omega (arith, rest)
    ]

length-upper : {X : Type 0} (key : List ℕ) (es : List (List ℕ × X)) → length (upper key es) ≤ length es
length-upper key [] = omega arith
length-upper key (e ∷ es) =
    let rest = length-upper key es in
    elim (key_lt key e.0) as (λ t. length (cond t (e ∷ upper key es) (upper key es)) ≤ suc (length es)) [
      | true ↦ omega (arith, rest)
      | false ↦ omega (arith, rest)
    ]

pub length-ranges_of : (members : Boundaries Membership) → length (ranges_of members) ≤ length members.entries
length-ranges_of members =
    let ranges = length-ranges_from [] (held members []) (upper [] members.entries) in
    let boundaries = length-upper [] members.entries in
    omega (arith, ranges, boundaries)

-- ---- the boundaries that are left

pub fewer_boundaries : {X : Type 0} (boundaries : Boundaries X) (begin boundary : List ℕ) → IsRising boundaries.entries
    → first (filter (key_lt begin) (boundaries_of boundaries)) ≡ Some boundary
    → length (filter (key_lt boundary) (boundaries_of boundaries)) < length (filter (key_lt begin) (boundaries_of boundaries))
fewer_boundaries boundaries begin boundary rising is =
    let left = ap (λ ks. length ks) (sym (keys_of-upper begin boundaries.entries)
    ∙ ap keys_of (upper-first boundaries.base boundaries.entries begin boundary rising is)
    ∙ ap (λ ks. boundary ∷ ks) (keys_of-upper boundary boundaries.entries)) in
    omega (arith, left)
