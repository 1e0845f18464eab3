-- Boundaries whose things lie at places in a list: what becomes of them where a boundary comes in or goes, and where a thing
-- changes.
use Rattle.std.proofs.Common.{◌≡◌, ◌≢◌, ◌⊎◌, inl, inr, ℕ, ◌+◌, ◌<◌, Bool, true, false, cond, List, [], ◌∷◌, ◌++◌, length, length-append, get_or, take, Some, refl, sym, ap, subst, ◌∙◌, arith}
use Rattle.std.proofs.Math.ListN.{set}
use Rattle.std.proofs.Math.Seq.{get_or-append_seam}
use Rattle.std.proofs.lemmas.List.{get_or_append_left, get_or-set_same, get_or-set_other, get_or-take, length-set, length-take-le}
use Rattle.std.proofs.lemmas.Option.{same_Some, none-some}
use Rattle.std.proofs.lemmas.Map.Lookups.{exact_bytes}
use Rattle.std.proofs.lemmas.Map.Views.{tells_apart}
use Rattle.std.specs.BTreeMap.{insert_entry, is_at}
use Rattle.std.specs.List.{filter}
use Rattle.std.specs.Map.{lookup, remove_entry}
use Rattle.std.specs.Option.{option_map}
use Rattle.std.specs.Ordering.{match_ordering}
use Rattle.std.specs.declared.cmp.Ordering.{Ordering}
use Rattle.std.specs.declared.cmp.Ordering.TheVariants.{Less, Equal, Greater}
use Rattle.key_bytes.specs.Keys.{key_cmp}
use Rattle.range_map.specs.Boundaries.{changed_entries}
use Rattle.range_map.specs.Places.{laid_out, IsFree, AreApart, AreInside, HasPlaces}
use Rattle.range_map.proofs.Bounded.{changed_none, none_at}
use Rattle.range_map.proofs.Held.{IsRising, rising_below, rising_rest}

abbrev pub Places : Type 0
Places = List (List ℕ × ℕ)

-- ---- places alone

more_inside : (len : ℕ) (es : Places) → AreInside len es → AreInside (len + 1) es
more_inside len [] inside = tt
more_inside len (e ∷ es) inside = (omega (arith, inside.0), more_inside len es inside.1)

free_past : (len : ℕ) (es : Places) → AreInside len es → IsFree len es
free_past len [] inside = tt
free_past len (e ∷ es) inside = ((λ same. absurd (omega (arith, inside.0, same))), free_past len es inside.1)

-- a place that a boundary has is not free
taken_apart : (test : List ℕ → Bool) (free place : ℕ) (es : Places) → IsFree free es → lookup test es ≡ Some place → place ≢ free
taken_apart test free place [] lacks found = absurd (none-some place found)
taken_apart test free place (e ∷ es) lacks found = by_first (test e.0) refl (taken_apart test free place es lacks.1)
  where
    by_first : (t : Bool) → test e.0 ≡ t → (lookup test es ≡ Some place → place ≢ free) → place ≢ free
    by_first true is rest =
        let same : e.1 ≡ place = same_Some _ _ (sym (ap (λ t. cond t (Some e.1) (lookup test es)) is) ∙ found) in
        λ equal. lacks.0 (same ∙ equal)
    by_first false is rest = rest (sym (ap (λ t. cond t (Some e.1) (lookup test es)) is) ∙ found)

pub inside_found : (test : List ℕ → Bool) (len place : ℕ) (es : Places) → AreInside len es → lookup test es ≡ Some place → place < len
inside_found test len place [] inside found = absurd (none-some place found)
inside_found test len place (e ∷ es) inside found = by_first (test e.0) refl (inside_found test len place es inside.1)
  where
    by_first : (t : Bool) → test e.0 ≡ t → (lookup test es ≡ Some place → place < len) → place < len
    by_first true is rest =
        let same : e.1 ≡ place = same_Some _ _ (sym (ap (λ t. cond t (Some e.1) (lookup test es)) is) ∙ found) in
        omega (arith, inside.0, same)
    by_first false is rest = rest (sym (ap (λ t. cond t (Some e.1) (lookup test es)) is) ∙ found)

-- ---- a thing changes

module _ {X : Type 0} (base : X) where
  laid_out-free : (place : ℕ) (x : X) (levels : List X) (es : Places) → IsFree place es
      → laid_out base (set levels place x) es ≡ laid_out base levels es
  laid_out-free place x levels [] free = refl
  laid_out-free place x levels (e ∷ es) free =
      λ i. (e.0, get_or-set_other levels place e.1 x base free.0 i) ∷ laid_out-free place x levels es free.1 i

  -- what a boundary has lies at its place
  pub lookup-laid_out : (test : List ℕ → Bool) (levels : List X) (es : Places)
      → lookup test (laid_out base levels es) ≡ option_map (λ place. get_or levels place base) (lookup test es)
  lookup-laid_out test levels [] = refl
  lookup-laid_out test levels (e ∷ es) = elim (test e.0)
      as (λ t. cond t (Some (get_or levels e.1 base)) (lookup test (laid_out base levels es))
      ≡ option_map (λ place. get_or levels place base) (cond t (Some e.1) (lookup test es))) [
        | true ↦ refl
        | false ↦ lookup-laid_out test levels es
      ]

  -- a write at the place of one boundary changes what this boundary has
  pub laid_out-set : (key : List ℕ) (x : X) (levels : List X) (place : ℕ) (es : Places) → IsRising es → AreApart es
      → place < length levels → lookup (is_at (key_cmp key)) es ≡ Some place
      → laid_out base (set levels place x) es ≡ changed_entries (is_at (key_cmp key)) (λ _. x) (laid_out base levels es)
  laid_out-set key x levels place [] rising apart inside found = absurd (none-some place found)
  laid_out-set key x levels place (e ∷ es) rising apart inside found =
      by_first (is_at (key_cmp key) e.0) refl (laid_out-set key x levels place es (rising_rest e.0 e.1 es rising) apart.1 inside)
    where
      here : (t : Bool) → is_at (key_cmp key) e.0 ≡ t → cond t (Some e.1) (lookup (is_at (key_cmp key)) es) ≡ Some place
      here t is = sym (ap (λ t. cond t (Some e.1) (lookup (is_at (key_cmp key)) es)) is) ∙ found

      by_first : (t : Bool) → is_at (key_cmp key) e.0 ≡ t
          → (lookup (is_at (key_cmp key)) es ≡ Some place
          → laid_out base (set levels place x) es ≡ changed_entries (is_at (key_cmp key)) (λ _. x) (laid_out base levels es))
          → (e.0, get_or (set levels place x) e.1 base) ∷ laid_out base (set levels place x) es
          ≡ (e.0, cond t x (get_or levels e.1 base)) ∷ changed_entries (is_at (key_cmp key)) (λ _. x) (laid_out base levels es)
      by_first true is rest =
          let same : e.1 ≡ place = same_Some _ _ (here true is) in
          let free : IsFree place es = subst (λ p. IsFree p es) same apart.0 in
          let none = none_at e.0 es (rising_below e.0 e.1 es rising) key (tells_apart exact_bytes key e.0 is) in
          let head : get_or (set levels place x) e.1 base ≡ x =
          ap (λ p. get_or (set levels place x) p base) same ∙ get_or-set_same levels place x base inside in
          let tail = laid_out-free place x levels es free
          ∙ sym (changed_none key (λ _. x) (laid_out base levels es)
          (lookup-laid_out (is_at (key_cmp key)) levels es ∙ ap (option_map (λ place. get_or levels place base)) none)) in
          λ i. (e.0, head i) ∷ tail i
      by_first false is rest =
          let found_later = here false is in
          let other : e.1 ≢ place = λ same. taken_apart (is_at (key_cmp key)) e.1 place es apart.0 found_later (sym same) in
          λ i. (e.0, get_or-set_other levels place e.1 x base other i) ∷ rest found_later i

  -- ---- the things of several boundaries change, one after the other

  abbrev pub set_all : (X → X) → Places → List X → List X
  set_all f [] levels = levels
  set_all f (e ∷ es) levels = set_all f es (set levels e.1 (f (get_or levels e.1 base)))

  module _ (p : List ℕ → Bool) (f : X → X) where
    abbrev passing : Places → Places
    passing es = filter (λ e. p e.0) es

    get_or-set_all : (place : ℕ) (es : Places) (levels : List X) → IsFree place es
        → get_or (set_all f (passing es) levels) place base ≡ get_or levels place base
    get_or-set_all place [] levels free = refl
    get_or-set_all place (e ∷ es) levels free = by_first (p e.0) (λ levels. get_or-set_all place es levels free.1)
      where
        by_first : (t : Bool) → ((levels : List X) → get_or (set_all f (passing es) levels) place base ≡ get_or levels place base)
            → get_or (set_all f (cond t (e ∷ passing es) (passing es)) levels) place base ≡ get_or levels place base
        by_first true rest =
            rest (set levels e.1 (f (get_or levels e.1 base)))
            ∙ get_or-set_other levels e.1 place (f (get_or levels e.1 base)) base (λ same. free.0 (sym same))
        by_first false rest = rest levels

    pub laid_out-set_all : (es : Places) (levels : List X) → AreApart es → AreInside (length levels) es
        → laid_out base (set_all f (passing es) levels) es ≡ changed_entries p f (laid_out base levels es)
    laid_out-set_all [] levels apart inside = refl
    laid_out-set_all (e ∷ es) levels apart inside =
        by_first (p e.0) (λ levels inside. laid_out-set_all es levels apart.1 inside)
      where
        by_first : (t : Bool)
            → ((levels : List X) → AreInside (length levels) es
            → laid_out base (set_all f (passing es) levels) es ≡ changed_entries p f (laid_out base levels es))
            → laid_out base (set_all f (cond t (e ∷ passing es) (passing es)) levels) (e ∷ es)
            ≡ (e.0, cond t (f (get_or levels e.1 base)) (get_or levels e.1 base)) ∷ changed_entries p f (laid_out base levels es)
        by_first true rest =
            let head = get_or-set_all e.1 es (set levels e.1 (f (get_or levels e.1 base))) apart.0
            ∙ get_or-set_same levels e.1 (f (get_or levels e.1 base)) base inside.0 in
            let same = sym (length-set levels e.1 (f (get_or levels e.1 base))) in
            let tail = rest (set levels e.1 (f (get_or levels e.1 base))) (subst (λ n. AreInside n es) same inside.1)
            ∙ ap (changed_entries p f) (laid_out-free e.1 (f (get_or levels e.1 base)) levels es apart.0) in
            λ i. (e.0, head i) ∷ tail i
        by_first false rest = λ i. (e.0, get_or-set_all e.1 es levels apart.0 i) ∷ rest levels inside.1 i

  -- ---- a boundary comes in

  laid_out-more : (levels : List X) (x : X) (es : Places) → AreInside (length levels) es
      → laid_out base (levels ++ x ∷ []) es ≡ laid_out base levels es
  laid_out-more levels x [] inside = refl
  laid_out-more levels x (e ∷ es) inside =
      λ i. (e.0, get_or_append_left levels (x ∷ []) base e.1 inside.0 i) ∷ laid_out-more levels x es inside.1 i

  -- a new boundary's thing lies at the end
  pub laid_out-inserted : (key : List ℕ) (x : X) (levels : List X) (es : Places) → AreInside (length levels) es
      → laid_out base (levels ++ x ∷ []) (insert_entry key_cmp es key (length levels))
      ≡ insert_entry key_cmp (laid_out base levels es) key x
  laid_out-inserted key x levels [] inside = λ i. (key, get_or-append_seam levels x [] base i) ∷ []
  laid_out-inserted key x levels (e ∷ es) inside =
      by_order (key_cmp key e.0) (laid_out-inserted key x levels es inside.1)
    where
      new : get_or (levels ++ x ∷ []) (length levels) base ≡ x
      new = get_or-append_seam levels x [] base

      first : get_or (levels ++ x ∷ []) e.1 base ≡ get_or levels e.1 base
      first = get_or_append_left levels (x ∷ []) base e.1 inside.0

      by_order : (o : Ordering)
          → laid_out base (levels ++ x ∷ []) (insert_entry key_cmp es key (length levels))
          ≡ insert_entry key_cmp (laid_out base levels es) key x
          → laid_out base (levels ++ x ∷ [])
          (match_ordering o ((key, length levels) ∷ e ∷ es) ((e.0, length levels) ∷ es) (e ∷ insert_entry key_cmp es key (length levels)))
          ≡ match_ordering o ((key, x) ∷ (e.0, get_or levels e.1 base) ∷ laid_out base levels es) ((e.0, x) ∷ laid_out base levels es)
          ((e.0, get_or levels e.1 base) ∷ insert_entry key_cmp (laid_out base levels es) key x)
      by_order Less rest = λ i. (key, new i) ∷ (e.0, first i) ∷ laid_out-more levels x es inside.1 i
      by_order Equal rest = λ i. (e.0, new i) ∷ laid_out-more levels x es inside.1 i
      by_order Greater rest = λ i. (e.0, first i) ∷ rest i

inside_inserted : (key : List ℕ) (len : ℕ) (es : Places) → AreInside len es → AreInside (len + 1) (insert_entry key_cmp es key len)
inside_inserted key len [] inside = (omega arith, tt)
inside_inserted key len (e ∷ es) inside = by_order (key_cmp key e.0) (inside_inserted key len es inside.1)
  where
    by_order : (o : Ordering) → AreInside (len + 1) (insert_entry key_cmp es key len)
        → AreInside (len + 1) (match_ordering o ((key, len) ∷ e ∷ es) ((e.0, len) ∷ es) (e ∷ insert_entry key_cmp es key len))
    by_order Less rest = (omega arith, (omega (arith, inside.0), more_inside len es inside.1))
    by_order Equal rest = (omega arith, more_inside len es inside.1)
    by_order Greater rest = (omega (arith, inside.0), rest)

free_inserted : (key : List ℕ) (place len : ℕ) (es : Places) → place < len → IsFree place es
    → IsFree place (insert_entry key_cmp es key len)
free_inserted key place len [] lower free = ((λ same. absurd (omega (arith, lower, same))), tt)
free_inserted key place len (e ∷ es) lower free = by_order (key_cmp key e.0) (free_inserted key place len es lower free.1)
  where
    other : len ≢ place
    other same = absurd (omega (arith, lower, same))

    by_order : (o : Ordering) → IsFree place (insert_entry key_cmp es key len)
        → IsFree place (match_ordering o ((key, len) ∷ e ∷ es) ((e.0, len) ∷ es) (e ∷ insert_entry key_cmp es key len))
    by_order Less rest = (other, free)
    by_order Equal rest = (other, free.1)
    by_order Greater rest = (free.0, rest)

apart_inserted : (key : List ℕ) (len : ℕ) (es : Places) → AreInside len es → AreApart es → AreApart (insert_entry key_cmp es key len)
apart_inserted key len [] inside apart = (tt, tt)
apart_inserted key len (e ∷ es) inside apart = by_order (key_cmp key e.0) (apart_inserted key len es inside.1 apart.1)
  where
    by_order : (o : Ordering) → AreApart (insert_entry key_cmp es key len)
        → AreApart (match_ordering o ((key, len) ∷ e ∷ es) ((e.0, len) ∷ es) (e ∷ insert_entry key_cmp es key len))
    by_order Less rest = (free_past len (e ∷ es) inside, apart)
    by_order Equal rest = (free_past len es inside.1, apart.1)
    by_order Greater rest = (free_inserted key e.1 len es inside.0 apart.0, rest)

-- a thing came in at the end, and a boundary that names its place
module _ {X : Type 0} (key : List ℕ) (x : X) (levels more : List X) (es new : Places) (place : ℕ) (longer : more ≡ levels ++ x ∷ [])
    (at_end : place ≡ length levels) (is : new ≡ insert_entry key_cmp es key place) (has : HasPlaces (length levels) es) where
  named : new ≡ insert_entry key_cmp es key (length levels)
  named = is ∙ ap (insert_entry key_cmp es key) at_end

  pub places_added : IsRising new → HasPlaces (length more) new
  places_added rising =
      let len : length more ≡ length levels + 1 = ap length longer ∙ length-append levels (x ∷ []) in
      record {
        rising = rising;
        inside = subst (λ n. AreInside n new) (sym len)
            (subst (AreInside (length levels + 1)) (sym named) (inside_inserted key (length levels) es has.inside));
        apart = subst AreApart (sym named) (apart_inserted key (length levels) es has.inside has.apart);
      }

  pub laid_out-added : (base : X) → laid_out base more new ≡ insert_entry key_cmp (laid_out base levels es) key x
  laid_out-added base =
      (λ i. laid_out base (longer i) (named i)) ∙ laid_out-inserted base key x levels es has.inside

-- ---- a boundary goes

inside_less : (len : ℕ) (es : Places) → AreInside (len + 1) es → IsFree len es → AreInside len es
inside_less len [] inside free = tt
inside_less len (e ∷ es) inside free = (omega (arith, inside.0, free.0), inside_less len es inside.1 free.1)

module _ (test : List ℕ → Bool) where
  inside_removed : (len : ℕ) (es : Places) → AreInside len es → AreInside len (remove_entry test es)
  inside_removed len [] inside = tt
  inside_removed len (e ∷ es) inside =
      elim (test e.0) as (λ t. AreInside len (cond t es (e ∷ remove_entry test es))) [
        | true ↦ inside.1
        | false ↦ (inside.0, inside_removed len es inside.1)
      ]

  free_removed : (place : ℕ) (es : Places) → IsFree place es → IsFree place (remove_entry test es)
  free_removed place [] free = tt
  free_removed place (e ∷ es) free =
      elim (test e.0) as (λ t. IsFree place (cond t es (e ∷ remove_entry test es))) [
        | true ↦ free.1
        | false ↦ (free.0, free_removed place es free.1)
      ]

  apart_removed : (es : Places) → AreApart es → AreApart (remove_entry test es)
  apart_removed [] apart = tt
  apart_removed (e ∷ es) apart =
      elim (test e.0) as (λ t. AreApart (cond t es (e ∷ remove_entry test es))) [
        | true ↦ apart.1
        | false ↦ (free_removed e.1 es apart.0, apart_removed es apart.1)
      ]

  -- the place of the boundary that went is free
  removed_free : (place : ℕ) (es : Places) → AreApart es → lookup test es ≡ Some place → IsFree place (remove_entry test es)
  removed_free place [] apart found = absurd (none-some place found)
  removed_free place (e ∷ es) apart found = by_first (test e.0) refl (removed_free place es apart.1)
    where
      here : (t : Bool) → test e.0 ≡ t → cond t (Some e.1) (lookup test es) ≡ Some place
      here t is = sym (ap (λ t. cond t (Some e.1) (lookup test es)) is) ∙ found

      by_first : (t : Bool) → test e.0 ≡ t → (lookup test es ≡ Some place → IsFree place (remove_entry test es))
          → IsFree place (cond t es (e ∷ remove_entry test es))
      by_first true is rest = subst (λ p. IsFree p es) (same_Some _ _ (here true is)) apart.0
      by_first false is rest =
          let later = here false is in
          ((λ same. taken_apart test e.1 place es apart.0 later (sym same)), rest later)

  pub laid_out-removed : {X : Type 0} (base : X) (levels : List X) (es : Places)
      → laid_out base levels (remove_entry test es) ≡ remove_entry test (laid_out base levels es)
  laid_out-removed base levels [] = refl
  laid_out-removed base levels (e ∷ es) =
      elim (test e.0) as (λ t. laid_out base levels (cond t es (e ∷ remove_entry test es))
      ≡ cond t (laid_out base levels es) ((e.0, get_or levels e.1 base) ∷ remove_entry test (laid_out base levels es))) [
        | true ↦ refl
        | false ↦ ap (λ es. (e.0, get_or levels e.1 base) ∷ es) (laid_out-removed base levels es)
      ]

-- where its place was the last one, the others lie before it
inside_popped : (test : List ℕ → Bool) (len : ℕ) (es : Places) → HasPlaces (len + 1) es → lookup test es ≡ Some len
    → AreInside len (remove_entry test es)
inside_popped test len es has found =
    inside_less len (remove_entry test es) (inside_removed test (len + 1) es has.inside) (removed_free test len es has.apart found)

pub laid_out-popped : {X : Type 0} (base : X) (n : ℕ) (levels : List X) (es : Places) → AreInside n es
    → laid_out base (take n levels) es ≡ laid_out base levels es
laid_out-popped base n levels [] inside = refl
laid_out-popped base n levels (e ∷ es) inside =
    λ i. (e.0, get_or-take n levels e.1 base inside.0 i) ∷ laid_out-popped base n levels es inside.1 i

-- ---- a boundary went, and what it had where that lay last

module _ {X : Type 0} (test : List ℕ → Bool) (levels left : List X) (es new : Places) (place : ℕ)
    (went : (left ≡ levels) ⊎ ((place + 1 ≡ length levels) × (left ≡ take place levels)))
    (is : new ≡ remove_entry test es) (found : lookup test es ≡ Some place) (has : HasPlaces (length levels) es) where
  pub places_left : IsRising new → HasPlaces (length left) new
  places_left rising = record {
    rising = rising;
    inside = subst (AreInside (length left)) (sym is) (by_case went);
    apart = subst AreApart (sym is) (apart_removed test es has.apart);
  }
    where
      by_case : (left ≡ levels) ⊎ ((place + 1 ≡ length levels) × (left ≡ take place levels))
          → AreInside (length left) (remove_entry test es)
      by_case (inl same) =
          subst (λ left. AreInside (length left) (remove_entry test es)) (sym same)
          (inside_removed test (length levels) es has.inside)
      by_case (inr (last, front)) =
          let len : length left ≡ place = ap length front ∙ length-take-le place levels (omega (arith, last)) in
          subst (λ n. AreInside n (remove_entry test es)) (sym len)
          (inside_popped test place es (subst (λ n. HasPlaces n es) (sym last) has) found)

  pub laid_out-left : (base : X) → laid_out base left new ≡ remove_entry test (laid_out base levels es)
  laid_out-left base = ap (laid_out base left) is ∙ by_case went ∙ laid_out-removed test base levels es
    where
      by_case : (left ≡ levels) ⊎ ((place + 1 ≡ length levels) × (left ≡ take place levels))
          → laid_out base left (remove_entry test es) ≡ laid_out base levels (remove_entry test es)
      by_case (inl same) = ap (λ left. laid_out base left (remove_entry test es)) same
      by_case (inr (last, front)) =
          ap (λ left. laid_out base left (remove_entry test es)) front
          ∙ laid_out-popped base place levels (remove_entry test es)
          (inside_popped test place es (subst (λ n. HasPlaces n es) (sym last) has) found)
