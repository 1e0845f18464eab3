-- The first two boundaries from a key on.
use Rattle.std.proofs.Common.{◌≡◌, ℕ, Bool, true, false, cond, ◌&&◌, List, [], ◌∷◌, Some, is_some, refl, sym, ap, ◌∙◌}
use Rattle.std.proofs.lemmas.Bool.{false≢true}
use Rattle.std.specs.BTreeMap.{is_at}
use Rattle.std.specs.BTreeMap.Range.{range_contains}
use Rattle.std.specs.List.{filter}
use Rattle.std.specs.Map.{lookup}
use Rattle.std.specs.declared.ops.Bound.TheVariants.{Included, Unbounded}
use Rattle.key_bytes.specs.Keys.{key_cmp, key_le}
use Rattle.key_map.proofs.Spans.{range_contains-from}
use Rattle.range_map.specs.Boundaries.{Boundaries, is_boundary}
use Rattle.range_map.specs.FirstTwo.{are_first_two}
use Rattle.range_map.specs.Places.{laid_out}
use Rattle.range_map.proofs.Held.{is_among}
use Rattle.range_map.proofs.Placed.{Places}
use Rattle.range_map.proofs.Spans.{laid_out-filter}

module _ (begin end : List ℕ) where
  -- ---- what the places from the key on tell

  pub first_other : (e : List ℕ × ℕ) (es : Places) → is_at (key_cmp begin) e.0 ≡ false → are_first_two begin end (e ∷ es) ≡ false
  first_other e [] other = refl
  first_other e (d ∷ es) other = ap (λ t. t && is_at (key_cmp end) d.0) other

  pub first_then : (e d : List ℕ × ℕ) (es : Places) → is_at (key_cmp begin) e.0 ≡ true
      → are_first_two begin end (e ∷ d ∷ es) ≡ is_at (key_cmp end) d.0
  first_then e d es same = ap (λ t. t && is_at (key_cmp end) d.0) same

  module _ {X : Type 0} (base : X) (levels : List X) where
    first_two-laid_out : (es : Places) → are_first_two begin end (laid_out base levels es) ≡ are_first_two begin end es
    first_two-laid_out [] = refl
    first_two-laid_out (e ∷ []) = refl
    first_two-laid_out (e ∷ d ∷ es) = refl

    pub first_two-found : (es span : Places) → span ≡ filter (λ e. range_contains key_cmp (Included begin) Unbounded e.0) es
        → are_first_two begin end span ≡ are_first_two begin end (filter (λ e. key_le begin e.0) (laid_out base levels es))
    first_two-found es span between =
        ap (are_first_two begin end) (between ∙ (λ i. filter (λ e. range_contains-from begin e.0 i) es))
        ∙ sym (first_two-laid_out (filter (λ e. key_le begin e.0) es))
        ∙ ap (are_first_two begin end) (laid_out-filter base levels (key_le begin) es)

  -- ---- both are boundaries

  module _ {X : Type 0} where
    among_first_two : (es : List (List ℕ × X)) → are_first_two begin end es ≡ true → (is_among begin es ≡ true) × (is_among end es ≡ true)
    among_first_two [] both = absurd (false≢true both)
    among_first_two (b ∷ []) both = absurd (false≢true both)
    among_first_two (b ∷ e ∷ es) both = by_both (is_at (key_cmp begin) b.0) (is_at (key_cmp end) e.0) both
      where
        by_both : (s t : Bool) → (s && t) ≡ true
            → (is_some (cond s (Some b.1) (lookup (is_at (key_cmp begin)) (e ∷ es))) ≡ true)
            × (is_some (cond (is_at (key_cmp end) b.0) (Some b.1) (cond t (Some e.1) (lookup (is_at (key_cmp end)) es))) ≡ true)
        by_both true true both = (
          refl,
          elim (is_at (key_cmp end) b.0)
              as (λ t. is_some (cond t (Some b.1) (Some e.1)) ≡ true) [ true ↦ refl | false ↦ refl ],
        )
        by_both true false both = absurd (false≢true both)
        by_both false t both = absurd (false≢true both)

    among_filter : (k : List ℕ) (p : List ℕ → Bool) (es : List (List ℕ × X)) → is_among k (filter (λ e. p e.0) es) ≡ true → is_among k es ≡ true
    among_filter k p [] among = absurd (false≢true among)
    among_filter k p (e ∷ es) among = by_first (is_at (key_cmp k) e.0) (p e.0) refl among (among_filter k p es)
      where
        by_first : (s t : Bool) → is_at (key_cmp k) e.0 ≡ s
            → is_among k (cond t (e ∷ filter (λ e. p e.0) es) (filter (λ e. p e.0) es)) ≡ true
            → (is_among k (filter (λ e. p e.0) es) ≡ true → is_among k es ≡ true)
            → is_some (cond s (Some e.1) (lookup (is_at (key_cmp k)) es)) ≡ true
        by_first true t is among rest = refl
        by_first false true is among rest =
            rest (sym (ap (λ t. is_some (cond t (Some e.1) (lookup (is_at (key_cmp k)) (filter (λ e. p e.0) es)))) is) ∙ among)
        by_first false false is among rest = rest among

    -- where they are the first two from the begin on both are boundaries
    pub both_boundaries : (boundaries : Boundaries X) → are_first_two begin end (filter (λ e. key_le begin e.0) boundaries.entries) ≡ true
        → (is_boundary begin boundaries ≡ true) × (is_boundary end boundaries ≡ true)
    both_boundaries boundaries both =
        let among = among_first_two (filter (λ e. key_le begin e.0) boundaries.entries) both in (
          among_filter begin (key_le begin) boundaries.entries among.0,
          among_filter end (key_le begin) boundaries.entries among.1,
        )
