-- What the places from a key on tell: what the key has where it is a boundary, and the first boundary above it.
use Rattle.std.proofs.Common.{◌≡◌, ℕ, true, false, cond, List, [], ◌∷◌, None, Some, bytes_eq, refl, sym, ap, subst, ◌∙◌, true≢false}
use Rattle.std.proofs.Math.Bool.{and-true}
use Rattle.std.proofs.lemmas.Map.Lookups.{exact_bytes}
use Rattle.std.proofs.lemmas.Map.Text.{is_eq-slice_cmp}
use Rattle.std.proofs.lemmas.Map.Views.{tells_apart}
use Rattle.std.proofs.lemmas.Option.{same_Some, none-some}
use Rattle.std.specs.BTreeMap.{is_at}
use Rattle.std.specs.BTreeMap.Range.{range_contains}
use Rattle.std.specs.Cmp.{eq_by_cmp_equiv}
use Rattle.std.specs.Cmp.Lexicographic.{nat_list_cmp_total}
use Rattle.std.specs.List.{filter}
use Rattle.std.specs.Map.{keys_of, lookup}
use Rattle.std.specs.Ordering.{is_eq, is_le, is_lt}
use Rattle.std.specs.declared.cmp.Ordering.{Ordering}
use Rattle.std.specs.declared.cmp.Ordering.TheVariants.{Less, Equal, Greater}
use Rattle.std.specs.declared.ops.Bound.TheVariants.{Included, Unbounded}
use Rattle.key_bytes.specs.Keys.{key_cmp, key_lt}
use Rattle.key_bytes.proofs.Orders.{less}
use Rattle.key_map.specs.Ends.{first}
use Rattle.range_map.specs.Places.{laid_out}
use Rattle.range_map.proofs.Held.{IsBelow, IsRising, rising_below, rising_rest}
use Rattle.range_map.proofs.Placed.{Places}
use Rattle.range_map.proofs.Spans.{keys_of-laid_out}

-- a key compares as equal to a boundary that has the same text
pub same_text : (key boundary : List ℕ) → is_at (key_cmp key) boundary ≡ bytes_eq boundary key
same_text key boundary = (eq_by_cmp_equiv nat_list_cmp_total).symm key boundary ∙ is_eq-slice_cmp boundary key

module _ (k : List ℕ) where
  -- the places from the key on, and the boundaries above it
  abbrev from : Places → Places
  from es = filter (λ e. is_le (key_cmp k e.0)) es

  abbrev above : Places → List (List ℕ)
  above es = filter (key_lt k) (keys_of es)

  from_all : (es : Places) → IsBelow k es → keys_of (from es) ≡ above es
  from_all [] below = refl
  from_all (e ∷ es) below =
      ap (λ o. keys_of (cond (is_le o) (e ∷ from es) (from es))) (less (key_cmp k e.0) below.0)
      ∙ ap (λ ks. e.0 ∷ ks) (from_all es below.1)
      ∙ sym (ap (λ o. cond (is_lt o) (e.0 ∷ above es) (above es)) (less (key_cmp k e.0) below.0))

  abbrev behind : Places → Places
  behind [] = []
  behind (e ∷ es) = es

  same_first : (e d : List ℕ × ℕ) (es ds : Places) → e ∷ es ≡ d ∷ ds → e ≡ d
  same_first e d es ds same = same_Some e d (ap first same)

  -- the first place from the key on is that of the key
  is_there : (es : Places) (e : List ℕ × ℕ) (rest : Places) → IsRising es → from es ≡ e ∷ rest → is_at (key_cmp k) e.0 ≡ true
      → (lookup (is_at (key_cmp k)) es ≡ Some e.1) × (first (keys_of rest) ≡ first (above es))
  is_there [] e rest rising begins same = absurd (none-some e (ap first begins))
  is_there (d ∷ es) e rest rising begins same =
      by_order (key_cmp k d.0) refl begins (λ more. is_there es e rest (rising_rest d.0 d.1 es rising) more same)
    where
      by_order : (o : Ordering) → key_cmp k d.0 ≡ o → cond (is_le o) (d ∷ from es) (from es) ≡ e ∷ rest
          → (from es ≡ e ∷ rest → (lookup (is_at (key_cmp k)) es ≡ Some e.1) × (first (keys_of rest) ≡ first (above es)))
          → (cond (is_eq o) (Some d.1) (lookup (is_at (key_cmp k)) es) ≡ Some e.1)
          × (first (keys_of rest) ≡ first (cond (is_lt o) (d.0 ∷ above es) (above es)))
      by_order Less is found more =
          absurd (true≢false (sym same ∙ ap (λ e. is_at (key_cmp k) e.0) (sym (same_first d e (from es) rest found)) ∙ ap is_eq is))
      by_order Equal is found more =
          let here = tells_apart exact_bytes k d.0 (ap is_eq is) in
          let below = subst (λ k. IsBelow k es) (sym here) (rising_below d.0 d.1 es rising) in (
            ap (λ e. Some e.1) (same_first d e (from es) rest found),
            ap (λ es. first (keys_of (behind es))) (sym found) ∙ ap first (from_all es below),
          )
      by_order Greater is found more = more found

  -- the first place from the key on is that of another
  is_other : (es : Places) (e : List ℕ × ℕ) (rest : Places) → from es ≡ e ∷ rest → is_at (key_cmp k) e.0 ≡ false
      → Some e.0 ≡ first (above es)
  is_other [] e rest begins other = absurd (none-some e (ap first begins))
  is_other (d ∷ es) e rest begins other = by_order (key_cmp k d.0) refl begins (λ more. is_other es e rest more other)
    where
      by_order : (o : Ordering) → key_cmp k d.0 ≡ o → cond (is_le o) (d ∷ from es) (from es) ≡ e ∷ rest
          → (from es ≡ e ∷ rest → Some e.0 ≡ first (above es))
          → Some e.0 ≡ first (cond (is_lt o) (d.0 ∷ above es) (above es))
      by_order Less is found more = ap (λ e. Some e.0) (sym (same_first d e (from es) rest found))
      by_order Equal is found more =
          absurd (true≢false (sym (ap is_eq is) ∙ ap (λ e. is_at (key_cmp k) e.0) (same_first d e (from es) rest found) ∙ other))
      by_order Greater is found more = more found

  -- no place is from the key on
  is_past : (es : Places) → from es ≡ [] → None ≡ first (above es)
  is_past [] none = refl
  is_past (d ∷ es) none = by_order (key_cmp k d.0) none (is_past es)
    where
      by_order : (o : Ordering) → cond (is_le o) (d ∷ from es) (from es) ≡ [] → (from es ≡ [] → None ≡ first (above es))
          → None ≡ first (cond (is_lt o) (d.0 ∷ above es) (above es))
      by_order Less found more = absurd (none-some d (sym (ap first found)))
      by_order Equal found more = absurd (none-some d (sym (ap first found)))
      by_order Greater found more = more found

  module _ (es span : Places) (between : span ≡ filter (λ e. range_contains key_cmp (Included k) Unbounded e.0) es) where
    span_from : from es ≡ span
    span_from = (λ i. filter (λ e. sym (and-true (is_le (key_cmp k e.0))) i) es) ∙ sym between

    module _ {X : Type 0} (base : X) (levels : List X) where
      boundaries_above : first (above es) ≡ first (filter (key_lt k) (keys_of (laid_out base levels es)))
      boundaries_above = ap (λ ks. first (filter (key_lt k) ks)) (sym (keys_of-laid_out base levels es))

      pub above-there : (e : List ℕ × ℕ) (rest : Places) → IsRising es → span ≡ e ∷ rest → is_at (key_cmp k) e.0 ≡ true
          → (lookup (is_at (key_cmp k)) es ≡ Some e.1)
          × (first (keys_of rest) ≡ first (filter (key_lt k) (keys_of (laid_out base levels es))))
      above-there e rest rising begins same =
          let both = is_there es e rest rising (span_from ∙ begins) same in (both.0, both.1 ∙ boundaries_above)

      pub above-other : (e : List ℕ × ℕ) (rest : Places) → span ≡ e ∷ rest → is_at (key_cmp k) e.0 ≡ false
          → Some e.0 ≡ first (filter (key_lt k) (keys_of (laid_out base levels es)))
      above-other e rest begins other = is_other es e rest (span_from ∙ begins) other ∙ boundaries_above

      pub above-none : span ≡ [] → None ≡ first (filter (key_lt k) (keys_of (laid_out base levels es)))
      above-none none = is_past es (span_from ∙ none) ∙ boundaries_above
