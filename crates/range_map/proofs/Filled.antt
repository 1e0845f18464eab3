-- The boundaries of a row in a tree: each has the place that it had in the row.
use Rattle.std.proofs.Common.{◌≡◌, ℕ, suc, ◌+◌, ◌<◌, ◌≤◌, ◌==◌, List, [], ◌∷◌, ◌++◌, length, length-append, get_or, drop, refl, rules, sym, ap, subst, ◌∙◌, arith}
use Rattle.std.proofs.Math.Seq.{get_or-append_seam}
use Rattle.std.proofs.lemmas.List.{append_assoc, drop_more}
use Rattle.std.specs.BTreeMap.{insert_entry}
use Rattle.std.specs.Map.{keys_of, values_of}
use Rattle.std.specs.Ordering.{match_ordering}
use Rattle.key_bytes.specs.Keys.{key_cmp}
use Rattle.range_map.specs.Halves.{is_nil, placed}
use Rattle.range_map.specs.Places.{laid_out, IsFree, AreApart, AreInside, HasPlaces}
use Rattle.range_map.proofs.Held.{IsBelow, IsRising, rising_below}
use Rattle.range_map.proofs.Lined.{less, rising_drop}

module _ {X : Type 0} where
  -- ---- one boundary more, which is less than the others

  first_placed : (e : List ℕ × X) (es : List (List ℕ × X)) (n : ℕ) → IsBelow e.0 es
      → insert_entry key_cmp (placed (suc n) es) e.0 n ≡ (e.0, n) ∷ placed (suc n) es
  first_placed e [] n below = refl
  first_placed e (f ∷ es) n below =
      let rest = placed (suc (suc n)) es in
      ap (λ o. match_ordering o ((e.0, n) ∷ (f.0, suc n) ∷ rest) ((f.0, n) ∷ rest) ((f.0, suc n) ∷ insert_entry key_cmp rest e.0 n))
      (less (key_cmp e.0 f.0) below.0)

  pub placed_more : (es : List (List ℕ × X)) (n m : ℕ) (d : List ℕ × X) → IsRising es → n < length es → m ≡ n + 1
      → insert_entry key_cmp (placed m (drop m es)) (get_or es n d).0 n ≡ placed n (drop n es)
  placed_more es n m d rising inside next =
      let e = get_or es n d in
      let on : suc n ≡ n + 1 = omega arith in
      let begins : drop n es ≡ e ∷ drop (n + 1) es = drop_more es n d inside in
      let below = rising_below e.0 e.1 (drop (n + 1) es) (subst IsRising begins (rising_drop n es rising)) in
      (λ i. insert_entry key_cmp (placed ((next ∙ sym on) i) (drop (next i) es)) e.0 n)
      ∙ first_placed e (drop (n + 1) es) n below
      ∙ sym (ap (placed n) begins)

  -- ---- all boundaries of the row

  keys_of-placed : (n : ℕ) (es : List (List ℕ × X)) → keys_of (placed n es) ≡ keys_of es
  keys_of-placed n [] = refl
  keys_of-placed n (e ∷ es) = ap (λ ks. e.0 ∷ ks) (keys_of-placed (suc n) es)

  inside_placed : (len n : ℕ) (es : List (List ℕ × X)) → n + length es ≤ len → AreInside len (placed n es)
  inside_placed len n [] fits = tt
  inside_placed len n (e ∷ es) fits = (omega (arith, fits), inside_placed len (suc n) es (omega (arith, fits)))

  free_placed : (place n : ℕ) (es : List (List ℕ × X)) → place < n → IsFree place (placed n es)
  free_placed place n [] lower = tt
  free_placed place n (e ∷ es) lower = ((λ same. absurd (omega (arith, lower, same))), free_placed place (suc n) es (omega (arith, lower)))

  apart_placed : (n : ℕ) (es : List (List ℕ × X)) → AreApart (placed n es)
  apart_placed n [] = tt
  apart_placed n (e ∷ es) = (free_placed n (suc n) es (omega arith), apart_placed (suc n) es)

  length-values_of : (es : List (List ℕ × X)) → length (values_of es) ≡ length es
  length-values_of [] = refl
  length-values_of (e ∷ es) = ap suc (length-values_of es)

  pub has_placed : (es : List (List ℕ × X)) → IsRising es → HasPlaces (length (values_of es)) (placed 0 es)
  has_placed es rising =
      let long = length-values_of es in
      record {
        rising = rw (keys_of-placed 0 es) rising;
        inside = inside_placed (length (values_of es)) 0 es (omega (arith, long));
        apart = apart_placed 0 es;
      }

  module _ (base : X) where
    laid_out-behind : (front : List X) (es : List (List ℕ × X)) (n : ℕ) → n ≡ length front
        → laid_out base (front ++ values_of es) (placed n es) ≡ es
    laid_out-behind front [] n is = refl
    laid_out-behind front (e ∷ es) n is =
        let head = ap (λ n. get_or (front ++ e.1 ∷ values_of es) n base) is ∙ get_or-append_seam front e.1 (values_of es) base in
        let longer = length-append front (e.1 ∷ []) in
        let tail = ap (λ levels. laid_out base levels (placed (suc n) es)) (sym (append_assoc front (e.1 ∷ []) (values_of es)))
        ∙ laid_out-behind (front ++ e.1 ∷ []) es (suc n) (omega (arith, is, longer)) in
        λ i. (e.0, head i) ∷ tail i

    pub laid_out-placed : (es : List (List ℕ × X)) → laid_out base (values_of es) (placed 0 es) ≡ es
    laid_out-placed es = laid_out-behind [] es 0 refl

    -- there is no boundary where there is no place
    pub counted_nil : (levels : List X) (es : List (List ℕ × ℕ)) → (length es == 0) ≡ is_nil (laid_out base levels es)
    counted_nil levels [] = refl
    counted_nil levels (e ∷ es) = search rules
