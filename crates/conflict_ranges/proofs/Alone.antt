-- The greatest version of keys by themselves.
use Rattle.std.proofs.Common.{◌≡◌, ◌≤◌, ◌⊎◌, inl, inr, ℕ, max, arith, Bool, true, false, cond, List, [], ◌∷◌, Some, refl, sym, ap, subst, ◌∙◌, true≢false}
use Rattle.std.proofs.lemmas.Bool.{cases_lt}
use Rattle.std.proofs.lemmas.Cmp.{tied_itself}
use Rattle.std.proofs.lemmas.Map.Lookups.{exact_bytes}
use Rattle.std.proofs.lemmas.Map.Views.{tells_apart}
use Rattle.std.specs.Cmp.Lexicographic.{nat_list_cmp_total}
use Rattle.std.specs.FinMap.{find}
use Rattle.std.specs.List.{filter}
use Rattle.std.specs.Ordering.{eq_by_cmp, is_eq}
use Rattle.key_bytes.specs.Keys.{key_cmp, key_lt}
use Rattle.key_bytes.proofs.Orders.{irreflexive}
use Rattle.range_map.proofs.Held.{IsBelow, IsRising, rising_below, rising_rest}
use Rattle.conflict_ranges.specs.Generations.{version_in}
use Rattle.conflict_ranges.proofs.Greatest.{greatest, grows}

module _ (p : List ℕ → Bool) where
  abbrev passing : List (List ℕ × ℕ) → List (List ℕ × ℕ)
  passing es = filter (λ e. p e.0) es

  -- no key that passes the test has more than the greatest
  pub found_below : (number : ℕ) (es : List (List ℕ × ℕ)) (key : List ℕ) → p key ≡ true
      → version_in (find key_cmp key es) ≤ greatest number (passing es)
  found_below number [] key passes = omega arith
  found_below number (e ∷ es) key passes =
      by_first (eq_by_cmp key_cmp key e.0) refl (λ number. found_below number es key passes)
    where
      by_test : (t : Bool) → ((number : ℕ) → version_in (find key_cmp key es) ≤ greatest number (passing es))
          → version_in (find key_cmp key es) ≤ greatest number (cond t (e ∷ passing es) (passing es))
      by_test true rest = rest (max number e.1)
      by_test false rest = rest number

      by_first : (t : Bool) → eq_by_cmp key_cmp key e.0 ≡ t → ((number : ℕ) → version_in (find key_cmp key es) ≤ greatest number (passing es))
          → version_in (cond t (Some e.1) (find key_cmp key es)) ≤ greatest number (cond (p e.0) (e ∷ passing es) (passing es))
      by_first true same _ =
          let its : p e.0 ≡ true = sym (ap p (tells_apart exact_bytes key e.0 same)) ∙ passes in
          let more = grows (max number e.1) (passing es) in
          subst (λ t. e.1 ≤ greatest number (cond t (e ∷ passing es) (passing es))) (sym its) (omega (arith, more))
      by_first false other rest = by_test (p e.0) rest

  -- a key that passes the test has this, and is above all that lies below these keys
  abbrev IsFound : List (List ℕ × ℕ) → ℕ → Type 0
  IsFound es number = (key : List ℕ) × (p key ≡ true) × ((low : List ℕ) → IsBelow low es → key_lt low key ≡ true)
      × (version_in (find key_cmp key es) ≡ number)

  found_from : (es : List (List ℕ × ℕ)) → IsRising es → (number : ℕ)
      → (greatest number (passing es) ≡ number) ⊎ IsFound es (greatest number (passing es))
  found_from [] rising number = inl refl
  found_from ((q, x) ∷ es) rising number = by_first (p q) refl (found_from es (rising_rest q x es rising))
    where
      tied : (key : List ℕ) → (t : Bool) → eq_by_cmp key_cmp key q ≡ t → key_lt q key ≡ true → t ≡ false
      tied key true same higher =
          absurd (true≢false (sym higher ∙ ap (key_lt q) (tells_apart exact_bytes key q same) ∙ irreflexive q))
      tied key false _ _ = refl

      later : (n : ℕ) → IsFound es n → IsFound ((q, x) ∷ es) n
      later n (key, passes, higher, has) = (
        key,
        passes,
        (λ low below. higher low below.1),
        ap (λ t. version_in (cond t (Some x) (find key_cmp key es)))
            (tied key (eq_by_cmp key_cmp key q) refl (higher q (rising_below q x es rising)))
            ∙ has,
      )

      here : p q ≡ true → IsFound ((q, x) ∷ es) x
      here passes = (
        q,
        passes,
        (λ low below. below.0),
        by_same (eq_by_cmp key_cmp q q) refl,
      )
        where
          by_same : (t : Bool) → eq_by_cmp key_cmp q q ≡ t → version_in (cond t (Some x) (find key_cmp q es)) ≡ x
          by_same true _ = refl
          by_same false other = absurd (true≢false (sym (ap is_eq (tied_itself nat_list_cmp_total q)) ∙ other))

      by_first : (t : Bool) → p q ≡ t → ((n : ℕ) → (greatest n (passing es) ≡ n) ⊎ IsFound es (greatest n (passing es)))
          → (greatest number (cond t ((q, x) ∷ passing es) (passing es)) ≡ number)
          ⊎ IsFound ((q, x) ∷ es) (greatest number (cond t ((q, x) ∷ passing es) (passing es)))
      by_first true passes rest = elim (rest (max number x)) [
        | inr found ↦ inr (later (greatest (max number x) (passing es)) found)
        | inl same ↦ elim (cases_lt number x) [
          | inl less ↦
              let is : x ≡ greatest (max number x) (passing es) = omega (arith, same, less) in
              inr (subst (IsFound ((q, x) ∷ es)) is (here passes))
          | inr more ↦ let is : greatest (max number x) (passing es) ≡ number = omega (arith, same, more) in inl is
        ]
      ]
      by_first false _ rest = elim (rest number) [
        | inl same ↦ inl same
        | inr found ↦ inr (later (greatest number (passing es)) found)
      ]

  -- the greatest is 0, or a key that passes the test has it
  pub found_reached : (es : List (List ℕ × ℕ)) → IsRising es
      → (greatest 0 (passing es) ≡ 0) ⊎ ((key : List ℕ) × (p key ≡ true) × (version_in (find key_cmp key es) ≡ greatest 0 (passing es)))
  found_reached es rising = elim (found_from es rising 0) [
    | inl none ↦ inl none
    | inr (key, passes, _, has) ↦ inr (key, passes, has)
  ]
