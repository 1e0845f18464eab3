-- The items of one sender in a list, places in a list, and prefixes.
use Rattle.std.proofs.Common.{◌≡◌, ◌≢◌, ◌⊎◌, ℕ, zero, suc, ◌<◌, List, [], ◌∷◌, ◌++◌, cond, eqb, map, length, get_or, set, sym, refl, ap, ◌∙◌, subst, inl, inr, ⊎_elim, append-nil, length-append, eq-eqb, ne_eqb, arith}
use Rattle.std.specs.List.{filter}
use Rattle.std.proofs.lemmas.List.{map-append}
use Rattle.std.proofs.lemmas.List.Elements.{filter-append}
use mathlib.Core.Option.{some, some-injective, some-ne-none}
use mathlib.Core.List.{IsPrefix, cons≢nil, head-eq_of_cons-eq, tail-eq_of_cons-eq}
use lib.ListN.{get_elem?}
use Rattle.atomic_table.proofs.Lists.{at_set}
use Rattle.request_line.specs.Taking.{items_of}

module _ {T : Type 0} where
  pub items_of-append : (p : ℕ) (a b : List (ℕ × T)) → items_of p (a ++ b) ≡ items_of p a ++ items_of p b
  items_of-append p a b =
      ap (map (λ (m : ℕ × T). m.1)) (filter-append (λ (m : ℕ × T). eqb m.0 p) a b)
      ∙ map-append (λ (m : ℕ × T). m.1) (filter (λ (m : ℕ × T). eqb m.0 p) a) (filter (λ (m : ℕ × T). eqb m.0 p) b)

  pub items_of-own : (p : ℕ) (x : T) (back : List (ℕ × T)) → items_of p ((p, x) ∷ back) ≡ x ∷ items_of p back
  items_of-own p x back =
      ap (λ b. map (λ (m : ℕ × T). m.1) (cond b ((p, x) ∷ filter (λ (m : ℕ × T). eqb m.0 p) back) (filter (λ (m : ℕ × T). eqb m.0 p) back))) (eq-eqb p p refl)

  pub items_of-other : (p : ℕ) (m : ℕ × T) (back : List (ℕ × T)) → m.0 ≢ p → items_of p (m ∷ back) ≡ items_of p back
  items_of-other p m back other =
      ap (λ b. map (λ (k : ℕ × T). k.1) (cond b (m ∷ filter (λ (k : ℕ × T). eqb k.0 p) back) (filter (λ (k : ℕ × T). eqb k.0 p) back))) (ne_eqb m.0 p other)

  -- one more item at the end, of another sender
  pub items_of-last_other : (p : ℕ) (log : List (ℕ × T)) (m : ℕ × T) → m.0 ≢ p → items_of p (log ++ m ∷ []) ≡ items_of p log
  items_of-last_other p log m other =
      items_of-append p log (m ∷ []) ∙ ap (λ l. items_of p log ++ l) (items_of-other p m [] other) ∙ append-nil (items_of p log)

  -- one more item at the end, of this sender
  pub items_of-last_own : (p : ℕ) (log : List (ℕ × T)) (x : T) → items_of p (log ++ (p, x) ∷ []) ≡ items_of p log ++ x ∷ []
  items_of-last_own p log x = items_of-append p log ((p, x) ∷ []) ∙ ap (λ l. items_of p log ++ l) (items_of-own p x [])

module _ {A : Type 0} where
  pub left_nil : (a b : List A) → a ++ b ≡ [] → a ≡ []
  left_nil [] b e = refl
  left_nil (x ∷ a) b e = absurd (cons≢nil e)

  pub right_nil : (a b : List A) → a ++ b ≡ [] → b ≡ []
  right_nil [] b e = e
  right_nil (x ∷ a) b e = absurd (cons≢nil e)

  -- a prefix of the same length is the whole
  pub whole_prefix : (a b : List A) → IsPrefix a b → length a ≡ length b → a ≡ b
  whole_prefix a b p e = sym (rest p.0 p.1 e)
    where
      rest : (t : List A) → a ++ t ≡ b → length a ≡ length b → b ≡ a
      rest [] j same = sym j ∙ append-nil a
      rest (x ∷ t) j same = absurd (omega (arith, same, ap length j, length-append a (x ∷ t)))

  pub at_last_or_before : (l : List A) (a b : A) (j : ℕ) → get_elem? (l ++ a ∷ []) j ≡ some b
      → (get_elem? l j ≡ some b) ⊎ ((j ≡ length l) × (a ≡ b))
  at_last_or_before [] a b zero e = inr (refl, some-injective a b e)
  at_last_or_before [] a b (suc j) e = absurd (some-ne-none b (sym e))
  at_last_or_before (x ∷ l) a b zero e = inl e
  at_last_or_before (x ∷ l) a b (suc j) e = ⊎_elim (λ t. inl t) (λ t. inr (ap suc t.0, t.1)) (at_last_or_before l a b j e)

  pub found : (l : List A) (k : ℕ) (d : A) → k < length l → get_elem? l k ≡ some (get_or l k d)
  found [] k d h = absurd (omega arith)
  found (x ∷ l) zero d h = refl
  found (x ∷ l) (suc k) d h = found l k d (omega arith)

  -- what holds of each place of a list, after one place was written
  pub each_set : (F : ℕ → A → Type 0) (l : List A) (i : ℕ) (w : A) → F i w → ((j : ℕ) (u : A) → j ≢ i → get_elem? l j ≡ some u → F j u)
      → (j : ℕ) (u : A) → get_elem? (set l i w) j ≡ some u → F j u
  each_set F l i w mine others j u e = ⊎_elim (λ (x : (j ≡ i) × (w ≡ u)). subst (λ (y : ℕ × A). F y.0 y.1) (λ k. (sym x.0 k, x.1 k)) mine)
      (λ (x : (j ≢ i) × (get_elem? l j ≡ some u)). others j u x.0 x.1) (at_set l i j w u e)

  -- .. and after one more came at the end
  pub each_last : (F : ℕ → A → Type 0) (l : List A) (w : A) → F (length l) w → ((j : ℕ) (u : A) → get_elem? l j ≡ some u → F j u)
      → (j : ℕ) (u : A) → get_elem? (l ++ w ∷ []) j ≡ some u → F j u
  each_last F l w mine others j u e =
      ⊎_elim (λ x. others j u x) (λ (x : (j ≡ length l) × (w ≡ u)). subst (λ (y : ℕ × A). F y.0 y.1) (λ k. (sym x.0 k, x.1 k)) mine) (at_last_or_before l w u j e)

module _ {T : Type 0} where
  -- an item that stands in the list is among those of its sender
  pub has_items : (l : List (ℕ × T)) (k : ℕ) (d : ℕ × T) → k < length l → items_of (get_or l k d).0 l ≢ []
  has_items [] k d h = absurd (omega arith)
  has_items (x ∷ l) zero d h = λ e. cons≢nil (sym (items_of-own x.0 x.1 l) ∙ e)
  has_items (x ∷ l) (suc k) d h =
      λ e. has_items l k d (omega arith) (right_nil (items_of (get_or l k d).0 (x ∷ [])) (items_of (get_or l k d).0 l) (sym (items_of-append (get_or l k d).0 (x ∷ []) l) ∙ e))

  -- a front with no item of n ends before the first item of n
  pub ends_before : (n : ℕ) (front back before : List (ℕ × T)) (x : T) (rest : List (ℕ × T)) → front ++ back ≡ before ++ (n, x) ∷ rest
      → items_of n front ≡ [] → IsPrefix front before
  ends_before n [] back before x rest e none = (before, refl)
  ends_before n (m ∷ front) back [] x rest e none =
      absurd (cons≢nil (sym (items_of-own n x front) ∙ ap (λ (k : ℕ × T). items_of n (k ∷ front)) (sym (head-eq_of_cons-eq e)) ∙ none))
  ends_before n (m ∷ front) back (k ∷ before) x rest e none =
      let p = ends_before n front back before x rest (tail-eq_of_cons-eq e) (right_nil (items_of n (m ∷ [])) (items_of n front) (sym (items_of-append n (m ∷ []) front) ∙ none)) in
      (p.0, λ i. head-eq_of_cons-eq e i ∷ p.1 i)
