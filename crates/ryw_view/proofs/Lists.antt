-- The first element of a list that a test takes, and the others.
use Rattle.std.proofs.Common.{◌≡◌, ◌<◌, ◌≤◌, suc, length, arith, Bool, true, false, cond, ◌⊎◌, inl, inr, List, [], ◌∷◌, ◌++◌, reverse, None, Some, refl, sym, ap, subst, ◌∙◌, true≢false}
use Rattle.std.proofs.lemmas.List.{reverse-reverse}
use Rattle.std.proofs.lemmas.Option.{none-some, same_Some}
use Rattle.std.specs.List.{filter}
use Rattle.key_map.specs.Ends.{first}
use Rattle.range_read.proofs.Lists.{reverse-cons}
use Rattle.range_read.proofs.Rising.{IsBefore, Rises}

module _ {X : Type 0} where
  -- the list has this element
  abbrev pub Has : X → List X → Type 0
  Has x [] = ⊥
  Has x (y ∷ ys) = (y ≡ x) ⊎ Has x ys

  has_append : (x : X) (xs ys : List X) → (Has x xs ⊎ Has x ys) → Has x (xs ++ ys)
  has_append x [] ys (inl h) = absurd h
  has_append x [] ys (inr h) = h
  has_append x (z ∷ xs) ys (inl (inl h)) = inl h
  has_append x (z ∷ xs) ys (inl (inr h)) = inr (has_append x xs ys (inl h))
  has_append x (z ∷ xs) ys (inr h) = inr (has_append x xs ys (inr h))

  pub has_reverse : (x : X) (xs : List X) → Has x xs → Has x (reverse xs)
  has_reverse x [] h = absurd h
  has_reverse x (y ∷ xs) (inl h) = subst (Has x) (sym (reverse-cons y xs)) (has_append x (reverse xs) (y ∷ []) (inr (inl h)))
  has_reverse x (y ∷ xs) (inr h) = subst (Has x) (sym (reverse-cons y xs)) (has_append x (reverse xs) (y ∷ []) (inl (has_reverse x xs h)))

  pub has_reversed : (x : X) (xs : List X) → Has x (reverse xs) → Has x xs
  has_reversed x xs h = subst (Has x) (reverse-reverse xs) (has_reverse x (reverse xs) h)

  module _ (p : X → Bool) where
    -- the first that a test takes is an element
    pub has_first : (xs : List X) (x : X) → first (filter p xs) ≡ Some x → Has x xs
    has_first [] x is = absurd (none-some x is)
    has_first (y ∷ ys) x is =
        elim (p y) as (λ b. first (cond b (y ∷ filter p ys) (filter p ys)) ≡ Some x → Has x (y ∷ ys)) [
          | true ↦ λ is. inl (same_Some y x is)
          | false ↦ λ is. inr (has_first ys x is)
        ] is

    -- where a test takes nothing, each element fails it
    pub none_passes : (xs : List X) (x : X) → first (filter p xs) ≡ None → Has x xs → p x ≡ false
    none_passes [] x is h = absurd h
    none_passes (y ∷ ys) x is h =
        elim (p y) as (λ b. p y ≡ b → first (cond b (y ∷ filter p ys) (filter p ys)) ≡ None → p x ≡ false) [
          | true ↦ λ passes is. absurd (none-some y (sym is))
          | false ↦ λ fails is. elim h [ inl here ↦ ap p (sym here) ∙ fails | inr there ↦ none_passes ys x is there ]
        ] refl is

    module _ (lt : X → X → Bool) where
      pub before_each : (x : X) (ys : List X) → IsBefore lt x ys → (y : X) → Has y ys → lt x y ≡ true
      before_each x [] before y h = absurd h
      before_each x (z ∷ ys) before y (inl h) = ap (lt x) (sym h) ∙ before.0
      before_each x (z ∷ ys) before y (inr h) = before_each x ys before.1 y h

      -- in a list that rises, the first that a test takes stands before the others that pass it
      pub first_before : (xs : List X) → Rises lt xs → (x : X) → first (filter p xs) ≡ Some x → (y : X) → Has y xs → p y ≡ true
          → (x ≡ y) ⊎ (lt x y ≡ true)
      first_before [] rises x is y h passes = absurd h
      first_before (z ∷ xs) rises x is y h passes =
          elim (p z) as (λ b. p z ≡ b → first (cond b (z ∷ filter p xs) (filter p xs)) ≡ Some x → (x ≡ y) ⊎ (lt x y ≡ true)) [
            | true ↦ λ _ is.
                let same = same_Some z x is in
                elim h as (λ _. (x ≡ y) ⊎ (lt x y ≡ true)) [
                  | inl here ↦ inl (sym same ∙ here)
                  | inr there ↦ inr (ap (λ x. lt x y) (sym same) ∙ before_each z xs rises.0 y there)
                ]
            | false ↦ λ fails is. elim h as (λ _. (x ≡ y) ⊎ (lt x y ≡ true)) [
              | inl here ↦ absurd (true≢false (sym passes ∙ ap p (sym here) ∙ fails))
              | inr there ↦ first_before xs rises.1 x is y there passes
            ]
          ] refl is

-- ---- how many elements a test takes

module _ {X : Type 0} (p q : X → Bool) (stricter : (x : X) → p x ≡ false → q x ≡ false) where
  -- a stricter test takes no more
  no_more : (xs : List X) → length (filter q xs) ≤ length (filter p xs)
  no_more [] = omega arith
  no_more (x ∷ xs) =
      let rest = no_more xs in
      elim (p x) as (λ b. p x ≡ b → length (filter q (x ∷ xs)) ≤ length (cond b (x ∷ filter p xs) (filter p xs))) [
        | true ↦ λ _. elim (q x) as (λ c. length (cond c (x ∷ filter q xs) (filter q xs)) ≤ suc (length (filter p xs)))
            [ true ↦ omega (arith, rest) | false ↦ omega (arith, rest) ]
        | false ↦ λ fails. subst (λ c. length (cond c (x ∷ filter q xs) (filter q xs)) ≤ length (filter p xs)) (sym (stricter x fails)) rest
      ] refl

  -- a stricter test takes fewer, where an element fails it alone
  pub fewer : (xs : List X) (x : X) → Has x xs → p x ≡ true → q x ≡ false → length (filter q xs) < length (filter p xs)
  fewer [] x h passes fails = absurd h
  fewer (y ∷ ys) x (inl here) passes fails =
      let rest = no_more ys in
      let p_here : p y ≡ true = ap p here ∙ passes in
      let q_here : q y ≡ false = ap q here ∙ fails in
      subst (λ b. length (filter q (y ∷ ys)) < length (cond b (y ∷ filter p ys) (filter p ys))) (sym p_here)
      (subst (λ c. length (cond c (y ∷ filter q ys) (filter q ys)) < suc (length (filter p ys))) (sym q_here) (omega (arith, rest)))
  fewer (y ∷ ys) x (inr there) passes fails =
      let rest = fewer ys x there passes fails in
      elim (p y) as (λ b. p y ≡ b → length (filter q (y ∷ ys)) < length (cond b (y ∷ filter p ys) (filter p ys))) [
        | true ↦ λ _. elim (q y) as (λ c. length (cond c (y ∷ filter q ys) (filter q ys)) < suc (length (filter p ys)))
            [ true ↦ omega (arith, rest) | false ↦ omega (arith, rest) ]
        | false ↦ λ fail. subst (λ c. length (cond c (y ∷ filter q ys) (filter q ys)) < length (filter p ys)) (sym (stricter y fail)) rest
      ] refl
