-- Lists that rise by an order, and what tests take of them.
use Rattle.std.proofs.Common.{◌≡◌, Bool, true, false, cond, ◌&&◌, List, [], ◌∷◌, ◌++◌, reverse, None, Some, refl, sym, ap, subst, ◌∙◌}
use Rattle.std.proofs.lemmas.Option.{none-some, same_Some}
use Rattle.std.specs.List.{filter}
use Rattle.key_map.specs.Ends.{first}
use Rattle.range_read.proofs.Lists.{cons_not_nil, same_head, same_tail, reverse-cons}

module _ {X : Type 0} (lt : X → X → Bool) where
  -- x stands before each
  abbrev pub IsBefore : X → List X → Type 0
  IsBefore x [] = Unit {0}
  IsBefore x (y ∷ ys) = (lt x y ≡ true) × IsBefore x ys

  abbrev pub Rises : List X → Type 0
  Rises [] = Unit {0}
  Rises (x ∷ xs) = IsBefore x xs × Rises xs

  pub before_append : (x : X) (ys : List X) (y : X) → IsBefore x ys → lt x y ≡ true → IsBefore x (ys ++ y ∷ [])
  before_append x [] y before below = (below, tt)
  before_append x (z ∷ ys) y before below = (before.0, before_append x ys y before.1 below)

  pub before_reverse : (x : X) (ys : List X) → IsBefore x ys → IsBefore x (reverse ys)
  before_reverse x [] before = tt
  before_reverse x (y ∷ ys) before =
      subst (IsBefore x) (sym (reverse-cons y ys)) (before_append x (reverse ys) y (before_reverse x ys before.1) before.0)

-- the order from the other side
abbrev pub flipped : {X : Type 0} → (X → X → Bool) → X → X → Bool
flipped lt a b = lt b a

module _ {X : Type 0} (lt : X → X → Bool) where
  rises_append : (ys : List X) (y : X) → Rises lt ys → IsBefore (flipped lt) y ys → Rises lt (ys ++ y ∷ [])
  rises_append [] y rises above = (tt, tt)
  rises_append (z ∷ ys) y rises above = (before_append lt z ys y rises.0 above.0, rises_append ys y rises.1 above.1)

  -- a list that rises falls when it is reversed
  pub rises_reverse : (xs : List X) → Rises (flipped lt) xs → Rises lt (reverse xs)
  rises_reverse [] rises = tt
  rises_reverse (x ∷ xs) rises =
      subst (Rises lt) (sym (reverse-cons x xs))
      (rises_append (reverse xs) x (rises_reverse xs rises.1) (before_reverse (flipped lt) x xs rises.0))

module _ {X : Type 0} where
  same_tests : (lt : X → X → Bool) (p q : X → Bool) (x : X) (ys : List X) → IsBefore lt x ys → ((e : X) → q e ≡ (p e && lt x e))
      → filter q ys ≡ filter p ys
  same_tests lt p q x [] before is = refl
  same_tests lt p q x (y ∷ ys) before is =
      let test : q y ≡ p y = is y ∙ ap (λ b. p y && b) before.0 ∙ and_true (p y) in
      (λ i. cond (test i) (y ∷ same_tests lt p q x ys before.1 is i) (same_tests lt p q x ys before.1 is i))
    where
      and_true : (b : Bool) → (b && true) ≡ b
      and_true true = refl
      and_true false = refl

  -- Of a list that rises a test takes x and then ys: then ys are what the test takes above x.
  pub behind_first : (lt : X → X → Bool) (strict : (e : X) → lt e e ≡ false) (p q : X → Bool) (es : List X) → Rises lt es
      → (x : X) (ys : List X) → filter p es ≡ x ∷ ys → ((e : X) → q e ≡ (p e && lt x e)) → filter q es ≡ ys
  behind_first lt strict p q [] rises x ys is above = absurd (cons_not_nil x ys is)
  behind_first lt strict p q (e ∷ es) rises x ys is above =
      elim (p e) as (λ b. p e ≡ b → cond b (e ∷ filter p es) (filter p es) ≡ x ∷ ys → filter q (e ∷ es) ≡ ys) [
        | true ↦ λ passes whole.
            let here : e ≡ x = same_head e x (filter p es) ys whole in
            let fails : q e ≡ false = above e ∙ ap (λ b. b && lt x e) passes ∙ ap (λ x. lt x e) (sym here) ∙ strict e in
            ap (λ b. cond b (e ∷ filter q es) (filter q es)) fails
            ∙ same_tests lt p q x es (subst (λ x. IsBefore lt x es) here rises.0) above
            ∙ same_tail e x (filter p es) ys whole
        | false ↦ λ fails whole.
            ap (λ b. cond b (e ∷ filter q es) (filter q es)) (above e ∙ ap (λ b. b && lt x e) fails)
            ∙ behind_first lt strict p q es rises.1 x ys whole above
      ] refl is

  -- the first that a test takes passes it
  pub first_passes : (p : X → Bool) (es : List X) (x : X) → first (filter p es) ≡ Some x → p x ≡ true
  first_passes p [] x is = absurd (none-some x is)
  first_passes p (y ∷ ys) x is =
      elim (p y) as (λ b. p y ≡ b → first (cond b (y ∷ filter p ys) (filter p ys)) ≡ Some x → p x ≡ true) [
        | true ↦ λ passes is. ap p (sym (same_Some y x is)) ∙ passes
        | false ↦ λ fails is. first_passes p ys x is
      ] refl is

  module _ (p q : X → Bool) (stricter : (e : X) → p e ≡ false → q e ≡ false) where
    -- where a test takes nothing a stricter one takes nothing
    pub none_stricter : (es : List X) → first (filter p es) ≡ None → first (filter q es) ≡ None
    none_stricter [] is = refl
    none_stricter (e ∷ es) is =
        elim (p e) as (λ b. p e ≡ b → first (cond b (e ∷ filter p es) (filter p es)) ≡ None → first (filter q (e ∷ es)) ≡ None) [
          | true ↦ λ passes is. absurd (none-some e (sym is))
          | false ↦ λ fails is. ap (λ b. first (cond b (e ∷ filter q es) (filter q es))) (stricter e fails) ∙ none_stricter es is
        ] refl is

    -- the first that a test takes is the first that a stricter one takes, where it takes it
    pub first_stricter : (es : List X) (x : X) → first (filter p es) ≡ Some x → q x ≡ true → first (filter q es) ≡ Some x
    first_stricter [] x is passes = absurd (none-some x is)
    first_stricter (e ∷ es) x is passes =
        elim (p e) as (λ b. p e ≡ b → first (cond b (e ∷ filter p es) (filter p es)) ≡ Some x → first (filter q (e ∷ es)) ≡ Some x) [
          | true ↦ λ _ is. ap (λ b. first (cond b (e ∷ filter q es) (filter q es))) (ap q (same_Some e x is) ∙ passes) ∙ is
          | false ↦ λ fails is. ap (λ b. first (cond b (e ∷ filter q es) (filter q es))) (stricter e fails) ∙ first_stricter es x is passes
        ] refl is

    -- it takes nothing where it does not take that one and nothing above it
    pub none_above : (lt : X → X → Bool) (es : List X) → Rises lt es → (x : X) → first (filter p es) ≡ Some x → q x ≡ false
        → ((e : X) → lt x e ≡ true → q e ≡ false) → first (filter q es) ≡ None
    none_above lt [] rises x is fails above = absurd (none-some x is)
    none_above lt (e ∷ es) rises x is fails above =
        elim (p e) as (λ b. p e ≡ b → first (cond b (e ∷ filter p es) (filter p es)) ≡ Some x → first (filter q (e ∷ es)) ≡ None) [
          | true ↦ λ _ is.
              let here : e ≡ x = same_Some e x is in
              ap (λ b. first (cond b (e ∷ filter q es) (filter q es))) (ap q here ∙ fails)
              ∙ all_fail es (subst (λ x. IsBefore lt x es) here rises.0)
          | false ↦ λ fail is. ap (λ b. first (cond b (e ∷ filter q es) (filter q es))) (stricter e fail)
              ∙ none_above lt es rises.1 x is fails above
        ] refl is
      where
        all_fail : (ys : List X) → IsBefore lt x ys → first (filter q ys) ≡ None
        all_fail [] before = refl
        all_fail (y ∷ ys) before = ap (λ b. first (cond b (y ∷ filter q ys) (filter q ys))) (above y before.0) ∙ all_fail ys before.1
