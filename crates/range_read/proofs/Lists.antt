-- Facts about lists, and about tests of them.
use Rattle.std.proofs.Common.{◌≡◌, Bool, true, false, cond, List, [], ◌∷◌, ◌++◌, reverse, None, Some, refl, sym, ap, ◌∙◌}
use Rattle.std.proofs.lemmas.List.{append-nil, reverse-append}
use Rattle.std.proofs.lemmas.List.Elements.{filter-append}
use Rattle.std.proofs.lemmas.Option.{none-some}
use Rattle.std.specs.List.{filter}
use Rattle.key_map.specs.Ends.{first, last}

module _ {X : Type 0} where
  pub cons_not_nil : (x : X) (xs : List X) → [] ≡ x ∷ xs → ⊥
  cons_not_nil x xs e = cc

  pub same_head : (x y : X) (xs ys : List X) → x ∷ xs ≡ y ∷ ys → x ≡ y
  same_head x y xs ys e = cc

  pub same_tail : (x y : X) (xs ys : List X) → x ∷ xs ≡ y ∷ ys → xs ≡ ys
  same_tail x y xs ys e = cc

  -- a list with a first element
  pub first_is : (xs : List X) (x : X) → first xs ≡ Some x → (ys : List X) × (xs ≡ x ∷ ys)
  first_is [] x is = absurd (none-some x is)
  first_is (y ∷ ys) x is = (ys, cc)

  pub first_none : (xs : List X) → first xs ≡ None → xs ≡ []
  first_none [] is = refl
  first_none (y ∷ ys) is = absurd (none-some y (sym is))

  pub reverse-cons : (x : X) (xs : List X) → reverse (x ∷ xs) ≡ reverse xs ++ x ∷ []
  reverse-cons x xs = reverse-append (x ∷ []) xs

  pub last-append : (xs : List X) (x : X) → last (xs ++ x ∷ []) ≡ Some x
  last-append [] x = refl
  last-append (y ∷ []) x = refl
  last-append (y ∷ z ∷ xs) x = last-append (z ∷ xs) x

  pub first-reverse : (xs : List X) → first (reverse xs) ≡ last xs
  first-reverse [] = refl
  first-reverse (x ∷ []) = refl
  first-reverse (x ∷ y ∷ xs) = ap first (reverse-cons x (y ∷ xs)) ∙ first_of (reverse (y ∷ xs)) (first-reverse (y ∷ xs))
    where
      some_last : (y : X) (xs : List X) → last (y ∷ xs) ≡ None → ⊥
      some_last y [] is = none-some y (sym is)
      some_last y (z ∷ xs) is = some_last z xs is

      first_of : (zs : List X) → first zs ≡ last (y ∷ xs) → first (zs ++ x ∷ []) ≡ last (y ∷ xs)
      first_of [] is = absurd (some_last y xs (sym is))
      first_of (z ∷ zs) is = is

  module _ (p : X → Bool) where
    pub filter-reverse : (xs : List X) → filter p (reverse xs) ≡ reverse (filter p xs)
    filter-reverse [] = refl
    filter-reverse (x ∷ xs) =
        ap (filter p) (reverse-cons x xs) ∙ filter-append p (reverse xs) (x ∷ [])
        ∙ ap (λ ys. ys ++ filter p (x ∷ [])) (filter-reverse xs)
        ∙ elim (p x) as (λ b. reverse (filter p xs) ++ cond b (x ∷ []) [] ≡ reverse (cond b (x ∷ filter p xs) (filter p xs))) [
          | true ↦ sym (reverse-cons x (filter p xs))
          | false ↦ append-nil (reverse (filter p xs))
        ]
