-- A list that a sort left in order is the list put in order by insertion, where the order is total and ties are equal.
use Rattle.std.proofs.Common.{◌≡◌, ℕ, suc, ◌+◌, ◌<◌, Bool, true, false, cond, List, [], ◌∷◌, Ordering, sum_by, refl, sym, ap, ◌∙◌, arith}
use Rattle.std.specs.Prelude.{if◌then◌else◌, IsPermutation}
use Rattle.std.specs.Cmp.{IsTotalOrder}
use Rattle.std.specs.List.{AllByRecursion}
use Rattle.std.specs.List.Sorted.{IsSorted}
use Rattle.std.specs.Ordering.{is_lt, is_gt, is_eq, ordering_reverse}
use Rattle.std.specs.declared.cmp.Ordering.TheVariants.{Less, Equal, Greater}
use Rattle.std.proofs.lemmas.Cmp.{upto, tied_itself}
use Rattle.std.proofs.lemmas.List.Sums.{sum_by-cons}
use Rattle.std.proofs.lemmas.List.Sorted.{sum_by-IsPermutation}

-- ---- insertion

-- an element, put behind all that are less
abbrev pub inserted_by : {X : Type 0} → (X → X → Ordering) → X → List X → List X
inserted_by cmp x [] = x ∷ []
inserted_by cmp x (y ∷ ys) = if is_gt (cmp x y) then y ∷ inserted_by cmp x ys else x ∷ y ∷ ys

abbrev pub in_order_by : {X : Type 0} → (X → X → Ordering) → List X → List X
in_order_by cmp [] = []
in_order_by cmp (x ∷ xs) = inserted_by cmp x (in_order_by cmp xs)

-- each element is at most each later one
abbrev IsAtMost : {X : Type 0} → (X → X → Ordering) → X → X → Type 0
IsAtMost cmp x y = is_gt (cmp x y) ≡ false

abbrev pub Rises : {X : Type 0} → (X → X → Ordering) → List X → Type 0
Rises cmp [] = Unit {0}
Rises cmp (x ∷ xs) = AllByRecursion (IsAtMost cmp x) xs × Rises cmp xs

all-weaker : {X : Type 0} (P Q : X → Type 0) → ((x : X) → P x → Q x) → (xs : List X) → AllByRecursion P xs → AllByRecursion Q xs
all-weaker P Q weaker [] all = tt
all-weaker P Q weaker (x ∷ xs) all = (weaker x all.0, all-weaker P Q weaker xs all.1)

all-inserted_by : {X : Type 0} (cmp : X → X → Ordering) (P : X → Type 0) (x : X) (xs : List X) → P x → AllByRecursion P xs
    → AllByRecursion P (inserted_by cmp x xs)
all-inserted_by cmp P x [] here all = (here, tt)
all-inserted_by cmp P x (y ∷ ys) here all = by (is_gt (cmp x y)) (all-inserted_by cmp P x ys here all.1)
  where
    by : (greater : Bool) → AllByRecursion P (inserted_by cmp x ys) → AllByRecursion P (if greater then y ∷ inserted_by cmp x ys else x ∷ y ∷ ys)
    by true later = (all.0, later)
    by false later = (here, all)

module _ {X : Type 0} (cmp : X → X → Ordering) (order : IsTotalOrder cmp) where
  at_most-back : (x y : X) → is_gt (cmp x y) ≡ true → IsAtMost cmp y x
  at_most-back x y greater = rw (order.antisymm y x) (by (cmp x y) greater)
    where
      by : (o : Ordering) → is_gt o ≡ true → is_gt (ordering_reverse o) ≡ false
      by Less e = absurd cc
      by Equal e = absurd cc
      by Greater e = refl

  rises-inserted_by : (x : X) (xs : List X) → Rises cmp xs → Rises cmp (inserted_by cmp x xs)
  rises-inserted_by x [] rises = (tt, tt)
  rises-inserted_by x (y ∷ ys) rises = by (is_gt (cmp x y)) refl (rises-inserted_by x ys rises.1)
    where
      by : (greater : Bool) → is_gt (cmp x y) ≡ greater → Rises cmp (inserted_by cmp x ys) → Rises cmp (if greater then y ∷ inserted_by cmp x ys else x ∷ y ∷ ys)
      by true e later = (all-inserted_by cmp (IsAtMost cmp y) x ys (at_most-back x y e) rises.0, later)
      by false e later = ((e, all-weaker (IsAtMost cmp y) (IsAtMost cmp x) (λ z. upto order x y z e) ys rises.0), rises)

  rises-in_order_by : (xs : List X) → Rises cmp (in_order_by cmp xs)
  rises-in_order_by [] = tt
  rises-in_order_by (x ∷ xs) = rises-inserted_by x (in_order_by cmp xs) (rises-in_order_by xs)

-- ---- the same elements as often

abbrev one_if_equal : Ordering → ℕ
one_if_equal o = cond (is_eq o) 1 0

abbrev tied : {X : Type 0} → (X → X → Ordering) → X → X → ℕ
tied cmp x y = one_if_equal (cmp x y)

abbrev count_of : {X : Type 0} → (X → X → Ordering) → X → List X → ℕ
count_of cmp x xs = sum_by (tied cmp x) xs

sum_by-inserted_by : {X : Type 0} (cmp : X → X → Ordering) (f : X → ℕ) (x : X) (xs : List X)
    → sum_by f (inserted_by cmp x xs) ≡ f x + sum_by f xs
sum_by-inserted_by cmp f x [] = sum_by-cons f x []
sum_by-inserted_by cmp f x (y ∷ ys) = by (is_gt (cmp x y)) (sum_by-inserted_by cmp f x ys)
  where
    by : (greater : Bool) → sum_by f (inserted_by cmp x ys) ≡ f x + sum_by f ys → sum_by f (if greater then y ∷ inserted_by cmp x ys else x ∷ y ∷ ys) ≡ f x + sum_by f (y ∷ ys)
    by true later = omega (arith, sum_by-cons f y (inserted_by cmp x ys), sum_by-cons f y ys)
    by false later = sum_by-cons f x (y ∷ ys)

sum_by-in_order_by : {X : Type 0} (cmp : X → X → Ordering) (f : X → ℕ) (xs : List X) → sum_by f (in_order_by cmp xs) ≡ sum_by f xs
sum_by-in_order_by cmp f [] = refl
sum_by-in_order_by cmp f (x ∷ xs) = omega (arith, sum_by-inserted_by cmp f x (in_order_by cmp xs), sum_by-in_order_by cmp f xs, sum_by-cons f x xs)

module _ {X : Type 0} (cmp : X → X → Ordering) (order : IsTotalOrder cmp) (same_tied : (x y : X) → cmp x y ≡ Equal → x ≡ y) where
  tied-itself : (x : X) → tied cmp x x ≡ 1
  tied-itself x = rw (tied_itself order x) refl

  at_most-itself : (x : X) → IsAtMost cmp x x
  at_most-itself x = rw (tied_itself order x) refl

  -- what occurs in a list is at least what is at most each of its elements
  counted-at_most : (x y : X) (ys : List X) → AllByRecursion (IsAtMost cmp x) ys → 0 < count_of cmp y ys → IsAtMost cmp x y
  counted-at_most x y [] all some = absurd (omega arith)
  counted-at_most x y (z ∷ zs) all some = by (cmp y z) refl (counted-at_most x y zs all.1)
    where
      by : (o : Ordering) → cmp y z ≡ o → (0 < count_of cmp y zs → IsAtMost cmp x y) → IsAtMost cmp x y
      by Equal e later = rw (same_tied y z e) all.0
      by Less e later = later (omega (arith, sum_by-cons (tied cmp y) z zs, ap one_if_equal e))
      by Greater e later = later (omega (arith, sum_by-cons (tied cmp y) z zs, ap one_if_equal e))

  both_at_most : (x y : X) → IsAtMost cmp x y → IsAtMost cmp y x → x ≡ y
  both_at_most x y le ge = same_tied x y (by (cmp x y) (cmp y x) (order.antisymm x y) le ge)
    where
      by : (o p : Ordering) → o ≡ ordering_reverse p → is_gt o ≡ false → is_gt p ≡ false → o ≡ Equal
      by Less Less e h k = absurd cc
      by Less Equal e h k = absurd cc
      by Less Greater e h k = absurd cc
      by Equal p e h k = refl
      by Greater p e h k = absurd cc

  same_first : (x y : X) (xs ys : List X) → Rises cmp (x ∷ xs) → Rises cmp (y ∷ ys) → ((z : X) → count_of cmp z (x ∷ xs) ≡ count_of cmp z (y ∷ ys)) → x ≡ y
  same_first x y xs ys up up' same = both_at_most x y
      (counted-at_most x y (x ∷ xs) (at_most-itself x, up.0) (omega (arith, same y, sum_by-cons (tied cmp y) y ys, tied-itself y)))
      (counted-at_most y x (y ∷ ys) (at_most-itself y, up'.0) (omega (arith, same x, sum_by-cons (tied cmp x) x xs, tied-itself x)))

  same_rising : (xs ys : List X) → Rises cmp xs → Rises cmp ys → ((z : X) → count_of cmp z xs ≡ count_of cmp z ys) → xs ≡ ys
  same_rising [] [] up up' same = refl
  same_rising [] (y ∷ ys) up up' same = absurd (omega (arith, same y, sum_by-cons (tied cmp y) y ys, tied-itself y))
  same_rising (x ∷ xs) [] up up' same = absurd (omega (arith, same x, sum_by-cons (tied cmp x) x xs, tied-itself x))
  same_rising (x ∷ xs) (y ∷ ys) up up' same =
      let first = same_first x y xs ys up up' same in
      let rest = same_rising xs ys up.1 up'.1 (λ z. omega (arith, same z, sum_by-cons (tied cmp z) x xs, sum_by-cons (tied cmp z) y ys, ap (tied cmp z) first)) in
      cc (first, rest)

-- ---- what std's sort says

sorted_rest : {X : Type 0} (cmp : X → X → Ordering) (x : X) (xs : List X) → IsSorted cmp (x ∷ xs) → IsSorted cmp xs
sorted_rest cmp x xs sorted = λ k d low high. let next : suc k + 1 ≡ suc (k + 1) = omega arith in rw next at (sorted (suc k) d (omega arith) (omega arith))

module _ {X : Type 0} (cmp : X → X → Ordering) (order : IsTotalOrder cmp) where
  at_most-not_less : (x y : X) → is_lt (cmp y x) ≡ false → IsAtMost cmp x y
  at_most-not_less x y e = rw (order.antisymm x y) (by (cmp y x) e)
    where
      by : (o : Ordering) → is_lt o ≡ false → is_gt (ordering_reverse o) ≡ false
      by Less e = absurd cc
      by Equal e = refl
      by Greater e = refl

  rises-sorted : (xs : List X) → IsSorted cmp xs → Rises cmp xs
  rises-sorted [] sorted = tt
  rises-sorted (x ∷ []) sorted = (tt, tt)
  rises-sorted (x ∷ y ∷ ys) sorted =
      let later = rises-sorted (y ∷ ys) (sorted_rest cmp x (y ∷ ys) sorted) in
      let first : IsAtMost cmp x y = at_most-not_less x y (sorted 0 x (omega arith) (omega arith)) in
      ((first, all-weaker (IsAtMost cmp y) (IsAtMost cmp x) (λ z. upto order x y z first) ys later.0), later)

pub sorted-in_order_by : {X : Type 0} (cmp : X → X → Ordering) (order : IsTotalOrder cmp) (same_tied : (x y : X) → cmp x y ≡ Equal → x ≡ y) (xs ys : List X)
    → IsPermutation xs ys → IsSorted cmp ys → ys ≡ in_order_by cmp xs
sorted-in_order_by cmp order same_tied xs ys moved sorted =
    same_rising cmp order same_tied ys (in_order_by cmp xs) (rises-sorted cmp order ys sorted) (rises-in_order_by cmp order xs)
    (λ z. sum_by-IsPermutation (tied cmp z) xs ys moved ∙ sym (sum_by-in_order_by cmp (tied cmp z) xs))
