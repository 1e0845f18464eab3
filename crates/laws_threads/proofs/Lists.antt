-- Elements of lists by their places.
use Rattle.std.proofs.Common.{◌≡◌, ℕ, zero, suc, ◌<◌, List, [], ◌∷◌, ◌++◌, length, Some, refl, sym, ap, subst, arith}
use Rattle.std.specs.Prelude.{slice_get, slice_set}
use Rattle.std.proofs.lemmas.Option.{none-some, same_Some}

-- an element inside a list is there
pub there : {X : Type 0} (xs : List X) (i : ℕ) → i < length xs → (x : X) × (slice_get xs i ≡ Some x)
there [] i inside = absurd (omega (arith, inside))
there (x ∷ xs) zero inside = (x, refl)
there (x ∷ xs) (suc i) inside = there xs i (omega (arith, inside))

pub get_front : {X : Type 0} (xs ys : List X) (i : ℕ) (x : X) → slice_get xs i ≡ Some x → slice_get (xs ++ ys) i ≡ Some x
get_front [] ys i x e = absurd (none-some x e)
get_front (y ∷ xs) ys zero x e = e
get_front (y ∷ xs) ys (suc i) x e = get_front xs ys i x e

pub set_front : {X : Type 0} (xs ys : List X) (i : ℕ) (y : X) → i < length xs → slice_set (xs ++ ys) i y ≡ slice_set xs i y ++ ys
set_front [] ys i y inside = absurd (omega (arith, inside))
set_front (x ∷ xs) ys zero y inside = refl
set_front (x ∷ xs) ys (suc i) y inside = ap (λ l. x ∷ l) (set_front xs ys i y (omega (arith, inside)))

pub get_set_same : {X : Type 0} (xs : List X) (i : ℕ) (y z : X) → slice_get (slice_set xs i y) i ≡ Some z → z ≡ y
get_set_same [] i y z e = absurd (none-some z e)
get_set_same (x ∷ xs) zero y z e = sym (same_Some y z e)
get_set_same (x ∷ xs) (suc i) y z e = get_set_same xs i y z e

pub get_set_other : {X : Type 0} (xs : List X) (i j : ℕ) (y : X) → (i ≡ j → ⊥) → slice_get (slice_set xs i y) j ≡ slice_get xs j
get_set_other [] i j y other = refl
get_set_other (x ∷ xs) zero zero y other = absurd (other refl)
get_set_other (x ∷ xs) zero (suc j) y other = refl
get_set_other (x ∷ xs) (suc i) zero y other = refl
get_set_other (x ∷ xs) (suc i) (suc j) y other = get_set_other xs i j y (λ e. other (ap suc e))

-- lists of one length with the same elements at their places are one
pub same_places : {X : Type 0} (xs ys : List X) → length ys ≡ length xs
    → ((i : ℕ) (x y : X) → slice_get xs i ≡ Some x → slice_get ys i ≡ Some y → y ≡ x) → xs ≡ ys
same_places [] [] as_many same = refl
same_places [] (y ∷ ys) as_many same = absurd (omega (arith, as_many))
same_places (x ∷ xs) [] as_many same = absurd (omega (arith, as_many))
same_places (x ∷ xs) (y ∷ ys) as_many same =
    let rest = same_places xs ys (omega (arith, as_many)) (λ i. same (suc i)) in
    (λ i. sym (same 0 x y refl refl) i ∷ rest i)

-- what holds of each element
abbrev pub EachAt : {X : Type 0} → (X → Type 0) → List X → Type 0
EachAt {X} P xs = (i : ℕ) (x : X) → slice_get xs i ≡ Some x → P x

pub each_append : {X : Type 0} (P : X → Type 0) (xs ys : List X) → EachAt P xs → EachAt P ys → EachAt P (xs ++ ys)
each_append P [] ys front back i x e = back i x e
each_append P (y ∷ xs) ys front back zero x e = front zero x e
each_append P (y ∷ xs) ys front back (suc i) x e = each_append P xs ys (λ j. front (suc j)) back i x e

pub each_set : {X : Type 0} (P : X → Type 0) (xs : List X) (i : ℕ) (y : X) → EachAt P xs → P y → EachAt P (slice_set xs i y)
each_set P [] i y each own j x e = absurd (none-some x e)
each_set P (z ∷ xs) zero y each own zero x e = subst P (same_Some y x e) own
each_set P (z ∷ xs) zero y each own (suc j) x e = each (suc j) x e
each_set P (z ∷ xs) (suc i) y each own zero x e = each zero x e
each_set P (z ∷ xs) (suc i) y each own (suc j) x e = each_set P xs i y (λ k. each (suc k)) own j x e

pub each_one : {X : Type 0} (P : X → Type 0) (y : X) → P y → EachAt P (y ∷ [])
each_one P y own zero x e = subst P (same_Some y x e) own
each_one P y own (suc i) x e = absurd (none-some x e)
