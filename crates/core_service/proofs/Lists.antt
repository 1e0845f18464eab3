-- Elements of lists by their places, and beginnings of lists.
use Rattle.std.proofs.Common.{◌≡◌, ℕ, zero, suc, ◌+◌, ◌<◌, Bool, true, false, cond, eqb, List, [], ◌∷◌, ◌++◌, length, map, get_or, Option, Some, refl, sym, ap, subst, ◌∙◌, arith}
use Rattle.std.specs.Prelude.{slice_get}
use Rattle.std.specs.List.{All, Any}
use Rattle.std.proofs.lemmas.List.Elements.{All-head, All-tail}
use Rattle.std.proofs.lemmas.Option.{get_or_from_slice_get, none-some, same_Some, slice_get_within}
use mathlib.Core.List.{cons≢nil, head-eq_of_cons-eq, tail-eq_of_cons-eq}
use Rattle.laws_threads.proofs.Lists.{EachAt, there}

-- ---- elements

-- an element of a mapped list is that of an element
pub record IsMapped {X Y : Type 0} (f : X → Y) (xs : List X) (i : ℕ) (y : Y) : Type 0 where
  pub from : X
  pub there : slice_get xs i ≡ Some from
  pub is : f from ≡ y

pub mapped_there : {X Y : Type 0} (f : X → Y) (xs : List X) (i : ℕ) (y : Y) → slice_get (map f xs) i ≡ Some y → IsMapped f xs i y
mapped_there f [] i y e = absurd (none-some y e)
mapped_there f (x ∷ xs) zero y e = record { from = x; there = refl; is = same_Some (f x) y e }
mapped_there f (x ∷ xs) (suc i) y e =
    let later = mapped_there f xs i y e in
    record { from = later.from; there = later.there; is = later.is }

pub each_of_all : {X : Type 0} (P : X → Type 0) (xs : List X) → All P xs → EachAt P xs
each_of_all P xs all i x e = subst P (get_or_from_slice_get xs i x x e) (all i x (slice_get_within xs i x e))

pub all_of_each : {X : Type 0} (P : X → Type 0) (xs : List X) → EachAt P xs → All P xs
all_of_each P xs each i d inside =
    let it = there xs i inside in
    subst P (sym (get_or_from_slice_get xs i it.0 d it.1)) (each i it.0 it.1)

-- one of which something holds stands at some place
pub record IsFound {X : Type 0} (P : X → Type 0) (xs : List X) : Type 0 where
  pub place : ℕ
  pub found : X
  pub there : slice_get xs place ≡ Some found
  pub holds : P found

pub found_there : {X : Type 0} (P : X → Type 0) (xs : List X) → Any P xs → IsFound P xs
found_there P xs any =
    let it = there xs any.0 any.2 in
    record {
      place = any.0;
      found = it.0;
      there = it.1;
      holds = subst P (sym any.3 ∙ get_or_from_slice_get xs any.0 it.0 any.1 it.1) any.4;
    }

pub all_front : {X : Type 0} (P : X → Type 0) (xs ys : List X) → All P (xs ++ ys) → All P xs
all_front P [] ys all i d inside = absurd (omega (arith, inside))
all_front P (x ∷ xs) ys all zero d inside = All-head P x (xs ++ ys) all
all_front P (x ∷ xs) ys all (suc i) d inside = all_front P xs ys (All-tail P x (xs ++ ys) all) i d (omega (arith, inside))

pub all_at_seam : {X : Type 0} (P : X → Type 0) (xs : List X) (x : X) (ys : List X) → All P (xs ++ x ∷ ys) → P x
all_at_seam P [] x ys all = All-head P x ys all
all_at_seam P (y ∷ xs) x ys all = all_at_seam P xs x ys (All-tail P y (xs ++ x ∷ ys) all)

-- ---- beginnings

pub never_empty : {X : Type 0} (xs : List X) (x : X) (ys : List X) → [] ≡ xs ++ x ∷ ys → ⊥
never_empty [] x ys e = absurd (cons≢nil (sym e))
never_empty (y ∷ xs) x ys e = absurd (cons≢nil (sym e))

-- values that are the beginning of some others
pub record GoesOn {X : Type 0} (front longer : List X) : Type 0 where
  pub more : List X
  pub is : longer ≡ front ++ more

pub goes_on_values : {X : Type 0} (xs ys : List X) (more : List (Option X)) → map Some xs ++ more ≡ map Some ys → GoesOn xs ys
goes_on_values [] ys more e = record { more = ys; is = refl }
goes_on_values (x ∷ xs) [] more e = absurd (cons≢nil e)
goes_on_values (x ∷ xs) (y ∷ ys) more e =
    let later = goes_on_values xs ys more (tail-eq_of_cons-eq e) in
    record { more = later.more; is = (λ i. sym (same_Some x y (head-eq_of_cons-eq e)) i ∷ later.is i) }

pub same_values : {X : Type 0} (xs ys : List X) → map Some xs ≡ map Some ys → xs ≡ ys
same_values [] [] e = refl
same_values [] (y ∷ ys) e = absurd (cons≢nil (sym e))
same_values (x ∷ xs) [] e = absurd (cons≢nil e)
same_values (x ∷ xs) (y ∷ ys) e =
    let rest = same_values xs ys (tail-eq_of_cons-eq e) in
    (λ i. same_Some x y (head-eq_of_cons-eq e) i ∷ rest i)

-- what ends before an element of a list's front ends within the front
pub within_front : {X : Type 0} (front shorter rest : List X) (x y : X) → front ++ x ∷ [] ≡ shorter ++ y ∷ rest → GoesOn shorter front
within_front front [] rest x y e = record { more = front; is = refl }
within_front [] (z ∷ shorter) rest x y e = absurd (never_empty shorter y rest (tail-eq_of_cons-eq e))
within_front (w ∷ front) (z ∷ shorter) rest x y e =
    let later = within_front front shorter rest x y (tail-eq_of_cons-eq e) in
    record { more = later.more; is = (λ i. head-eq_of_cons-eq e i ∷ later.is i) }
