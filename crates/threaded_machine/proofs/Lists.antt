-- Beginnings of lists, and what holds of some element of one list or of another.
use Rattle.std.proofs.Common.{◌+◌, List, [], ◌∷◌, ◌++◌, length, refl, sym, ap, ◌∙◌, append_assoc, length-append, arith}
use Rattle.std.specs.List.{Any}
use Rattle.std.proofs.Math.ListN.{get_or-append}
use Rattle.std.proofs.lemmas.List.{append-nil, get_or-append-add}
use mathlib.Core.List.{IsPrefix}

pub prefix_refl : {X : Type 0} (xs : List X) → IsPrefix xs xs
prefix_refl xs = ([], append-nil xs)

pub prefix_trans : {X : Type 0} (xs ys zs : List X) → IsPrefix xs ys → IsPrefix ys zs → IsPrefix xs zs
prefix_trans xs ys zs front other =
    (front.0 ++ other.0, sym (append_assoc xs front.0 other.0) ∙ ap (λ l. l ++ other.0) front.1 ∙ other.1)

pub Any_front : {X : Type 0} (P : X → Type 0) (xs ys : List X) → Any P xs → Any P (xs ++ ys)
Any_front P xs ys found = (
  found.0,
  found.1,
  omega (arith, found.2, length-append xs ys),
  get_or-append xs ys found.1 found.0 found.2 ∙ found.3,
  found.4,
)

pub Any_back : {X : Type 0} (P : X → Type 0) (xs ys : List X) → Any P ys → Any P (xs ++ ys)
Any_back P xs ys found = (
  length xs + found.0,
  found.1,
  omega (arith, found.2, length-append xs ys),
  get_or-append-add xs ys found.0 found.1 ∙ found.3,
  found.4,
)

pub Any_first : {X : Type 0} (P : X → Type 0) (x : X) (xs : List X) → P x → Any P (x ∷ xs)
Any_first P x xs own = (0, x, omega arith, refl, own)

-- what holds of some element of a list holds of some element of an equal one, weakened
pub Any_weaker : {X : Type 0} (P Q : X → Type 0) (xs : List X) → ((x : X) → P x → Q x) → Any P xs → Any Q xs
Any_weaker P Q xs weaker found = (found.0, found.1, found.2, found.3, weaker found.1 found.4)
