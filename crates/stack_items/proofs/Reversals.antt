-- A stack's list of items has its top first, the Vec behind it its oldest: what an edit of the one is in the other.
use Rattle.std.proofs.Common.{List, [], ◌∷◌, ◌++◌, length, take, drop, get_or, set, reverse}
use Rattle.std.proofs.Common.{◌≡◌, ◌≢◌, ℕ, ◌-◌, ◌<◌, ◌≤◌, refl, sym, ap, ◌∙◌, ⊎_elim, arith}
use Rattle.std.specs.List.{swap, AllByRecursion}
use Rattle.std.proofs.lemmas.Bool.{cases_eq}
use Rattle.std.proofs.lemmas.List.{length-reverse, length-set, length-drop, get_or-reverse, get_or-set_same, get_or-set_other, same_lists}
use Rattle.std.proofs.lemmas.List.{take-append-drop, take_at, drop_at, reverse-append, reverse-reverse}
use Rattle.std.proofs.lemmas.List.Edits.{swap_is}
use Rattle.std.proofs.lemmas.List.Elements.{All-from_recursion, recursion_from_All}
use Rattle.std.proofs.lemmas.List.Sorted.{IsPermutation-swap, All-permutation}

-- the place counted from the other end
abbrev from_end : {X : Type 0} → List X → ℕ → ℕ
from_end xs i = length xs - 1 - i

set_at : {X : Type 0} (xs : List X) (i k : ℕ) (x d : X) → i < length xs → k < length xs
    → get_or (set xs (from_end xs i) x) (from_end xs k) d ≡ get_or (set (reverse xs) i x) k d
set_at xs i k x d lt lt' = ⊎_elim
    (λ (e : k ≡ i). rw e (get_or-set_same xs (from_end xs i) x d (omega arith) ∙ sym (get_or-set_same (reverse xs) i x d (omega (arith, length-reverse xs)))))
    (λ (ne : k ≢ i). get_or-set_other xs (from_end xs i) (from_end xs k) x d (λ e. ne (omega arith)) ∙ sym (get_or-set_other (reverse xs) i k x d ne ∙ get_or-reverse xs k d lt'))
    (cases_eq k i)

reverse-set : {X : Type 0} (xs : List X) (i : ℕ) (x : X) → i < length xs → reverse (set xs (from_end xs i) x) ≡ set (reverse xs) i x
reverse-set xs i x lt =
    let same : length (set xs (from_end xs i) x) ≡ length xs = length-set xs (from_end xs i) x in
    same_lists _ _ (length-reverse _ ∙ same ∙ sym (length-set (reverse xs) i x ∙ length-reverse xs)) (λ k d below.
    let inside : k < length (set xs (from_end xs i) x) = omega (arith, length-reverse (set xs (from_end xs i) x)) in
    get_or-reverse (set xs (from_end xs i) x) k d inside
    ∙ ap (λ n. get_or (set xs (from_end xs i) x) (n - 1 - k) d) same
    ∙ set_at xs i k x d lt (omega arith))

reverse-swap_by : {X : Type 0} (xs : List X) (i j : ℕ) (d : X) → i < length xs → j < length xs
    → reverse (swap xs (from_end xs i) (from_end xs j)) ≡ swap (reverse xs) i j
reverse-swap_by xs i j d lt lt' =
    let first = get_or xs (from_end xs i) d in
    let second = get_or xs (from_end xs j) d in
    let edited = set xs (from_end xs i) second in
    let same : length edited ≡ length xs = length-set xs (from_end xs i) second in
    ap reverse (sym (swap_is xs (from_end xs i) (from_end xs j) d (omega arith) (omega arith)))
    ∙ ap (λ n. reverse (set edited (n - 1 - j) first)) (sym same)
    ∙ reverse-set edited j first (omega arith)
    ∙ ap (λ ys. set ys j first) (reverse-set xs i second lt)
    ∙ rw (sym (get_or-reverse xs i d lt), sym (get_or-reverse xs j d lt')) (swap_is (reverse xs) i j d (omega (arith, length-reverse xs)) (omega (arith, length-reverse xs)))

reverse-swap : {X : Type 0} (xs : List X) (i j : ℕ) → i < length xs → j < length xs
    → reverse (swap xs (from_end xs i) (from_end xs j)) ≡ swap (reverse xs) i j
reverse-swap [] i j lt lt' = refl
reverse-swap (x ∷ xs) i j lt lt' = reverse-swap_by (x ∷ xs) i j x lt lt'

-- the last element, and the one so many places before it
pub reverse-swap_last : {X : Type 0} (xs : List X) (depth : ℕ) → depth < length xs
    → reverse (swap xs (length xs - 1) (length xs - 1 - depth)) ≡ swap (reverse xs) 0 depth
reverse-swap_last xs depth lt =
    ap (λ (last : ℕ). reverse (swap xs last (length xs - 1 - depth))) (omega arith) ∙ reverse-swap xs 0 depth (omega arith) lt

pub all-swap : {X : Type 0} (P : X → Type 0) (xs : List X) (i j : ℕ) → i < length xs → j < length xs → AllByRecursion P xs
    → AllByRecursion P (swap xs i j)
all-swap P xs i j lt lt' all =
    recursion_from_All P (swap xs i j) (All-permutation P xs (swap xs i j) (IsPermutation-swap xs (swap xs i j) i j lt lt' refl) (All-from_recursion P xs all))

-- ---- the first items, and those below

reverse-split : {X : Type 0} (n : ℕ) (xs : List X) → reverse xs ≡ reverse (drop n xs) ++ reverse (take n xs)
reverse-split n xs = ap reverse (sym (take-append-drop n xs)) ∙ reverse-append (take n xs) (drop n xs)

length-reverse-drop : {X : Type 0} (n : ℕ) (xs : List X) → length (reverse (drop n xs)) ≡ length xs - n
length-reverse-drop n xs = length-reverse (drop n xs) ∙ length-drop n xs

-- the last elements, as many as n says
pub drop-reverse : {X : Type 0} (n : ℕ) (xs : List X) → drop (length xs - n) (reverse xs) ≡ reverse (take n xs)
drop-reverse n xs =
    ap (drop (length xs - n)) (reverse-split n xs)
    ∙ drop_at (reverse (drop n xs)) (reverse (take n xs)) (length xs - n) (length-reverse-drop n xs)

pub drop-reverse_within : {X : Type 0} (n : ℕ) (xs : List X) → n ≤ length xs → drop n (reverse xs) ≡ reverse (take (length xs - n) xs)
drop-reverse_within n xs le =
    let same : length xs - (length xs - n) ≡ n = omega arith in
    ap (λ k. drop k (reverse xs)) (sym same) ∙ drop-reverse (length xs - n) xs

-- and those before them
pub take-reverse : {X : Type 0} (n : ℕ) (xs : List X) → take (length xs - n) (reverse xs) ≡ reverse (drop n xs)
take-reverse n xs =
    ap (take (length xs - n)) (reverse-split n xs)
    ∙ take_at (reverse (drop n xs)) (reverse (take n xs)) (length xs - n) (length-reverse-drop n xs)

-- the list whose last elements were taken off
pub kept_is : {X : Type 0} (n : ℕ) (xs kept : List X) → reverse kept ≡ take (length xs - n) (reverse xs) → kept ≡ drop n xs
kept_is n xs kept e = sym (reverse-reverse kept) ∙ ap reverse (e ∙ take-reverse n xs) ∙ reverse-reverse (drop n xs)
