-- Orders by turns, one place more.
use Rattle.std.proofs.Common.{◌≡◌, ℕ, ◌+◌, ◌⊎◌, ⊎_elim, inl, inr, List, [], ◌∷◌, ◌++◌, Some, refl, sym, ap, subst, ◌∙◌}
use Rattle.std.proofs.lemmas.Option.{same_Some}
use Rattle.model_commands.specs.declared.args.RunArgs.{RunArgs}
use Rattle.model_machine.specs.Runs.{AreByTurns, HasTurn, Run, run_from, start, turn_after}

-- what is said of a list's first element and of the rest
abbrev head_or : ℕ → List ℕ → ℕ
head_or other [] = other
head_or other (x ∷ xs) = x

abbrev rest_of : List ℕ → List ℕ
rest_of [] = []
rest_of (x ∷ xs) = xs

same_heads : (x y : ℕ) (xs ys : List ℕ) → x ∷ xs ≡ y ∷ ys → x ≡ y
same_heads x y xs ys e = ap (head_or x) e

same_rests : (x y : ℕ) (xs ys : List ℕ) → x ∷ xs ≡ y ∷ ys → xs ≡ ys
same_rests x y xs ys e = ap rest_of e

pub none_behind : (front : List ℕ) (number : ℕ) (rest : List ℕ) → [] ≡ front ++ number ∷ rest → ⊥
none_behind [] number rest e = absurd cc
none_behind (first ∷ front) number rest e = absurd cc

-- a place of an order with one place more is the last one, or a place of the order
pub record IsLast (order front : List ℕ) (last number : ℕ) : Type 0 where
  pub front_is : order ≡ front
  pub number_is : last ≡ number

pub record IsBefore (order front : List ℕ) (number : ℕ) : Type 0 where
  pub behind : List ℕ
  pub is : order ≡ front ++ number ∷ behind

one_of : (order front rest : List ℕ) (last number : ℕ) → order ++ last ∷ [] ≡ front ++ number ∷ rest
    → IsLast order front last number ⊎ IsBefore order front number
one_of [] [] rest last number e = inl (record { front_is = refl; number_is = same_heads last number [] rest e })
one_of [] (first ∷ front) rest last number e =
    absurd (none_behind front number rest (same_rests last first [] (front ++ number ∷ rest) e))
one_of (place ∷ order) [] rest last number e =
    inr (record { behind = order; is = ap (λ n. n ∷ order) (same_heads place number (order ++ last ∷ []) rest e) })
one_of (place ∷ order) (first ∷ front) rest last number e =
    let same = same_heads place first (order ++ last ∷ []) (front ++ number ∷ rest) e in
    let later = same_rests place first (order ++ last ∷ []) (front ++ number ∷ rest) e in
    ⊎_elim
    (λ is. inl (record { front_is = (λ i. same i ∷ is.front_is i); number_is = is.number_is }))
    (λ is. inr (record { behind = is.behind; is = (λ i. same i ∷ is.is i) }))
    (one_of order front rest last number later)

-- one more request of the machine whose turn it is
pub turns_longer : (pairs : List (List ℕ × List ℕ)) (arguments : RunArgs) (order : List ℕ) (run : Run) (last : ℕ) → AreByTurns pairs arguments order
    → run_from order (start pairs arguments) ≡ Some run → HasTurn (turn_after order) run last → AreByTurns pairs arguments (order ++ last ∷ [])
turns_longer pairs arguments order run last turns runs turn front rest number its_run e its_runs =
    ⊎_elim
    (λ is.
    let same : run ≡ its_run =
    same_Some run its_run (sym runs ∙ ap (λ (o : List ℕ). run_from o (start pairs arguments)) is.front_is ∙ its_runs) in
    subst (λ (n : ℕ). HasTurn (turn_after front) its_run n) is.number_is
    (subst (λ (r : Run). HasTurn (turn_after front) r last) same
    (subst (λ (o : List ℕ). HasTurn (turn_after o) run last) is.front_is turn)))
    (λ is. turns front is.behind number its_run is.is its_runs)
    (one_of order front rest last number e)

-- the next turn looks from behind the last place on
pub turn_after-longer : (order : List ℕ) (last : ℕ) → turn_after (order ++ last ∷ []) ≡ last + 1
turn_after-longer [] last = refl
turn_after-longer (place ∷ []) last = refl
turn_after-longer (place ∷ other ∷ order) last = turn_after-longer (other ∷ order) last
