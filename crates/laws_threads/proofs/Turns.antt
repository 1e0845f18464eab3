-- Whose turn it is, is one machine, and so orders by turns are one.
use Rattle.std.proofs.Common.{◌≡◌, ℕ, zero, suc, ◌<◌, ◌⊎◌, inl, inr, ⊎_elim, Bool, true, false, List, [], ◌∷◌, ◌++◌, Option, Some, None, refl, sym, ap, ◌∙◌, append_assoc, arith}
use Rattle.std.specs.Prelude.{option_and_then}
use Rattle.std.proofs.lemmas.List.{append-nil}
use Rattle.model_commands.specs.declared.args.RunArgs.{RunArgs}
use Rattle.model_machine.specs.Laws.{run_from-append}
use Rattle.model_machine.specs.Runs.{AreByTurns, HasTurn, IsFirstFrom, Run, RunsTo, has_request, run_from, start, turn_after}
use Rattle.laws_threads.specs.OneOrder.{HaveOneOrder}
use Rattle.laws_threads.proofs.Resting.{complete_asks_none}

-- ---- one machine has the turn

has_none : {A : Type 0} (b : Bool) → b ≡ true → b ≡ false → A
has_none b has none = absurd (let both : true ≡ false = sym has ∙ none in cc)

three_ways : (n m : ℕ) → (n < m) ⊎ (n ≡ m) ⊎ (m < n)
three_ways zero zero = inr (inl refl)
three_ways zero (suc m) = inl (omega arith)
three_ways (suc n) zero = inr (inr (omega arith))
three_ways (suc n) (suc m) =
    ⊎_elim (λ less. inl (omega (arith, less)))
    (⊎_elim (λ same. inr (inl (ap suc same))) (λ more. inr (inr (omega (arith, more)))))
    (three_ways n m)

one_first : (from : ℕ) (run : Run) (n m : ℕ) → IsFirstFrom from run n → IsFirstFrom from run m → n ≡ m
one_first from run n m first other =
    ⊎_elim (λ less. has_none (has_request run n) first.has_one (other.first n first.not_below less))
    (⊎_elim (λ same. same) (λ more. has_none (has_request run m) other.has_one (first.first m other.not_below more)))
    (three_ways n m)

one_turn : (from : ℕ) (run : Run) (n m : ℕ) → HasTurn from run n → HasTurn from run m → n ≡ m
one_turn from run n m (inl first) (inl other) = one_first from run n m first other
one_turn from run n m (inl first) (inr other) = has_none (has_request run n) first.has_one (other.0 n first.not_below)
one_turn from run n m (inr first) (inl other) = has_none (has_request run m) other.has_one (first.0 m other.not_below)
one_turn from run n m (inr first) (inr other) = one_first 0 run n m first.1 other.1

has_turn_asks : (from : ℕ) (run : Run) (n : ℕ) → HasTurn from run n → has_request run n ≡ true
has_turn_asks from run n (inl first) = first.has_one
has_turn_asks from run n (inr first) = first.1.has_one

-- ---- orders by turns

-- the run that the front of an order leads to
pub record FrontRuns (pairs : List (List ℕ × List ℕ)) (arguments : RunArgs) (front : List ℕ) : Type 0 where
  pub its_run : Run
  pub runs : run_from front (start pairs arguments) ≡ Some its_run

front_runs : (pairs : List (List ℕ × List ℕ)) (arguments : RunArgs) (front rest : List ℕ) (run : Run)
    → run_from (front ++ rest) (start pairs arguments) ≡ Some run → FrontRuns pairs arguments front
front_runs pairs arguments front rest run runs =
    by (run_from front (start pairs arguments)) refl (sym (run_from-append front rest (start pairs arguments)) ∙ runs)
  where
    by : (found : Option Run) → run_from front (start pairs arguments) ≡ found → option_and_then (run_from rest) found ≡ Some run
        → FrontRuns pairs arguments front
    by None is e = absurd cc
    by (Some its_run) is e = record { its_run = its_run; runs = is }

-- an order by turns goes on where another, up to there the same, is complete: it doesn't
stops_there : {A : Type 0} (pairs : List (List ℕ × List ℕ)) (arguments : RunArgs) (front rest order other : List ℕ) (number : ℕ) (run : Run)
    → order ≡ front ++ [] → other ≡ front ++ number ∷ rest → RunsTo pairs arguments order run → AreByTurns pairs arguments other → A
stops_there pairs arguments front rest order other number run is other_is runs turns =
    let here : run_from front (start pairs arguments) ≡ Some run =
    ap (λ (o : List ℕ). run_from o (start pairs arguments)) (sym (is ∙ append-nil front)) ∙ runs.runs in
    has_none (has_request run number) (has_turn_asks (turn_after front) run number (turns front rest number run other_is here))
    (complete_asks_none pairs arguments order run runs.runs runs.complete number)

one_rest : (pairs : List (List ℕ × List ℕ)) (arguments : RunArgs) (front rest other_rest order other : List ℕ) (run other_run : Run)
    → order ≡ front ++ rest → other ≡ front ++ other_rest → RunsTo pairs arguments order run → RunsTo pairs arguments other other_run
    → AreByTurns pairs arguments order → AreByTurns pairs arguments other → rest ≡ other_rest
one_rest pairs arguments front [] [] order other run other_run is other_is runs other_runs turns other_turns = refl
one_rest pairs arguments front [] (number ∷ rest) order other run other_run is other_is runs other_runs turns other_turns =
    stops_there pairs arguments front rest order other number run is other_is runs other_turns
one_rest pairs arguments front (number ∷ rest) [] order other run other_run is other_is runs other_runs turns other_turns =
    stops_there pairs arguments front rest other order number other_run other_is is other_runs turns
one_rest pairs arguments front (number ∷ rest) (next ∷ others) order other run other_run is other_is runs other_runs turns other_turns =
    let there = front_runs pairs arguments front (number ∷ rest) run
    (ap (λ (o : List ℕ). run_from o (start pairs arguments)) (sym is) ∙ runs.runs) in
    let same : number ≡ next = one_turn (turn_after front) there.its_run number next
    (turns front rest number there.its_run is there.runs) (other_turns front others next there.its_run other_is there.runs) in
    let later : rest ≡ others = one_rest pairs arguments (front ++ number ∷ []) rest others order other run other_run
    (is ∙ sym (append_assoc front (number ∷ []) rest))
    (other_is ∙ ap (λ n. front ++ n ∷ others) (sym same) ∙ sym (append_assoc front (number ∷ []) others))
    runs other_runs turns other_turns in
    (λ i. same i ∷ later i)

pub one_order : HaveOneOrder
one_order pairs arguments order other run other_run runs other_runs turns other_turns =
    one_rest pairs arguments [] order other order other run other_run refl refl runs other_runs turns other_turns
