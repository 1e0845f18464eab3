-- Pairs, one after the other.
use Rattle.std.proofs.Common.{◌≡◌, ℕ, ◌+◌, ◌<◌, ◌≤◌, true, false, List, [], ◌∷◌, ◌++◌, length, get_or, drop, Option, Some, None, Result, Ok, Err, refl, sym, ap, ◌∙◌, append_assoc}
use Rattle.std.specs.List.{AllByRecursion}
use Rattle.std.proofs.lemmas.List.{append-nil, drop_more, drop_all}
use Rattle.key_bytes.specs.declared.pairs.Pair.{Pair}
use Rattle.key_bytes.specs.Entries.{entry_of, entries_of}
use Rattle.instr_grammar.specs.Taking.{Taken, step, with_text, taken_on, take_pairs}
use Rattle.instr_text.specs.declared.taking.Taker.{Taker}
use Rattle.instr_text.specs.Taken.{IsTaken, Steps}

-- where the program stands, with the text that it has written
pub record StandsIn (taker : Taker) (line : ℕ) (text : List ℕ) (left : List Pair) (total : Result (List ℕ) ℕ) : Type 0 where
  pub taken : Taken
  pub is_taken : IsTaken taker taken
  pub all : with_text text (take_pairs line taken (entries_of left)) ≡ total

pub nothing_written : (read : Result (List ℕ) ℕ) → with_text [] read ≡ read
nothing_written (Ok text) = refl
nothing_written (Err line) = refl

texts_join : (front more : List ℕ) (read : Result (List ℕ) ℕ) → with_text front (with_text more read) ≡ with_text (front ++ more) read
texts_join front more (Ok rest) = ap (λ (x : List ℕ). Ok x) (sym (append_assoc front more rest))
texts_join front more (Err line) = refl

by_step : (taker : Taker) (line : ℕ) (before after : List ℕ) (left : List Pair) (total : Result (List ℕ) ℕ) (one : Option (List ℕ × Taken))
    → Steps true taker before after one → with_text before (taken_on line one (λ next. take_pairs (line + 1) next (entries_of left))) ≡ total
    → StandsIn taker (line + 1) after left total
by_step taker line before after left total None steps so_far = absurd steps
by_step taker line before after left total (Some one) steps so_far = record {
  taken = one.1;
  is_taken = steps.1;
  all = ap (λ (x : List ℕ). with_text x (take_pairs (line + 1) one.1 (entries_of left))) steps.0
      ∙ sym (texts_join before one.0 (take_pairs (line + 1) one.1 (entries_of left))) ∙ so_far;
}

-- a pair was taken apart
pub pair_goes_on : (old new : Taker) (line i : ℕ) (before after : List ℕ) (items : List Pair) (pair : Pair) (total : Result (List ℕ) ℕ) → i < length items
    → pair ≡ get_or items i pair → (stands : StandsIn old line before (drop i items) total) → Steps true new before after (step stands.taken (entry_of pair))
    → StandsIn new (line + 1) after (drop (i + 1) items) total
unfolding take_pairs
pair_goes_on old new line i before after items pair total h is stands steps =
    let here : drop i items ≡ pair ∷ drop (i + 1) items = drop_more items i pair h ∙ ap (λ (p : Pair). p ∷ drop (i + 1) items) (sym is) in
    by_step new line before after (drop (i + 1) items) total (step stands.taken (entry_of pair)) steps
    (ap (λ (left : List Pair). with_text before (take_pairs line stands.taken (entries_of left))) (sym here) ∙ stands.all)

by_end : (taker : Taker) (line : ℕ) (before after : List ℕ) (total : Result (List ℕ) ℕ) (one : Option (List ℕ × Taken)) (more : Taken → Result (List ℕ) ℕ)
    → Steps false taker before after one → with_text before (taken_on line one more) ≡ total → total ≡ Err line
by_end taker line before after total None more steps so_far = sym so_far
by_end taker line before after total (Some one) more steps so_far = absurd steps

-- a pair can't follow
pub pair_ends : (old new : Taker) (line i : ℕ) (before after : List ℕ) (items : List Pair) (pair : Pair) (total : Result (List ℕ) ℕ) → i < length items
    → pair ≡ get_or items i pair → (stands : StandsIn old line before (drop i items) total) → Steps false new before after (step stands.taken (entry_of pair))
    → total ≡ Err line
unfolding take_pairs
pair_ends old new line i before after items pair total h is stands steps =
    let here : drop i items ≡ pair ∷ drop (i + 1) items = drop_more items i pair h ∙ ap (λ (p : Pair). p ∷ drop (i + 1) items) (sym is) in
    by_end new line before after total (step stands.taken (entry_of pair)) (λ next. take_pairs (line + 1) next (entries_of (drop (i + 1) items))) steps
    (ap (λ (left : List Pair). with_text before (take_pairs line stands.taken (entries_of left))) (sym here) ∙ stands.all)

-- all pairs were taken apart
pub pairs_end : (taker : Taker) (line i : ℕ) (text : List ℕ) (items : List Pair) (total : Result (List ℕ) ℕ) → length items ≤ i
    → StandsIn taker line text (drop i items) total → total ≡ Ok text
unfolding take_pairs
pairs_end taker line i text items total h stands =
    let nothing = drop_all i items h in
    sym stands.all ∙ ap (λ (left : List Pair). with_text text (take_pairs line stands.taken (entries_of left))) nothing
    ∙ ap (λ (x : List ℕ). Ok x) (append-nil text)

-- ---- bytes

pub all_push : {A : Type 0} (P : A → Type 0) (xs : List A) (x : A) → AllByRecursion P xs → P x → AllByRecursion P (xs ++ x ∷ [])
all_push P [] x h k = (k, tt)
all_push P (y ∷ xs) x h k = (h.0, all_push P xs x h.1 k)
