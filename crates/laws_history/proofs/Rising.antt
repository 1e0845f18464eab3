-- Fronts of lists that rise: what lies up to a key.
use Rattle.std.proofs.Common.{◌≡◌, ℕ, zero, suc, ◌<◌, Bool, true, false, cond, not, List, [], ◌∷◌, length, take, refl, sym, ap, ◌∙◌, arith}
use Rattle.std.proofs.lemmas.List.{length-take-le}
use Rattle.std.specs.List.{filter}
use Rattle.model_database.specs.Slices.{Entries}
use Rattle.model_database.specs.Intervals.{last_key}
use Rattle.range_read.proofs.Rising.{IsBefore, Rises}
use Rattle.range_read.proofs.Walks.{Entry}

-- an order of keys in which no key stands before itself
pub record IsStrict (lt : List ℕ → List ℕ → Bool) : Type 0 where
  pub irreflexive : (k : List ℕ) → lt k k ≡ false
  pub apart : (a b : List ℕ) → lt a b ≡ true → lt b a ≡ false
  pub trans : (a b c : List ℕ) → lt a b ≡ true → lt b c ≡ true → lt a c ≡ true

module _ (lt : List ℕ → List ℕ → Bool) where
  -- entries in the order of their keys
  abbrev pub by_key : Entry → Entry → Bool
  by_key a b = lt a.0 b.0

  -- the entries whose keys don't stand behind a key
  abbrev pub upto : List ℕ → Entries → Entries
  upto key es = filter (λ e. not (lt key e.0)) es

  module _ (o : IsStrict lt) where
    -- nothing lies up to a key that stands before an entry, of the list behind that entry
    none_upto : (key : List ℕ) (e : Entry) (es : Entries) → IsBefore by_key e es → lt key e.0 ≡ true → upto key es ≡ []
    none_upto key e [] before below = refl
    none_upto key e (f ∷ es) before below =
        ap (λ b. cond (not b) (f ∷ upto key es) (upto key es)) (o.trans key e.0 f.0 below before.0)
        ∙ none_upto key e es before.1 below

    -- nothing lies up to the key of an entry, of the list behind that entry
    none_upto_first : (e : Entry) (es : Entries) → IsBefore by_key e es → upto e.0 es ≡ []
    none_upto_first e [] before = refl
    none_upto_first e (f ∷ es) before =
        ap (λ b. cond (not b) (f ∷ upto e.0 es) (upto e.0 es)) before.0 ∙ none_upto_first e es before.1

    -- an entry stands before the last of those behind it
    before_last : (e : Entry) (d : List ℕ) (n : ℕ) (es : Entries) → IsBefore by_key e es → n < length es
        → lt e.0 (last_key d (take (suc n) es)) ≡ true
    before_last e d n [] before inside = absurd (omega arith)
    before_last e d zero (f ∷ es) before inside = before.0
    before_last e d (suc n) (f ∷ es) before inside = before_last e f.0 n es before.1 (omega arith)

    -- what lies up to the last key of a front is the front
    front_is : (d : List ℕ) (n : ℕ) (es : Entries) → Rises by_key es → n < length es
        → upto (last_key d (take (suc n) es)) es ≡ take (suc n) es
    front_is d n [] rises inside = absurd (omega arith)
    front_is d zero (e ∷ es) rises inside =
        ap (λ b. cond (not b) (e ∷ upto e.0 es) (upto e.0 es)) (o.irreflexive e.0)
        ∙ ap (λ xs. e ∷ xs) (none_upto_first e es rises.0)
    front_is d (suc n) (e ∷ es) rises inside =
        let z = last_key e.0 (take (suc n) es) in
        ap (λ b. cond (not b) (e ∷ upto z es) (upto z es)) (o.apart e.0 z (before_last e e.0 n es rises.0 (omega arith)))
        ∙ ap (λ xs. e ∷ xs) (front_is e.0 n es rises.1 (omega arith))

    -- what lies up to a key is a front
    upto_front : (key : List ℕ) (es : Entries) → Rises by_key es → take (length (upto key es)) es ≡ upto key es
    upto_front key [] rises = refl
    upto_front key (e ∷ es) rises =
        elim (lt key e.0)
        as (λ b. lt key e.0 ≡ b
        → take (length (cond (not b) (e ∷ upto key es) (upto key es))) (e ∷ es) ≡ cond (not b) (e ∷ upto key es) (upto key es)) [
          | true ↦ λ below. (λ i. take (length (none_upto key e es rises.0 below i)) (e ∷ es)) ∙ sym (none_upto key e es rises.0 below)
          | false ↦ λ above. ap (λ xs. e ∷ xs) (upto_front key es rises.1)
        ] refl

    -- a front is the same of another list that has the same up to its last key
    pub front_local : (d : List ℕ) (n : ℕ) (es fs : Entries) → Rises by_key es → Rises by_key fs → n < length es
        → upto (last_key d (take (suc n) es)) es ≡ upto (last_key d (take (suc n) es)) fs → take (suc n) es ≡ take (suc n) fs
    front_local d n es fs rising other inside same =
        let z = last_key d (take (suc n) es) in
        let front : upto z fs ≡ take (suc n) es = sym same ∙ front_is d n es rising inside in
        let so_many : length (take (suc n) es) ≡ suc n = length-take-le (suc n) es inside in
        sym (sym (λ i. take ((ap length front ∙ so_many) i) fs) ∙ upto_front z fs other ∙ front)
