-- The newest commit of a key: of one commit more, and against the commits after a version.
use Rattle.std.proofs.Common.{◌≡◌, ℕ, ◌+◌, ◌-◌, ◌<◌, ◌≤◌, ◌⊎◌, Bool, true, false, cond, List, [], ◌∷◌, ◌++◌, length, drop, inl, inr, refl, sym, ap, ◌∙◌, suc, arith}
use Rattle.std.specs.Prelude.{◌||◌, nat_lt, if◌then◌else◌}
use Rattle.std.specs.List.{list_any}
use Rattle.std.proofs.Math.Bool.{or-false}
use Rattle.std.proofs.Math.Seq.{drop-nil}
use Rattle.std.proofs.lemmas.Bool.{cases_lt, cond_both, le-ltb, lt-ltb, or_right}
use Rattle.model_database.specs.States.{covers}
use Rattle.model_database.specs.Histories.{Commit, History}
use Rattle.model_database.specs.Newest.{newest_from, newest_of}

-- one of these commits has the key among its write conflict ranges
abbrev pub any_adds_conflict : List Commit → List ℕ → Bool
any_adds_conflict commits k = list_any (λ commit. covers commit.write_conflicts k) commits

-- among commits of which the first has this number
newest_from_push : (number newest : ℕ) (commits : List Commit) (commit : Commit) (k : List ℕ)
    → newest_from number newest (commits ++ commit ∷ []) k
    ≡ cond (covers commit.write_conflicts k) (number + length commits) (newest_from number newest commits k)
newest_from_push number newest [] commit k = ap (λ n. cond (covers commit.write_conflicts k) n newest) (omega arith)
newest_from_push number newest (first ∷ commits) commit k =
    let before = cond (covers first.write_conflicts k) number newest in
    newest_from_push (number + 1) before commits commit k
    ∙ ap (λ n. cond (covers commit.write_conflicts k) n (newest_from (number + 1) before commits k)) (omega arith)

-- one more commit is the newest of the keys of its write conflict ranges, and of no other
pub newest_push : (history : History) (commit : Commit) (k : List ℕ)
    → newest_of (history ++ commit ∷ []) k ≡ (if covers commit.write_conflicts k then length history + 1 else newest_of history k)
newest_push history commit k =
    newest_from_push 1 0 history commit k ∙ ap (λ n. cond (covers commit.write_conflicts k) n (newest_of history k)) (omega arith)

newest_from_bound : (number newest : ℕ) (commits : List Commit) (k : List ℕ) → newest < number
    → newest_from number newest commits k < number + length commits
newest_from_bound number newest [] k less = omega arith
newest_from_bound number newest (commit ∷ commits) k less =
    let rest = newest_from_bound (number + 1) (cond (covers commit.write_conflicts k) number newest) commits k
    (cond_both (covers commit.write_conflicts k) number newest (λ n. n < number + 1) (λ _. omega arith) (λ _. omega arith)) in
    omega (arith, rest)

-- it is one of the history
pub newest_bound : (history : History) (k : List ℕ) → newest_of history k ≤ length history
newest_bound history k = let less = newest_from_bound 1 0 history k (omega arith) in omega (arith, less)

newest_from_later : (number newest version : ℕ) (commits : List Commit) (k : List ℕ) → newest < number
    → nat_lt version (newest_from number newest commits k) ≡ (nat_lt version newest || any_adds_conflict (drop (version + 1 - number) commits) k)
newest_from_later number newest version [] k less =
    sym (ap (λ list. nat_lt version newest || any_adds_conflict list k) (drop-nil (version + 1 - number)) ∙ or-false (nat_lt version newest))
newest_from_later number newest version (commit ∷ commits) k less =
    newest_from_later (number + 1) (cond (covers commit.write_conflicts k) number newest) version commits k
    (cond_both (covers commit.write_conflicts k) number newest (λ n. n < number + 1) (λ _. omega arith) (λ _. omega arith))
    ∙ by (cases_lt version number)
  where
    now : (b rest : Bool) → version < number
        → (nat_lt version (cond b number newest) || rest) ≡ (nat_lt version newest || (b || rest))
    now true rest before =
        ap (λ b. b || rest) (lt-ltb version number before) ∙ sym (or_right (nat_lt version newest) true refl)
    now false rest before = refl

    by : (version < number) ⊎ (number ≤ version)
        → (nat_lt version (cond (covers commit.write_conflicts k) number newest) || any_adds_conflict (drop (version + 1 - (number + 1)) commits) k)
        ≡ (nat_lt version newest || any_adds_conflict (drop (version + 1 - number) (commit ∷ commits)) k)
    by (inl before) =
        let none : version + 1 - (number + 1) ≡ 0 = omega arith in
        let none_yet : version + 1 - number ≡ 0 = omega arith in
        ap (λ n. nat_lt version (cond (covers commit.write_conflicts k) number newest) || any_adds_conflict (drop n commits) k) none
        ∙ now (covers commit.write_conflicts k) (any_adds_conflict commits k) before
        ∙ sym (ap (λ n. nat_lt version newest || any_adds_conflict (drop n (commit ∷ commits)) k) none_yet)
    by (inr after) =
        let left : version + 1 - (number + 1) ≡ version - number = omega arith in
        let one_more : version + 1 - number ≡ suc (version - number) = omega arith in
        ap (λ b. b || any_adds_conflict (drop (version + 1 - (number + 1)) commits) k)
        (cond_both (covers commit.write_conflicts k) number newest (λ n. nat_lt version n ≡ false) (λ _. le-ltb version number after)
        (λ _. le-ltb version newest (omega arith)))
        ∙ ap (λ n. any_adds_conflict (drop n commits) k) left
        ∙ sym (ap (λ n. any_adds_conflict (drop n (commit ∷ commits)) k) one_more)
        ∙ sym (ap (λ b. b || any_adds_conflict (drop (version + 1 - number) (commit ∷ commits)) k) (le-ltb version newest (omega arith)))

-- a commit after a version has a key among its write conflict ranges exactly where the newest of the key is after it
pub newest_later : (history : History) (version : ℕ) (k : List ℕ)
    → nat_lt version (newest_of history k) ≡ any_adds_conflict (drop version history) k
newest_later history version k =
    let same : version + 1 - 1 ≡ version = omega arith in
    newest_from_later 1 0 version history k (omega arith)
    ∙ ap (λ b. b || any_adds_conflict (drop (version + 1 - 1) history) k) (le-ltb version 0 (omega arith))
    ∙ ap (λ n. any_adds_conflict (drop n history) k) same
