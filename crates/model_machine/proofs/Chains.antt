-- Commits behind others.
use Rattle.std.proofs.Common.{◌≡◌, ℕ, ◌≤◌, List, [], ◌∷◌, ◌++◌, length, sym, ap, subst}
use Rattle.std.specs.FinMap as finite
use Rattle.std.proofs.lemmas.List.{append_assoc, append-nil, take-append-le}
use Rattle.model_database.specs.Histories.{Commit, History, after_commits, at}
use Rattle.model_machine.specs.Held.{AreEach}

-- it holds of each of them and of one more behind them
pub one_more : (IsSound : History → Commit → Type 0) (before commits : List Commit) (commit : Commit) → AreEach IsSound before commits
    → IsSound (before ++ commits) commit → AreEach IsSound before (commits ++ commit ∷ [])
one_more IsSound before [] commit sound is = (subst (λ history. IsSound history commit) (append-nil before) is, tt)
one_more IsSound before (first ∷ commits) commit sound is = (
  sound.0,
  one_more IsSound (before ++ first ∷ []) commits commit sound.1
      (subst (λ history. IsSound history commit) (sym (append_assoc before (first ∷ []) commits)) is),
)

-- commits that come later leave the database at a version as it was
pub at_before : (before more : History) (version : ℕ) → version ≤ length before → at (before ++ more) version ≡ at before version
at_before before more version taken = ap (λ commits. after_commits commits finite.empty) (take-append-le version before more taken)
