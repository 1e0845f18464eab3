-- The law over commits that ran whole, and over those of one legal history.
use Rattle.std.proofs.Common.{◌≡◌, ◌⊎◌, ℕ, ◌+◌, zero, suc, Bool, false, List, [], ◌∷◌, ◌++◌, take, drop, inl, inr, refl, sym, ap, ◌∙◌, subst, append_assoc}
use Rattle.std.specs.Prelude.{IsTrue}
use Rattle.std.specs.List.{AllByRecursion}
use Rattle.std.specs.FinMap as finite
use Rattle.std.proofs.Math.Seq.{take-add}
use Rattle.std.proofs.lemmas.List.{append-nil}
use Rattle.model_database.specs.Databases.{Database, do_all}
use Rattle.model_database.specs.Histories.{Commit, History, after_commits, at}
use Rattle.laws_history.specs.Whole.{AreLegal, RunsWhole, fell_between}
use Rattle.model_recipes.specs.Queues.{queue_of}
use Rattle.laws_queue.specs.Laws.{AreOfQueue, ComeOnce, DidItsScript, ItemsComeOnce, LegalItemsComeOnce, NoneFell, RunWhole, commits_from}
use Rattle.laws_queue.proofs.Scripts.{once_then, commit_once}

-- ---- commits that ran whole

after_once : (space : List ℕ) (commits : List Commit) (pushed popped : List (List ℕ)) → AreOfQueue space commits pushed popped
    → (database : Database) → AllByRecursion DidItsScript commits → RunWhole database commits
    → ComeOnce space database (after_commits commits database) pushed popped
after_once space _ _ _ AreOfQueue.end database did whole = sym (append-nil (queue_of space database))
after_once space _ _ _ (AreOfQueue.one commit commits pushed popped more_pushed more_popped first others) database did whole =
    let after = do_all commit.mutations database in
    once_then space database after (after_commits commits after) pushed popped more_pushed more_popped
    (commit_once space database commit pushed popped first did.0 whole.0)
    (after_once space commits more_pushed more_popped others after did.1 whole.1)

pub items_once : ItemsComeOnce
items_once space database commits pushed popped of_queue did whole = after_once space commits pushed popped of_queue database did whole

-- ---- commits of a legal history

-- those behind some of them are legal too
pub legal_behind : (version : ℕ) (before commits : List Commit) (database : Database) → AreLegal before database commits
    → AreLegal (before ++ take version commits) (after_commits (take version commits) database) (drop version commits)
legal_behind zero before commits database legal = subst (λ done. AreLegal done database commits) (sym (append-nil before)) legal
legal_behind (suc version) before [] database legal = tt
legal_behind (suc version) before (commit ∷ commits) database legal =
    subst (λ done. AreLegal done (after_commits (take version commits) (do_all commit.mutations database)) (drop version commits))
    (append_assoc before (commit ∷ []) (take version commits))
    (legal_behind version (before ++ commit ∷ []) commits (do_all commit.mutations database) legal.1)

-- those of them into which nothing fell ran whole
pub ran_whole : (count : ℕ) (before commits : List Commit) (database : Database) → AreLegal before database commits
    → NoneFell before (take count commits) → RunWhole database (take count commits)
ran_whole zero before commits database legal none = tt
ran_whole (suc count) before [] database legal none = tt
ran_whole (suc count) before (commit ∷ commits) database legal none = (
  by (fell_between before commit) none.0 legal.0,
  ran_whole count (before ++ commit ∷ []) commits (do_all commit.mutations database) legal.1 none.1,
)
  where
    by : (fell : Bool) → fell ≡ false → RunsWhole database commit.script ⊎ IsTrue fell → RunsWhole database commit.script
    by fell is (inl whole) = whole
    by fell is (inr it) = absurd cc

after_append : (first second : List Commit) (database : Database)
    → after_commits (first ++ second) database ≡ after_commits second (after_commits first database)
after_append [] second database = refl
after_append (commit ∷ first) second database = after_append first second (do_all commit.mutations database)

-- the database so many versions later is what the commits between make
pub at_later : (history : History) (version count : ℕ)
    → at history (version + count) ≡ after_commits (commits_from version count history) (at history version)
at_later history version count =
    ap (λ commits. after_commits commits finite.empty) (take-add version count history)
    ∙ after_append (take version history) (commits_from version count history) finite.empty

pub legal_once : LegalItemsComeOnce
legal_once history space version count pushed popped legal of_queue did none =
    subst (λ database. ComeOnce space (at history version) database pushed popped) (sym (at_later history version count))
    (items_once space (at history version) (commits_from version count history) pushed popped of_queue did
    (ran_whole count (take version history) (drop version history) (at history version) (legal_behind version [] history finite.empty legal.legal) none))
