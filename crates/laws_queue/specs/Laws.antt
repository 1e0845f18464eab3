-- Each item of a queue comes out of it once, in the order in which transactions that committed pushed them, where nothing but push and
-- pop wrote in its subspace.
use Rattle.std.specs.Prelude.{◌≡◌, ◌≤◌, ◌<◌, ◌+◌, ◌^◌, ℕ, ⊤, false, List, [], ◌∷◌, ◌++◌, length, take, drop, Some}
use Rattle.std.specs.List.{AllByRecursion}
use Rattle.model_database.specs.Databases.{Database, do_all}
use Rattle.model_database.specs.Histories.{Commit, History, after_commits, at, stamp_of, written}
use Rattle.model_database.specs.States.{all_filled}
use Rattle.fdb_calls.specs.declared.Request.{Request}
use Rattle.model_lines.specs.Inputs.{IsSmall}
use Rattle.model_commands.specs.declared.args.RunArgs.{RunArgs}
use Rattle.model_machine.specs.Runs.{Run, run_from, start}
use Rattle.model_machine.specs.Worlds.{World, begun, step}
use Rattle.laws_history.specs.Whole.{RunsWhole, fell_between, IsOneLegalHistory}
use Rattle.model_recipes.specs.Queues.{queue_of}
use Rattle.laws_queue.specs.Scripts.{IsOfQueue}

-- ---- commits

-- commits that pushed these values to a queue and popped these, in their order, and wrote nothing else in its subspace
pub data AreOfQueue (space : List ℕ) : List Commit → (pushed popped : List (List ℕ)) → Type 0 where
  end : AreOfQueue space [] [] []
  one : (commit : Commit) (commits : List Commit) (pushed popped more_pushed more_popped : List (List ℕ))
      → IsOfQueue space commit.script pushed popped → AreOfQueue space commits more_pushed more_popped
      → AreOfQueue space (commit ∷ commits) (pushed ++ more_pushed) (popped ++ more_popped)

-- a commit did what its script wrote, with the versionstamp of some version
pub record DidItsScript (commit : Commit) : Type 0 where
  pub version : ℕ
  pub is : commit.mutations ≡ all_filled (stamp_of version) (written commit.script)

-- each of these commits ran whole over the database that those before it left
abbrev pub RunWhole : Database → List Commit → Type 0
RunWhole database [] = ⊤
RunWhole database (commit ∷ commits) = RunsWhole database commit.script × RunWhole (do_all commit.mutations database) commits

-- Into none of these commits a write without a write conflict range fell, where such commits came before them: none since the version
-- at which it read wrote a key of its read conflict ranges.
abbrev pub NoneFell : (before : List Commit) → List Commit → Type 0
NoneFell before [] = ⊤
NoneFell before (commit ∷ commits) = (fell_between before commit ≡ false) × NoneFell (before ++ commit ∷ []) commits

-- ---- the law

-- The values that were popped from a queue, and behind them those that still stand in it, are those that stood in it before, and
-- behind them those that were pushed: each once, and in their order.
abbrev pub ComeOnce : (space : List ℕ) → (before after : Database) → (pushed popped : List (List ℕ)) → Type 0
ComeOnce space before after pushed popped = popped ++ queue_of space after ≡ queue_of space before ++ pushed

-- so it is over commits that ran whole
abbrev pub ItemsComeOnce : Type 0
ItemsComeOnce = (space : List ℕ) (database : Database) (commits : List Commit) (pushed popped : List (List ℕ))
    → AreOfQueue space commits pushed popped → AllByRecursion DidItsScript commits → RunWhole database commits
    → ComeOnce space database (after_commits commits database) pushed popped

-- ---- histories

-- so many commits of a history, behind a version
abbrev pub commits_from : (version count : ℕ) → History → List Commit
commits_from version count history = take count (drop version history)

-- those of a legal history that did their scripts, where none fell into them
abbrev pub LegalItemsComeOnce : Type 0
LegalItemsComeOnce = (history : History) (space : List ℕ) (version count : ℕ) (pushed popped : List (List ℕ)) → IsOneLegalHistory history
    → AreOfQueue space (commits_from version count history) pushed popped → AllByRecursion DidItsScript (commits_from version count history)
    → NoneFell (take version history) (commits_from version count history)
    → ComeOnce space (at history version) (at history (version + count)) pushed popped

-- ---- worlds

-- a history has a first commit, and each other did its script
pub record HasScripts (history : History) : Type 0 where
  pub some : 1 ≤ length history
  pub did : AllByRecursion DidItsScript (drop 1 history)

-- so it is where a world begins, and each request keeps it
abbrev pub AreBegunWithScripts : Type 0
AreBegunWithScripts = (pairs : List (List ℕ × List ℕ)) (arguments : RunArgs) → HasScripts (begun pairs arguments).setting.history

abbrev pub AreScriptsKept : Type 0
AreScriptsKept = (world : World) (given : Request) → HasScripts world.setting.history → HasScripts (step world given).world.setting.history

-- in every run, complete or not, over pairs that an input may have, behind any version past these pairs
abbrev pub RunsItemsComeOnce : Type 0
RunsItemsComeOnce = (pairs : List (List ℕ × List ℕ)) (arguments : RunArgs) (order : List ℕ) (run : Run) (space : List ℕ) (version count : ℕ)
    (pushed popped : List (List ℕ)) → AllByRecursion IsSmall pairs → length order < 2 ^ 62
    → run_from order (start pairs arguments) ≡ Some run → 1 ≤ version
    → AreOfQueue space (commits_from version count run.world.setting.history) pushed popped
    → NoneFell (take version run.world.setting.history) (commits_from version count run.world.setting.history)
    → ComeOnce space (at run.world.setting.history version) (at run.world.setting.history (version + count)) pushed popped
