-- One legal history: each transaction whose commit made a version would get the same ordinary reads run whole at its commit, unless
-- a write without a write conflict range fell between.
use Rattle.std.specs.Prelude.{◌≡◌, ◌⊎◌, ◌<◌, ◌^◌, ℕ, ⊤, Bool, IsTrue, List, [], ◌∷◌, ◌++◌, length, drop, Some}
use Rattle.std.specs.List.{AllByRecursion, list_any}
use Rattle.std.specs.FinMap as finite
use Rattle.model_database.specs.Databases.{Database, Mutation, do_all}
use Rattle.model_database.specs.Histories.{Script, Wrote, HasRead, Granted, Commit, History, after_commits, at, last}
use Rattle.model_database.specs.Intervals.{any_meet}
use Rattle.model_database.specs.Reads.{Read, Answer, answer}
use Rattle.model_database.specs.States.{seen}
use Rattle.model_lines.specs.Inputs.{IsSmall}
use Rattle.model_commands.specs.declared.args.RunArgs.{RunArgs}
use Rattle.model_machine.specs.Runs.{Run, start, run_from}

-- this holds of each ordinary read of a script with its answer, and of the writes before it, where these were made before
abbrev pub EachRead : (List Mutation → Read → Answer → Type 0) → List Mutation → Script → Type 0
EachRead holds before [] = ⊤
EachRead holds before (Wrote mutation adds_conflict ∷ script) = EachRead holds (before ++ mutation ∷ []) script
EachRead holds before (HasRead read given ∷ script) = holds before read given × EachRead holds before script
EachRead holds before (Granted space number from ∷ script) = EachRead holds before script

-- run whole over a database, a script gets its answers: each of its reads the one that it has there, after its writes before it
abbrev pub RunsWhole : Database → Script → Type 0
RunsWhole database script = EachRead (λ before read given. given ≡ answer read (seen before database)) [] script

-- a commit that came after the version at which a commit read, and before it, wrote a key of its read conflict ranges, without a
-- write conflict range
abbrev pub fell_between : (before : List Commit) → Commit → Bool
fell_between before commit = list_any (λ other. any_meet other.without_conflict commit.read_ranges) (drop commit.version before)

-- Each of these commits gets its reads run whole over the database before it, or a write without a write conflict range fell
-- between; where such commits came before them, and this is the database that they left.
abbrev pub AreLegal : (before : List Commit) → Database → List Commit → Type 0
AreLegal before database [] = ⊤
AreLegal before database (commit ∷ commits) =
    (RunsWhole database commit.script ⊎ IsTrue (fell_between before commit))
    × AreLegal (before ++ commit ∷ []) (do_all commit.mutations database) commits

-- and the database that they leave is that at the last version
pub record IsOneLegalHistory (history : History) : Type 0 where
  pub legal : AreLegal [] finite.empty history
  pub last_is : after_commits history finite.empty ≡ at history (last history)

-- every run of an order leaves one legal history, complete or not, over pairs that an input may have; no memory holds a longer order
abbrev pub AreRunsLegal : Type 0
AreRunsLegal = (pairs : List (List ℕ × List ℕ)) (arguments : RunArgs) (order : List ℕ) (run : Run) → AllByRecursion IsSmall pairs → length order < 2 ^ 62
    → run_from order (start pairs arguments) ≡ Some run → IsOneLegalHistory run.world.setting.history
