-- The counts of a map after transactions that committed: those before, each made higher by the adds of its pair and lower by the
-- subtracts, in the order of the commits, where nothing but add and subtract wrote in its subspace.
use Rattle.std.specs.Prelude.{◌≡◌, ◌≤◌, ◌<◌, ◌+◌, ◌-◌, ◌^◌, ◌&&◌, ◌==◌, if◌then◌else◌, ℕ, suc, Bool, true, false, List, [], ◌∷◌, ◌++◌, length, take, Option, Some, Result, Ok, Err, bytes_eq}
use Rattle.std.specs.Int.{w64, to_le_bytes}
use Rattle.std.specs.Option.{option_map}
use Rattle.std.specs.List.{AllByRecursion}
use Rattle.key_bytes.specs.Keys.{IsByteString}
use Rattle.model_database.specs.Databases.{Database, Mutation, Set, Clear}
use Rattle.model_database.specs.Histories.{Commit, History, Script, Setting, Entry, Wrote, HasRead, after_commits, at}
use Rattle.model_database.specs.Reads.{Get, ValueIs}
use Rattle.model_database.specs.Transactions.{Transaction, view}
use Rattle.model_lines.specs.Inputs.{IsSmall}
use Rattle.model_commands.specs.declared.args.RunArgs.{RunArgs}
use Rattle.model_machine.specs.Runs.{Run, run_from, start}
use Rattle.laws_history.specs.Whole.{IsOneLegalHistory}
use Rattle.model_recipes.specs.declared.fault.RecipeFault.{RecipeFault}
use Rattle.model_recipes.specs.Turns.{ending}
use Rattle.model_recipes.specs.Multimaps.{pair_key, count_at, count_of, one_more, add_call, subtract_call, values_call}
use Rattle.laws_queue.specs.Scripts.{IsElsewhere, IsLetThrough, script_after}
use Rattle.laws_queue.specs.Laws.{DidItsScript, NoneFell, RunWhole, commits_from}

-- ---- changes

-- an add of a pair, or a subtract of it
pub record Change : Type 0 where
  pub key : List ℕ
  pub value : List ℕ
  pub is_add : Bool

abbrev pub add_of : (key value : List ℕ) → Change
add_of key value = record { key = key; value = value; is_add = true }

abbrev pub subtract_of : (key value : List ℕ) → Change
subtract_of key value = record { key = key; value = value; is_add = false }

-- one more, or one less where there is one
abbrev pub changed : (is_add : Bool) → ℕ → ℕ
changed true count = count + 1
changed false count = count - 1

-- what changes make of the count of a pair: those of the pair, one after the other
abbrev pub counted : List Change → (key value : List ℕ) → ℕ → ℕ
counted [] key value count = count
counted (change ∷ changes) key value count =
    counted changes key value (if bytes_eq key change.key && bytes_eq value change.value then changed change.is_add count else count)

-- the count of each pair of byte strings is what the changes make of it
abbrev pub AreCounted : (space : List ℕ) → (before after : Database) → List Change → Type 0
AreCounted space before after changes = (key value : List ℕ) → IsByteString key → IsByteString value
    → count_of space after key value ≡ option_map (counted changes key value) (count_of space before key value)

-- ---- scripts

-- what a subtract writes that leaves so many
abbrev pub lowered : (at : List ℕ) → (left : ℕ) → Mutation
lowered at left = if left == 0 then Clear at else Set at (to_le_bytes w64 left)

-- A transaction with this script made these adds and subtracts, each of a pair of byte strings, and wrote nothing else in the subspace.
-- One with a fault of its own, and a call that asks for values, only read.
pub data IsOfCounts (space : List ℕ) : Script → List Change → Type 0 where
  ends : IsOfCounts space [] []
  -- it read the count, and set it one higher
  adds : (key value : List ℕ) (given : Option (List ℕ)) (count : ℕ) (adds_conflict : Bool) (script : Script) (changes : List Change)
      → IsByteString key → IsByteString value → one_more (pair_key space key value) (count_at given) ≡ Ok count
      → IsOfCounts space script changes
      → IsOfCounts space (HasRead (Get (pair_key space key value)) (ValueIs given)
      ∷ Wrote (Set (pair_key space key value) (to_le_bytes w64 count)) adds_conflict ∷ script) (add_of key value ∷ changes)
  -- it read a count that isn't 0, and set it one lower, or cleared it
  subtracts : (key value : List ℕ) (given : Option (List ℕ)) (left : ℕ) (adds_conflict : Bool) (script : Script) (changes : List Change)
      → IsByteString key → IsByteString value → count_at given ≡ Some (suc left) → IsOfCounts space script changes
      → IsOfCounts space (HasRead (Get (pair_key space key value)) (ValueIs given)
      ∷ Wrote (lowered (pair_key space key value) left) adds_conflict ∷ script) (subtract_of key value ∷ changes)
  -- it subtracted from a pair that isn't there, and only read
  stays : (key value : List ℕ) (given : Option (List ℕ)) (script : Script) (changes : List Change)
      → IsByteString key → IsByteString value → count_at given ≡ Some 0 → IsOfCounts space script changes
      → IsOfCounts space (HasRead (Get (pair_key space key value)) (ValueIs given) ∷ script) (subtract_of key value ∷ changes)
  -- it did anything else
  does : (entry : Entry) (script : Script) (changes : List Change) → IsElsewhere space entry → IsOfCounts space script changes
      → IsOfCounts space (entry ∷ script) changes

-- ---- commits

-- commits that made these adds and subtracts, in their order, and wrote nothing else in the subspace
pub data AreOfCounts (space : List ℕ) : List Commit → List Change → Type 0 where
  end : AreOfCounts space [] []
  one : (commit : Commit) (commits : List Commit) (changes more : List Change) → IsOfCounts space commit.script changes
      → AreOfCounts space commits more → AreOfCounts space (commit ∷ commits) (changes ++ more)

-- over commits that ran whole the counts are those before, changed so
abbrev pub CountsFollow : Type 0
CountsFollow = (space : List ℕ) (database : Database) (commits : List Commit) (changes : List Change) → AreOfCounts space commits changes
    → AllByRecursion DidItsScript commits → RunWhole database commits
    → AreCounted space database (after_commits commits database) changes

-- so over those of a legal history that did their scripts, where none fell into them
abbrev pub LegalCountsFollow : Type 0
LegalCountsFollow = (history : History) (space : List ℕ) (version count : ℕ) (changes : List Change) → IsOneLegalHistory history
    → AreOfCounts space (commits_from version count history) changes → AllByRecursion DidItsScript (commits_from version count history)
    → NoneFell (take version history) (commits_from version count history)
    → AreCounted space (at history version) (at history (version + count)) changes

-- and so in every run, complete or not, over pairs that an input may have, behind any version past these pairs
abbrev pub RunsCountsFollow : Type 0
RunsCountsFollow = (pairs : List (List ℕ × List ℕ)) (arguments : RunArgs) (order : List ℕ) (run : Run) (space : List ℕ) (version count : ℕ)
    (changes : List Change) → AllByRecursion IsSmall pairs → length order < 2 ^ 62
    → run_from order (start pairs arguments) ≡ Some run → 1 ≤ version
    → AreOfCounts space (commits_from version count run.world.setting.history) changes
    → NoneFell (take version run.world.setting.history) (commits_from version count run.world.setting.history)
    → AreCounted space (at run.world.setting.history version) (at run.world.setting.history (version + count)) changes

-- ---- calls

-- the change of a call that ended so
abbrev pub change_by : Change → Result (Unit {0}) RecipeFault → List Change
change_by change (Ok done) = change ∷ []
change_by change (Err fault) = []

-- A transaction that made these changes, and did nothing else to the counts, makes one more by an add or a subtract that is let through and
-- has no fault, and none by a call that asks for values, nor by any entry elsewhere.
pub record GoesOnCounting (setting : Setting) (space : List ℕ) (transaction : Transaction) (changes : List Change) : Type 0 where
  pub add : (key value : List ℕ) → IsByteString key → IsByteString value
      → IsLetThrough setting (add_call space key value (view setting transaction)) transaction
      → IsOfCounts space (script_after setting (add_call space key value (view setting transaction)) transaction)
      (changes ++ change_by (add_of key value) (ending (add_call space key value (view setting transaction)).turn))
  pub subtract : (key value : List ℕ) → IsByteString key → IsByteString value
      → IsLetThrough setting (subtract_call space key value (view setting transaction)) transaction
      → IsOfCounts space (script_after setting (subtract_call space key value (view setting transaction)) transaction)
      (changes ++ change_by (subtract_of key value) (ending (subtract_call space key value (view setting transaction)).turn))
  pub values : (key : List ℕ) → IsLetThrough setting (values_call space key (view setting transaction)) transaction
      → IsOfCounts space (script_after setting (values_call space key (view setting transaction)) transaction) changes
  pub other : (entry : Entry) → IsElsewhere space entry → IsOfCounts space (transaction.script ++ entry ∷ []) changes

abbrev pub CountCallsGoOn : Type 0
CountCallsGoOn = (setting : Setting) (space : List ℕ) (transaction : Transaction) (changes : List Change)
    → IsOfCounts space transaction.script changes → GoesOnCounting setting space transaction changes
