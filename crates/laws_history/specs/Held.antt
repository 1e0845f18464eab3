-- What holds of each transaction and of each commit of a history that is reached.
use Rattle.std.specs.Prelude.{◌≡◌, ℕ, ◌≤◌, true, false, List, [], ◌∷◌, ◌++◌, length, Option, Some, None}
use Rattle.std.specs.List.{list_any}
use Rattle.std.specs.FinMap as finite
use Rattle.key_bytes.specs.declared.range.KeyRange.{KeyRange}
use Rattle.model_database.specs.Databases.{Database, Mutation}
use Rattle.model_database.specs.Histories.{Commit, History, at, conflicts}
use Rattle.model_database.specs.Intervals.{added}
use Rattle.model_database.specs.Reads.{Read, Answer, answer}
use Rattle.model_database.specs.States.{covers, seen, touches}
use Rattle.model_database.specs.Transactions.{Transaction, writes_of}
use Rattle.model_machine.specs.Worlds.{World}
use Rattle.model_machine.specs.Held.{AreEach, HoldsIn}
use Rattle.laws_history.specs.Small.{are_small}
use Rattle.laws_history.specs.Whole.{EachRead}

-- two databases have the same of each key that these ranges have
abbrev pub AgreeOn : List KeyRange → Database → Database → Type 0
AgreeOn ranges one other = (key : List ℕ) → covers ranges key ≡ true → finite.get one key ≡ finite.get other key

-- An ordinary read was answered as is said at a version of a history, after these writes, and the keys that it adds are among
-- those of these ranges. The version is not that before the first commit.
pub record IsAnswered (before : History) (version : ℕ) (rests : List KeyRange) (writes : List Mutation) (read : Read) (given : Answer) : Type 0 where
  pub first : 1 ≤ version
  pub taken : version ≤ length before
  pub is : given ≡ answer read (seen writes (at before version))
  pub noted : (key : List ℕ) → covers (added read (at before version) writes) key ≡ true → covers rests key ≡ true
  pub small : are_small writes ≡ true

-- the same at the version that a transaction has taken
abbrev pub IsAnsweredAt : History → Option ℕ → List KeyRange → List Mutation → Read → Answer → Type 0
IsAnsweredAt before None rests writes read given = ⊥
IsAnsweredAt before (Some version) rests writes read given = IsAnswered before version rests writes read given

-- a transaction, among the commits so far
pub record IsHeld (before : History) (transaction : Transaction) : Type 0 where
  pub answered : EachRead (IsAnsweredAt before transaction.version transaction.read_ranges) [] transaction.script
  pub small : are_small (writes_of transaction) ≡ true
  pub from_one : (version : ℕ) → transaction.version ≡ Some version → 1 ≤ version

-- a commit past the first, among those before it
pub record IsSound (before : History) (commit : Commit) : Type 0 where
  pub answered : EachRead (IsAnswered before commit.version commit.read_ranges) [] commit.script
  pub ranged : (key : List ℕ) → list_any (λ mutation. touches mutation key) commit.mutations ≡ true
      → covers (commit.write_conflicts ++ commit.without_conflict) key ≡ true
  pub judged : conflicts before commit.version commit.read_ranges ≡ false
  pub small : are_small commit.mutations ≡ true

-- each of these commits, where such commits came before them
abbrev pub AreSound : (before : History) → List Commit → Type 0
AreSound = AreEach IsSound

-- a first commit, of a transaction that read nothing and put values under keys less than FF alone, and sound ones after it
pub record IsGrown (history : History) : Type 0 where
  pub first : Commit
  pub later : List Commit
  pub is : history ≡ first ∷ later
  pub bare : first.script ≡ []
  pub sound : AreSound (first ∷ []) later
  pub small : are_small first.mutations ≡ true

-- what holds of the world at each place of a run
abbrev pub IsReached : World → Type 0
IsReached = HoldsIn IsGrown IsHeld
