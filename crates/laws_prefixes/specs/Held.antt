-- What holds of each transaction and of each commit of a history that is reached, where the allocator of a subspace alone wrote there.
use Rattle.std.specs.Prelude.{◌≡◌, ◌⊎◌, ℕ, ◌+◌, ◌^◌, ◌<◌, ◌≤◌, true, false, List, [], ◌∷◌, ◌++◌, length, Some, slice_get, is_some}
use Rattle.std.specs.FinMap as finite
use Rattle.model_database.specs.Databases.{Database, Mutation, do_all}
use Rattle.model_database.specs.Histories.{Script, Commit, History, Setting, Granted, at, conflicts, stamp_of, written}
use Rattle.model_database.specs.Intervals.{decided}
use Rattle.model_database.specs.States.{all_filled, covers}
use Rattle.model_database.specs.Transactions.{Transaction, write_conflicts_of, version_in, writes_of}
use Rattle.model_machine.specs.Held.{AreEach}
use Rattle.model_allocator.specs.Counters.{counter_key, recent_key, is_recent}
use Rattle.laws_prefixes.specs.Prefixes.{IsGranting, grants_in}

-- ---- one number in one database

-- some counter stands above a number
pub record IsBelowCounter (space : List ℕ) (number : ℕ) (database : Database) : Type 0 where
  pub counter : ℕ
  pub present : is_some (finite.get database (counter_key space counter)) ≡ true
  pub above : number < counter
  pub small : counter < 2 ^ 63

-- an allocator will not grant a number: it is among those that were tried, or some counter stands above it
abbrev pub IsSpent : (space : List ℕ) → ℕ → Database → Type 0
IsSpent space number database = (is_recent space database number ≡ true) ⊎ IsBelowCounter space number database

-- mutations leave a number spent, whatever the database before them
abbrev pub AreSpending : (space : List ℕ) → ℕ → List Mutation → Type 0
AreSpending space number mutations = (database : Database) → IsSpent space number (do_all mutations database)

-- What mutations are to an allocator, whatever the database before them: each number that is spent stays so; and a number whose key
-- they decide is left spent. It is said of the numbers that an allocator may grant, which are less than 2^63.
pub record AreFit (space : List ℕ) (mutations : List Mutation) : Type 0 where
  pub keep : (database : Database) (number : ℕ) → number < 2 ^ 63 → IsSpent space number database → IsSpent space number (do_all mutations database)
  pub deciding : (number : ℕ) → number < 2 ^ 63 → covers (decided mutations) (recent_key space number) ≡ true → AreSpending space number mutations

-- ---- transactions

-- A number that an open transaction granted: at its version it was not spent; its mutations leave it spent, also with this
-- versionstamp filled in; and the transaction has the number's key among its read and its write conflict ranges.
pub record IsGrantOf (history : History) (stamp space : List ℕ) (transaction : Transaction) (number : ℕ) : Type 0 where
  pub small : number < 2 ^ 63
  pub version : ℕ
  pub taken : transaction.version ≡ Some version
  pub reached : version ≤ length history
  pub free : IsSpent space number (at history version) → ⊥
  pub spent : AreSpending space number (writes_of transaction)
  pub filled_spent : AreSpending space number (all_filled stamp (writes_of transaction))
  pub read_conflict : covers transaction.read_ranges (recent_key space number) ≡ true
  pub adds_conflict : covers (write_conflicts_of stamp transaction) (recent_key space number) ≡ true

-- the numbers of a list that stand at different places are not the same
abbrev pub AreDistinct : List ℕ → Type 0
AreDistinct numbers = (place later one other : ℕ) → place < later → slice_get numbers place ≡ Some one → slice_get numbers later ≡ Some other
    → one ≡ other → ⊥

-- an open transaction, where this would be the versionstamp of its commit
pub record IsFit (history : History) (stamp space : List ℕ) (transaction : Transaction) : Type 0 where
  pub plain : AreFit space (writes_of transaction)
  pub filled : AreFit space (all_filled stamp (writes_of transaction))
  pub grants : (place number : ℕ) → slice_get (grants_in space transaction.script) place ≡ Some number
      → IsGrantOf history stamp space transaction number
  pub distinct : AreDistinct (grants_in space transaction.script)

-- so it is for each subspace on which its allocator alone wrote, whatever versionstamp its commit gets
abbrev pub IsHeld : History → Transaction → Type 0
IsHeld history transaction = (stamp space : List ℕ) → IsGranting stamp space transaction.script → IsFit history stamp space transaction

-- ---- commits

-- a number that a commit granted, among the commits before it
pub record IsGrantIn (before : History) (space : List ℕ) (commit : Commit) (number : ℕ) : Type 0 where
  pub small : number < 2 ^ 63
  pub reached : commit.version ≤ length before
  pub free : IsSpent space number (at before commit.version) → ⊥
  pub spent : AreSpending space number commit.mutations
  pub read_conflict : covers commit.read_ranges (recent_key space number) ≡ true
  pub adds_conflict : covers commit.write_conflicts (recent_key space number) ≡ true

pub record IsFitCommit (before : History) (space : List ℕ) (commit : Commit) : Type 0 where
  pub fit : AreFit space commit.mutations
  pub grants : (place number : ℕ) → slice_get (grants_in space commit.script) place ≡ Some number → IsGrantIn before space commit number
  pub distinct : AreDistinct (grants_in space commit.script)
  pub judged : conflicts before commit.version commit.read_ranges ≡ false

-- a commit among those before it is fit for each subspace on which its allocator alone wrote
abbrev pub IsSound : (before : History) → Commit → Type 0
IsSound before commit =
    (space : List ℕ) → IsGranting (stamp_of (length before + 1)) space commit.script → IsFitCommit before space commit

-- ---- histories

-- a first commit, and sound ones after it
pub record IsGrown (history : History) : Type 0 where
  pub first : Commit
  pub later : List Commit
  pub is : history ≡ first ∷ later
  pub sound : AreEach IsSound (first ∷ []) later

-- ---- calls

-- What a call did to a transaction that granted no number, and was neither a new life nor a commit: it has more entries, none of
-- which notes a number; a version that it has taken stays; and so do its read and write conflict ranges.
pub record HasGrown (before after : Transaction) : Type 0 where
  pub entries : Script
  pub more : after.script ≡ before.script ++ entries
  pub none_noted : (space : List ℕ) → grants_in space entries ≡ []
  pub taken : (version : ℕ) → before.version ≡ Some version → after.version ≡ Some version
  pub read_conflict_still : (key : List ℕ) → covers before.read_ranges key ≡ true → covers after.read_ranges key ≡ true
  pub adds_conflict_still : (key : List ℕ) → covers before.write_ranges key ≡ true → covers after.write_ranges key ≡ true

-- What a call of the allocator on a subspace that granted a number did to a transaction: nothing above looks inside the call.
pub record HasGranted (setting : Setting) (space : List ℕ) (number : ℕ) (before after : Transaction) : Type 0 where
  pub small : number < 2 ^ 63
  -- its entries, and the note behind them
  pub entries : Script
  pub noted : after.script ≡ (before.script ++ entries) ++ Granted space number (length before.script) ∷ []
  pub none_noted : (other : List ℕ) → grants_in other entries ≡ []
  -- it is at the version that it has, or takes, which is not above the last
  pub taken : after.version ≡ Some (version_in setting before)
  pub reached : version_in setting before ≤ length setting.history
  -- what it wrote: no versionstamp
  pub plain : (stamp : List ℕ) → all_filled stamp (written entries) ≡ written entries
  pub fit : AreFit space (written entries)
  pub spent : AreSpending space number (written entries)
  -- the number was not spent under the mutations before
  pub free : IsSpent space number (do_all (writes_of before) (at setting.history (version_in setting before))) → ⊥
  -- the number's key is among its read conflict ranges, unless the mutations before decide it, and among its write conflict ranges;
  -- and so is all that was there
  pub read_conflict : covers (decided (writes_of before)) (recent_key space number) ≡ false → covers after.read_ranges (recent_key space number) ≡ true
  pub read_conflict_still : (key : List ℕ) → covers before.read_ranges key ≡ true → covers after.read_ranges key ≡ true
  pub adds_conflict : covers after.write_ranges (recent_key space number) ≡ true
  pub adds_conflict_still : (key : List ℕ) → covers before.write_ranges key ≡ true → covers after.write_ranges key ≡ true
