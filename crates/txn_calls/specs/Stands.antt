-- What a transaction of the code, and a store, stand for.
use Rattle.std.specs.Prelude.{◌≡◌, ℕ, ◌≤◌, ◌⊎◌, Bool, true, false, ◌&&◌, List, [], ◌∷◌, ◌++◌, length, nat_lt, Option}
use Rattle.key_bytes.specs.declared.range.KeyRange.{KeyRange}
use Rattle.model_database.specs.declared.Phase.{Phase}
use Rattle.model_database.specs.Databases.{Mutation}
use Rattle.model_database.specs.Histories.{Setting, at, last, low}
use Rattle.model_database.specs.Newest.{newest_of}
use Rattle.model_database.specs.States.{covers, state_under, all_filled, unreadable}
use Rattle.model_database.specs.Transactions.{Transaction, writes_of, write_conflicts_of, is_read_only, with_version}
use Rattle.conflict_ranges.specs.Writes.{newest_at, above, Index}
use Rattle.version_store.specs.Versions.{Versions, last_of, oldest_of}
use Rattle.version_store.specs.Versions as versions
pub use Rattle.txn_parts.specs.WriteConflicts.{write_conflicts_among}

-- what the code keeps of a transaction: no answer of a read, and mutations and ranges in whatever form
pub record Kept : Type 0 where
  pub life : ℕ
  pub version : Option ℕ
  pub mutations : List Mutation
  -- of each mutation whether it has a write conflict range
  pub adds_conflict : List Bool
  pub read_ranges : List KeyRange
  pub write_ranges : List KeyRange
  pub size : ℕ
  pub skips_write_conflict : Bool
  pub phase : Phase

-- it has no mutation of this life, and no write conflict range was added
abbrev pub is_bare : Kept → Bool
is_bare kept = nat_lt (length kept.mutations) 1 && nat_lt (length kept.write_ranges) 1

-- the write conflict ranges of its commit, where this is the commit's versionstamp
abbrev pub write_conflicts_in : (stamp : List ℕ) → Kept → List KeyRange
write_conflicts_in stamp kept = write_conflicts_among (all_filled stamp kept.mutations) kept.adds_conflict ++ kept.write_ranges

-- Two lists of mutations agree: the same keys are unreadable under both, and each key has the same state under both,
-- those with a versionstamp left out, and with any one versionstamp filled in.
pub record SameMutations (kept mutations : List Mutation) : Type 0 where
  pub unreadable_same : (key : List ℕ) → covers (unreadable kept) key ≡ covers (unreadable mutations) key
  pub state_same : (key : List ℕ) → state_under kept key ≡ state_under mutations key
  pub filled_same : (stamp key : List ℕ) → length stamp ≡ 10
      → state_under (all_filled stamp kept) key ≡ state_under (all_filled stamp mutations) key

-- A transaction of the code stands for each one that its mutations and its fields agree with: the mutations agree, its commit is
-- read-only exactly where the other's is, their write conflict ranges have the same keys with any one versionstamp filled in, and
-- its other fields are the same; ranges are read by which keys they have. What the other's reads were answered is not compared.
pub record StandsFor (kept : Kept) (transaction : Transaction) : Type 0 where
  pub mutations : SameMutations kept.mutations (writes_of transaction)
  pub writes : is_bare kept ≡ is_read_only transaction
  pub write_conflicts : (stamp key : List ℕ) → length stamp ≡ 10
      → covers (write_conflicts_in stamp kept) key ≡ covers (write_conflicts_of stamp transaction) key
  pub life : kept.life ≡ transaction.life
  pub version : kept.version ≡ transaction.version
  pub reads : (key : List ℕ) → covers kept.read_ranges key ≡ covers transaction.read_ranges key
  pub size : kept.size ≡ transaction.size
  pub with_write_conflict_disabled : kept.skips_write_conflict ≡ transaction.skips_write_conflict
  pub phase : kept.phase ≡ transaction.phase

-- A store has the map of a history at each version that can be read, and an index has for each key the newest commit with it among its
-- write conflict ranges, where that is later than the lowest such version.
pub record Keeps (store : Versions) (index : Index) (setting : Setting) : Type 0 where
  pub last_is : last_of store ≡ last setting.history
  pub oldest_is : oldest_of store ≡ low setting
  pub at_is : (version : ℕ) → low setting ≤ version → version ≤ last setting.history
      → versions.at store version ≡ at setting.history version
  pub forgotten_is : index.forgotten ≤ low setting
  pub newest_is : (key : List ℕ) → above (low setting) (newest_at index key) ≡ above (low setting) (newest_of setting.history key)

-- a transaction still stands as it did, or as it did but for its version, which was taken
abbrev pub StandsStill : (Transaction → Type 0) → Setting → Transaction → Type 0
StandsStill stands setting transaction = stands transaction ⊎ stands (with_version setting transaction)
