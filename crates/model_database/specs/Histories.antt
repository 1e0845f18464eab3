-- What a transaction did, and the history of the database.
use Rattle.std.specs.Prelude.{ℕ, ◌-◌, Bool, true, false, List, [], ◌∷◌, ◌++◌, length, map, take, drop, reverse}
use Rattle.std.specs.Option.{option_map_or}
use Rattle.std.specs.List.{list_any}
use Rattle.std.specs.FinMap as finite
use Rattle.key_bytes.specs.declared.range.KeyRange.{KeyRange}
use Rattle.model_database.specs.declared.options.DatabaseOptions.{DatabaseOptions}
use Rattle.model_database.specs.Atomics.{little_bytes}
use Rattle.model_database.specs.Databases.{Database, Mutation, Set, Clear, ClearRange, Atomic, do_all}
use Rattle.model_database.specs.States.{range_from, filled}
use Rattle.model_database.specs.Intervals.{one, any_meet}
use Rattle.model_database.specs.Reads.{Read, Answer}

-- ---- scripts

-- what a transaction did: a write that was accepted, and whether it adds them to the write conflict ranges, which a commit is
-- judged by; an ordinary read with its answer; or the end of a call of the prefix allocator on the subspace of this prefix, which
-- granted a number, and whose entries are those from this place of the script on
pub data Entry : Type 0 where
  Wrote : (mutation : Mutation) (adds_conflict : Bool) → Entry
  HasRead : (read : Read) (answer : Answer) → Entry
  Granted : (space : List ℕ) (number from : ℕ) → Entry

-- what a transaction did, in its order
abbrev pub Script : Type 0
Script = List Entry

-- the mutations of a script, in their order
abbrev pub written : Script → List Mutation
written [] = []
written (Wrote mutation adds_conflict ∷ script) = mutation ∷ written script
written (HasRead read answer ∷ script) = written script
written (Granted space number from ∷ script) = written script

-- the keys that a mutation writes
abbrev pub write_range : Mutation → KeyRange
write_range (Set key value) = one key
write_range (Clear key) = one key
write_range (ClearRange begin end) = range_from begin end
write_range (Atomic op key operand) = one key

-- the write conflict ranges of a script, where this is the versionstamp of its commit
abbrev pub write_conflicts_by : (stamp : List ℕ) → Script → List KeyRange
write_conflicts_by stamp [] = []
write_conflicts_by stamp (Wrote mutation true ∷ script) = write_range (filled stamp mutation) ∷ write_conflicts_by stamp script
write_conflicts_by stamp (Wrote mutation false ∷ script) = write_conflicts_by stamp script
write_conflicts_by stamp (HasRead read answer ∷ script) = write_conflicts_by stamp script
write_conflicts_by stamp (Granted space number from ∷ script) = write_conflicts_by stamp script

-- the keys that they write without a write conflict range
abbrev pub without_conflict_by : (stamp : List ℕ) → Script → List KeyRange
without_conflict_by stamp [] = []
without_conflict_by stamp (Wrote mutation true ∷ script) = without_conflict_by stamp script
without_conflict_by stamp (Wrote mutation false ∷ script) = write_range (filled stamp mutation) ∷ without_conflict_by stamp script
without_conflict_by stamp (HasRead read answer ∷ script) = without_conflict_by stamp script
without_conflict_by stamp (Granted space number from ∷ script) = without_conflict_by stamp script

-- ---- the history

-- what a commit did
pub record Commit : Type 0 where
  -- the version at which its transaction read
  pub version : ℕ
  -- what its transaction did
  pub script : Script
  -- its mutations, each with the versionstamp of this commit
  pub mutations : List Mutation
  -- its read conflict ranges, its write conflict ranges, and what it writes without a write conflict range
  pub read_ranges : List KeyRange
  pub write_conflicts : List KeyRange
  pub without_conflict : List KeyRange

-- the commits in order: the one at place n made version n + 1
abbrev pub History : Type 0
History = List Commit

-- the database after commits, in their order
abbrev pub after_commits : List Commit → Database → Database
after_commits [] database = database
after_commits (commit ∷ commits) database = after_commits commits (do_all commit.mutations database)

-- the last version
abbrev pub last : History → ℕ
last history = length history

-- the database at a version: the empty map after the first so many commits
abbrev pub at : History → ℕ → Database
at history version = after_commits (take version history) finite.empty

abbrev pub set_of : List ℕ × List ℕ → Mutation
set_of entry = Set entry.0 entry.1

-- the first commit: the pairs of the input as sets, in the order of their lines, so that of two values of one key the later stays
abbrev pub loaded : List (List ℕ × List ℕ) → Commit
loaded pairs = record { version = 0; script = []; mutations = map set_of pairs; read_ranges = []; write_conflicts = []; without_conflict = [] }

-- the versionstamp of the commit that makes a version: the version as 8 bytes, the highest first, and 00 00
unfoldable pub stamp_of : ℕ → List ℕ
stamp_of version = reverse (little_bytes 8 version) ++ 0 ∷ 0 ∷ []

-- a commit after a version has a key of these ranges among its write conflict ranges
abbrev pub conflicts : History → (version : ℕ) → (reads : List KeyRange) → Bool
conflicts history version reads = list_any (λ commit. any_meet commit.write_conflicts reads) (drop version history)

-- ---- what a call is made in

-- the history so far, and what the database was opened with
pub record Setting : Type 0 where
  pub history : History
  pub options : DatabaseOptions

-- the lowest version that can be read, where this is the last one: it less the window, where there is one
abbrev pub lowest : DatabaseOptions → (last : ℕ) → ℕ
lowest options last = option_map_or (λ window. last - window) options.window 0

abbrev pub low : Setting → ℕ
low setting = lowest setting.options (last setting.history)

-- the setting after more commits
abbrev pub grown_by : Setting → List Commit → Setting
grown_by setting commits = record setting { history = setting.history ++ commits }
