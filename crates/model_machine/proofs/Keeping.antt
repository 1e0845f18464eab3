-- What a law of all worlds that requests reach has to show of its own: it speaks of histories, and of the transactions that are open
-- among their commits.
use Rattle.std.proofs.Common.{◌≡◌, ℕ, ◌≤◌, List, [], ◌∷◌, ◌++◌, Option, Some, None}
use Rattle.std.specs.Prelude.{Bool}
use Rattle.key_bytes.specs.declared.range.KeyRange.{KeyRange}
use Rattle.model_database.specs.declared.Phase.{Phase}
use Rattle.model_database.specs.Databases.{Mutation, Set, Clear, ClearRange, Atomic}
use Rattle.model_database.specs.Histories.{Commit, History, Setting, last, stamp_of}
use Rattle.model_database.specs.Intervals.{added}
use Rattle.model_database.specs.Reads.{Read, answer}
use Rattle.model_database.specs.Transactions.{Transaction, fresh, clear_code, conflict_checks, first_failing, map_below, op_code, range_code, set_code, with_write_conflict_disabled, version_in, view, with_mutation, with_phase, with_read, with_read_range, with_version, with_write_range, writes_of}
use Rattle.fdb_calls.specs.Calling.{commit_of, next_version}
use Rattle.model_directory.proofs.Keeping.{AllocatorsKeep}

-- the code by which the checks refuse a write, if they do
abbrev pub write_code : Phase → Mutation → Option ℕ
write_code phase (Set key value) = set_code phase key value
write_code phase (Clear key) = clear_code phase key
write_code phase (ClearRange begin end) = range_code phase begin end
write_code phase (Atomic op key operand) = op_code phase op key operand

-- each change that an act of a layer makes of a transaction keeps what holds of it
pub record AreActsKept (setting : Setting) (Holds : Transaction → Type 0) : Type 0 where
  -- its read version is taken
  pub taken : (t : Transaction) → Holds t → Holds (with_version setting t)
  -- a read is answered at that version, which is one of the history
  pub read : (t : Transaction) (snapshot : Bool) (read : Read) → version_in setting t ≤ last setting.history → Holds (with_version setting t)
      → Holds (with_read snapshot read (answer read (view setting t)) (added read (map_below setting t) (writes_of t)) (with_version setting t))
  -- a write that no check refuses
  pub write : (t : Transaction) (mutation : Mutation) → write_code t.phase mutation ≡ None → Holds t → Holds (with_mutation t mutation)
  -- a write conflict range is added
  pub write_conflict : (t : Transaction) (range : KeyRange) → Holds t → Holds (with_write_range t range)
  -- the next write is to declare nothing
  pub disabling : (t : Transaction) → Holds t → Holds (with_write_conflict_disabled t)

-- and so does each other change that a call makes of it
pub record AreCallsKept (setting : Setting) (Holds : Transaction → Type 0) : Type 0 where
  pub acts : AreActsKept setting Holds
  -- a new life begins
  pub begun : (life : ℕ) → Holds (fresh life)
  -- a read version above 0 is set before one is taken
  pub set_version : (t : Transaction) (version : ℕ) → t.version ≡ None → 1 ≤ version → Holds t → Holds (record t { version = Some version })
  -- a read conflict range is added
  pub read_conflict : (t : Transaction) (range : KeyRange) → Holds t → Holds (with_read_range t range)
  -- it was tried or is cancelled
  pub phase : (t : Transaction) (phase : Phase) → Holds t → Holds (with_phase t phase)

-- All that a law has to show: each change of a transaction keeps what is held of it, so do calls of the allocator, and commits that
-- come later; and a commit that no check refuses keeps what holds of the history.
pub record IsKept (IsGrown : History → Type 0) (IsHeld : History → Transaction → Type 0) : Type 0 where
  pub calls : (setting : Setting) → IsGrown setting.history → AreCallsKept setting (IsHeld setting.history)
  pub allocators : (setting : Setting) → IsGrown setting.history → AllocatorsKeep setting (IsHeld setting.history)
  pub later : (history : History) (more : List Commit) (t : Transaction) → IsHeld history t → IsHeld (history ++ more) t
  pub commit : (setting : Setting) (t : Transaction) → IsGrown setting.history
      → first_failing (conflict_checks setting (with_version setting t)) ≡ None → IsHeld setting.history (with_version setting t)
      → IsGrown (setting.history ++ commit_of (stamp_of (next_version setting)) setting (with_version setting t) ∷ [])
