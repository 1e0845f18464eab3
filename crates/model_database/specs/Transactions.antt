-- A transaction, the checks of its calls in their order, and what each call leaves (API reference, "Transaction").
use Rattle.std.specs.Prelude.{ℕ, ◌+◌, ◌*◌, ℤ, pos, negsuc, Bool, true, false, not, ◌&&◌, ◌||◌, ◌==◌, if◌then◌else◌, List, [], ◌∷◌, ◌++◌, length, min, nat_lt, replicate, Option, Some, None, unwrap_or, is_some}
use Rattle.std.specs.List.{list_any}
use Rattle.key_bytes.specs.declared.range.KeyRange.{KeyRange}
use Rattle.key_bytes.specs.Keys.{key_lt, top}
use Rattle.model_database.specs.declared.Code.{Code}
use Rattle.model_database.specs.declared.TheConstants.{ACCESSED_UNREADABLE, CLIENT_INVALID_OPERATION, EXACT_MODE_WITHOUT_LIMITS, FUTURE_VERSION, INVALID_MUTATION_TYPE, INVERTED_RANGE, KEY_LIMIT, KEY_OUTSIDE_LEGAL_RANGE, KEY_TOO_LARGE, NOT_COMMITTED, READ_VERSION_ALREADY_SET, SIZE_LIMIT, TRANSACTION_CANCELLED, TRANSACTION_TOO_LARGE, TRANSACTION_TOO_OLD, USED_DURING_COMMIT, VALUE_LIMIT, VALUE_TOO_LARGE, VERSION_INVALID}
use Rattle.model_database.specs.declared.Phase.{Phase}
use Rattle.model_database.specs.declared.Phase.TheVariants as phase
use Rattle.model_database.specs.declared.Tried.TheVariants as tried
use Rattle.model_database.specs.declared.Api.{Api}
use Rattle.model_database.specs.declared.StampForm.TheVariants as form
use Rattle.model_database.specs.declared.AtomicOp.{AtomicOp}
use Rattle.model_database.specs.declared.AtomicOp.TheVariants as atomic
use Rattle.model_database.specs.Atomics.{atomic_named, is_versionstamped, stamp_form}
use Rattle.model_database.specs.Databases.{Database, Mutation, Set, Clear, ClearRange, Atomic}
use Rattle.model_database.specs.States.{has_room, seen, stamped, stamped_bytes, unreadable}
use Rattle.model_database.specs.Intervals.{any_meet, interval}
use Rattle.model_database.specs.Reads.{Read, Get, GetKey, GetKeyRange, GetRange, Answer}
use Rattle.model_database.specs.Histories.{Script, Wrote, HasRead, Granted, written, write_conflicts_by, conflicts, Setting, at, last, low}

pub record Transaction : Type 0 where
  -- the number of its life
  pub life : ℕ
  -- its read version, once it is taken
  pub version : Option ℕ
  -- what it did in this life
  pub script : Script
  -- its read conflict ranges: those of its ordinary reads, and those that were added to it
  pub read_ranges : List KeyRange
  -- the write conflict ranges that were added to it, beside those of its writes; none of them is empty
  pub write_ranges : List KeyRange
  pub size : ℕ
  -- its next write adds no write conflict range (API reference, "FDB_TR_OPTION_NEXT_WRITE_NO_WRITE_CONFLICT_RANGE")
  pub skips_write_conflict : Bool
  pub phase : Phase

-- a life before its first call
abbrev pub fresh : ℕ → Transaction
fresh life = record {
  life = life;
  version = None;
  script = [];
  read_ranges = [];
  write_ranges = [];
  size = 0;
  skips_write_conflict = false;
  phase = phase.Active;
}

-- the mutations that it wrote in this life, in their order
abbrev pub writes_of : Transaction → List Mutation
writes_of transaction = written transaction.script

-- the write conflict ranges of its commit, where this is the commit's versionstamp
abbrev pub write_conflicts_of : (stamp : List ℕ) → Transaction → List KeyRange
write_conflicts_of stamp transaction = write_conflicts_by stamp transaction.script ++ transaction.write_ranges

abbrev pub number_of : Code → ℕ
number_of code = code.0

-- the codes after which a transaction may be tried again: 1007 transaction_too_old, 1009 future_version, 1020 not_committed,
-- 1021 commit_unknown_result and 1037 process_behind
abbrev pub retryable : List ℕ
retryable = 1007 ∷ 1009 ∷ 1020 ∷ 1021 ∷ 1037 ∷ []

-- ---- checks

-- the code of the first check that fails: each is whether it fails, and its code
abbrev pub first_failing : List (Bool × ℕ) → Option ℕ
first_failing [] = None
first_failing (check ∷ checks) = if check.0 then Some check.1 else first_failing checks

abbrev pub is_cancelled : Phase → Bool
is_cancelled phase.Cancelled = true
is_cancelled _ = false

abbrev pub is_tried : Phase → Bool
is_tried (phase.Tried outcome) = true
is_tried _ = false

-- a call on a life that takes no further call, and then other checks
abbrev pub after_phase : Phase → List (Bool × ℕ) → List (Bool × ℕ)
after_phase phase checks = (is_cancelled phase, TRANSACTION_CANCELLED) ∷ (is_tried phase, USED_DURING_COMMIT) ∷ checks

abbrev pub is_positive : ℤ → Bool
is_positive (pos n) = nat_lt 0 n
is_positive (negsuc n) = false

-- a key of a client is less than FF
abbrev pub is_outside : List ℕ → Bool
is_outside key = not (key_lt key top)

-- an end of a range is at most FF
abbrev pub is_end_outside : List ℕ → Bool
is_end_outside key = key_lt top key

abbrev pub key_checks : List ℕ → List ℕ → List (Bool × ℕ)
key_checks key value =
    (is_outside key, KEY_OUTSIDE_LEGAL_RANGE) ∷ (nat_lt KEY_LIMIT (length key), KEY_TOO_LARGE) ∷ (nat_lt VALUE_LIMIT (length value), VALUE_TOO_LARGE) ∷ []

-- a key that is read is less than FF; a selector's key, and an end of a range, is at most FF
abbrev pub is_read_outside : Read → Bool
is_read_outside (Get key) = is_outside key
is_read_outside (GetKey selector) = is_end_outside selector.key
is_read_outside (GetKeyRange begin end limit backward) = is_end_outside begin || is_end_outside end
is_read_outside (GetRange begin end limit backward) = is_end_outside begin.key || is_end_outside end.key

-- of a read before its version is taken, where this is whether it lacks a limit that its mode wants
unfoldable pub read_code : Phase → (lacks : Bool) → Read → Option ℕ
read_code phase lacks read = first_failing (after_phase phase
    ((is_read_outside read, KEY_OUTSIDE_LEGAL_RANGE) ∷ (lacks, EXACT_MODE_WITHOUT_LIMITS) ∷ []))

unfoldable pub set_code : Phase → List ℕ → List ℕ → Option ℕ
set_code phase key value = first_failing (after_phase phase (key_checks key value))

unfoldable pub clear_code : Phase → List ℕ → Option ℕ
clear_code phase key = first_failing (after_phase phase ((is_outside key, KEY_OUTSIDE_LEGAL_RANGE) ∷ []))

-- of a call with a range: a cleared one, or one that is added as a read or a write conflict range
unfoldable pub range_code : Phase → List ℕ → List ℕ → Option ℕ
range_code phase begin end = first_failing (after_phase phase
    ((is_end_outside begin || is_end_outside end, KEY_OUTSIDE_LEGAL_RANGE) ∷ (key_lt end begin, INVERTED_RANGE) ∷ []))

-- the key that the checks of an atomic operation ask: of a stamped key, its template with ten 00
abbrev pub key_asked : AtomicOp → List ℕ → List ℕ
key_asked atomic.SetVersionstampedKey key = stamped form.Last4 (replicate 10 0) key
key_asked atomic.OldStampedKey key = stamped form.Last2 (replicate 10 0) key
key_asked op key = key

-- stamped bytes have no room for the versionstamp
abbrev pub lacks_room : AtomicOp → (key operand : List ℕ) → Bool
lacks_room op key operand = is_versionstamped op && not (has_room (stamp_form op) (stamped_bytes op key operand))

abbrev pub op_checks : AtomicOp → (key operand : List ℕ) → List (Bool × ℕ)
op_checks op key operand = (lacks_room op key operand, CLIENT_INVALID_OPERATION) ∷ key_checks (key_asked op key) operand

unfoldable pub op_code : Phase → AtomicOp → (key operand : List ℕ) → Option ℕ
op_code phase op key operand = first_failing (after_phase phase (op_checks op key operand))

-- an atomic operation by its name, where the name is one of an operation under the API version
abbrev pub named_checks : Option AtomicOp → (key operand : List ℕ) → List (Bool × ℕ)
named_checks None key operand = (true, INVALID_MUTATION_TYPE) ∷ []
named_checks (Some op) key operand = op_checks op key operand

unfoldable pub atomic_code : Api → Phase → (name key operand : List ℕ) → Option ℕ
atomic_code api phase name key operand = first_failing (after_phase phase (named_checks (atomic_named api name) key operand))

-- of a call with no other check
unfoldable pub phase_code : Phase → Option ℕ
phase_code phase = first_failing (after_phase phase [])

-- of setting the read version: it is set or taken already, or the version isn't above 0
unfoldable pub set_version_code : Phase → (taken : Option ℕ) → ℤ → Option ℕ
set_version_code phase taken version = first_failing (after_phase phase
    ((is_some taken, READ_VERSION_ALREADY_SET) ∷ (not (is_positive version), VERSION_INVALID) ∷ []))

-- without a mutation, and without a write conflict range that was added, the commit is read-only: it succeeds and makes no version
abbrev pub is_read_only : Transaction → Bool
is_read_only transaction = nat_lt (length (writes_of transaction)) 1 && nat_lt (length transaction.write_ranges) 1

-- of a commit before its version is taken, where this is whether it is read-only, and the size
unfoldable pub commit_code : Phase → (read_only : Bool) → (size : ℕ) → Option ℕ
commit_code phase read_only size =
    first_failing (after_phase phase ((not read_only && nat_lt SIZE_LIMIT size, TRANSACTION_TOO_LARGE) ∷ []))

-- ---- reading

-- the version that a read has: the one that was taken, or the last
abbrev pub version_in : Setting → Transaction → ℕ
version_in setting transaction = unwrap_or transaction.version (last setting.history)

-- the map that a transaction sees: that at its version, after its mutations, without the keys that these make unreadable
abbrev pub view : Setting → Transaction → Database
view setting transaction = seen (writes_of transaction) (at setting.history (version_in setting transaction))

abbrev pub with_version : Setting → Transaction → Transaction
with_version setting transaction = record transaction { version = Some (version_in setting transaction) }

-- the version is lower than those that can be read
abbrev pub is_behind : Setting → Transaction → Bool
is_behind setting transaction = nat_lt (version_in setting transaction) (low setting)

-- the version is above the last one
abbrev pub is_ahead : Setting → Transaction → Bool
is_ahead setting transaction = nat_lt (last setting.history) (version_in setting transaction)

-- the map at its version, before its mutations
abbrev pub map_below : Setting → Transaction → Database
map_below setting transaction = at setting.history (version_in setting transaction)

-- the read conflict range of the read has a key that a mutation makes unreadable
abbrev pub is_hidden : Setting → Transaction → Read → Bool
is_hidden setting transaction read = any_meet (interval read (view setting transaction)) (unreadable (writes_of transaction))

-- the checks of a read at its version
abbrev pub late_checks : Setting → Transaction → Read → List (Bool × ℕ)
late_checks setting transaction read =
    (is_behind setting transaction, TRANSACTION_TOO_OLD)
    ∷ (is_ahead setting transaction, FUTURE_VERSION)
    ∷ (is_hidden setting transaction read, ACCESSED_UNREADABLE)
    ∷ []

-- the transaction after a read that was answered and adds these ranges; one by snapshot leaves no trace
abbrev pub with_read : Bool → Read → Answer → List KeyRange → Transaction → Transaction
with_read true read answer ranges transaction = transaction
with_read false read answer ranges transaction = record transaction {
  script = transaction.script ++ HasRead read answer ∷ [];
  read_ranges = transaction.read_ranges ++ ranges;
}

-- the transaction after a call of the prefix allocator that granted a number, whose entries are those from a place of the
-- script on
abbrev pub with_granted : Transaction → (space : List ℕ) → (number from : ℕ) → Transaction
with_granted transaction space number from = record transaction { script = transaction.script ++ Granted space number from ∷ [] }

-- ---- writing

-- the size after some bytes more, counted no further than one past its limit
abbrev pub grown : ℕ → ℕ → ℕ
grown size bytes = min (size + bytes) (SIZE_LIMIT + 1)

-- how many bytes a mutation counts: key and value, or twice the key and 1 of a clear, or both ends
abbrev pub mutation_size : Mutation → ℕ
mutation_size (Set key value) = length key + length value
mutation_size (Clear key) = 2 * length key + 1
mutation_size (ClearRange begin end) = length begin + length end
mutation_size (Atomic op key operand) = length key + length operand

-- the transaction after an accepted write, which adds a write conflict range unless that was switched off for it
abbrev pub with_mutation : Transaction → Mutation → Transaction
with_mutation transaction mutation = record transaction {
  script = transaction.script ++ Wrote mutation (not transaction.skips_write_conflict) ∷ [];
  size = grown transaction.size (mutation_size mutation);
  skips_write_conflict = false;
}

-- ---- read and write conflict ranges that are added to it

abbrev pub range_size : KeyRange → ℕ
range_size range = length range.begin + length range.end

-- a list of ranges with one more, unless it is empty
abbrev pub with_range : List KeyRange → KeyRange → List KeyRange
with_range ranges range = if key_lt range.begin range.end then ranges ++ range ∷ [] else ranges

abbrev pub with_read_range : Transaction → KeyRange → Transaction
with_read_range transaction range = record transaction {
  read_ranges = with_range transaction.read_ranges range;
  size = grown transaction.size (range_size range);
}

abbrev pub with_write_range : Transaction → KeyRange → Transaction
with_write_range transaction range = record transaction {
  write_ranges = with_range transaction.write_ranges range;
  size = grown transaction.size (range_size range);
}

abbrev pub with_write_conflict_disabled : Transaction → Transaction
with_write_conflict_disabled transaction = record transaction { skips_write_conflict = true }

-- ---- its commit

-- the checks of a commit at its version: it is lower than those that can be read, or above the last one, or a commit after it has a
-- key of the transaction's read conflict ranges among its write conflict ranges
abbrev pub conflict_checks : Setting → Transaction → List (Bool × ℕ)
conflict_checks setting transaction =
    (is_behind setting transaction, TRANSACTION_TOO_OLD)
    ∷ (is_ahead setting transaction, FUTURE_VERSION)
    ∷ (conflicts setting.history (version_in setting transaction) transaction.read_ranges, NOT_COMMITTED)
    ∷ []

-- the version that a commit made, or -1
abbrev pub version_made : Phase → ℤ
version_made (phase.Tried (tried.Version version)) = pos version
version_made _ = negsuc 0

abbrev pub with_phase : Transaction → Phase → Transaction
with_phase transaction phase = record transaction { phase = phase }

-- cancelling a life that was tried, or is cancelled, changes nothing
abbrev pub cancelled : Transaction → Transaction
cancelled transaction = if is_tried transaction.phase then transaction else with_phase transaction phase.Cancelled

abbrev pub is_retryable : ℕ → Bool
is_retryable code = list_any (λ other. code == other) retryable
