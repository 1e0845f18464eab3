-- A call on a transaction in its setting: what it answers, and what it leaves.
use Rattle.std.specs.Prelude.{ℕ, ◌+◌, ℤ, pos, unsigned_abs, Bool, true, false, if◌then◌else◌, List, [], ◌∷◌, ◌++◌, Option, Some, None, unwrap_or}
use Rattle.key_bytes.specs.declared.range.KeyRange.{KeyRange}
use Rattle.model_database.specs.declared.TheConstants.{TRANSACTION_CANCELLED}
use Rattle.model_database.specs.declared.Code.{Code}
use Rattle.model_database.specs.declared.Tried.TheVariants as tried
use Rattle.model_database.specs.declared.Phase.{Phase}
use Rattle.model_database.specs.declared.Phase.TheVariants as phase
use Rattle.model_database.specs.declared.Api.{Api}
use Rattle.model_database.specs.declared.AtomicOp.{AtomicOp}
use Rattle.model_database.specs.Atomics.{atomic_named}
use Rattle.model_database.specs.Databases.{Mutation, Set, Clear, ClearRange, Atomic}
use Rattle.model_database.specs.States.{all_filled}
use Rattle.model_database.specs.Intervals.{added}
use Rattle.model_database.specs.Modes.{lacks_limit}
use Rattle.model_database.specs.Reads as read
use Rattle.model_database.specs.Reads.{Read, Answer, answer}
use Rattle.model_database.specs.Histories.{Setting, Commit, last, without_conflict_by, stamp_of}
use Rattle.model_database.specs.Transactions.{Transaction, fresh, writes_of, write_conflicts_of, is_read_only, is_cancelled, is_retryable, version_made}
use Rattle.model_database.specs.Transactions.{first_failing, phase_code, read_code, set_code, clear_code, range_code, op_code, atomic_code, set_version_code, commit_code}
use Rattle.model_database.specs.Transactions.{version_in, map_below, view, late_checks, conflict_checks, with_version, with_read, with_mutation, with_read_range, with_write_range, with_write_conflict_disabled, with_phase, cancelled}
use Rattle.fdb_calls.specs.declared.TxnCall.{TxnCall}
use Rattle.fdb_calls.specs.declared.TxnCall.TheVariants as call
use Rattle.fdb_calls.specs.declared.Reply.{Reply}
use Rattle.fdb_calls.specs.declared.Reply.TheVariants as reply

-- what a call leaves: the transaction after it, the commits that it made, how many lives it drew, and its reply
pub record Called : Type 0 where
  pub transaction : Transaction
  pub commits : List Commit
  pub lives : ℕ
  pub reply : Reply

abbrev pub code_of : ℕ → Code
code_of code = record { 0 = code }

-- a call that only answers, and one that changes the transaction alone
abbrev pub answers : Transaction → Reply → Called
answers transaction reply = record { transaction = transaction; commits = []; lives = 0; reply = reply }

abbrev pub refuses : Transaction → ℕ → Called
refuses transaction code = answers transaction (reply.Fault (code_of code))

-- what a read is answered, as a reply
abbrev pub reply_of : Answer → Reply
reply_of (read.ValueIs value) = reply.Value value
reply_of (read.KeyIs key) = reply.KeyIs key
reply_of (read.PairsAre pairs) = reply.PairsAre pairs

abbrev pub read_answered : Bool → Read → Answer → (ranges : List KeyRange) → Transaction → Called
read_answered snapshot read answer ranges transaction = answers (with_read snapshot read answer ranges transaction) (reply_of answer)

-- a read at its version, by the code of the first of its later checks that fails
abbrev pub read_at_version : Option ℕ → Setting → Transaction → Bool → Read → Called
read_at_version (Some code) setting transaction snapshot read = refuses transaction code
read_at_version None setting transaction snapshot read =
    read_answered snapshot read (answer read (view setting transaction))
    (added read (map_below setting transaction) (writes_of transaction)) transaction

-- a read that is refused by an earlier check takes no version; each other read takes it
abbrev pub read_by : Option ℕ → Setting → Transaction → Bool → Read → Called
read_by (Some code) setting transaction snapshot read = refuses transaction code
read_by None setting transaction snapshot read =
    read_at_version (first_failing (late_checks setting (with_version setting transaction) read)) setting (with_version setting transaction) snapshot read

-- a write: a refused one changes nothing
abbrev pub write_by : Option ℕ → Transaction → Mutation → Called
write_by (Some code) transaction mutation = refuses transaction code
write_by None transaction mutation = answers (with_mutation transaction mutation) reply.Done

-- an atomic operation by its name; one of an unknown name is refused
abbrev pub atomic_by : Option ℕ → Option AtomicOp → Transaction → List ℕ → List ℕ → Called
atomic_by code None transaction key operand = refuses transaction (unwrap_or code 0)
atomic_by code (Some op) transaction key operand = write_by code transaction (Atomic op key operand)

-- the version that a commit makes which comes next
abbrev pub next_version : Setting → ℕ
next_version setting = last setting.history + 1

-- the commit of a transaction as the one with this versionstamp
abbrev pub commit_of : (stamp : List ℕ) → Setting → Transaction → Commit
commit_of stamp setting transaction = record {
  version = version_in setting transaction;
  script = transaction.script;
  mutations = all_filled stamp (writes_of transaction);
  read_ranges = transaction.read_ranges;
  write_conflicts = write_conflicts_of stamp transaction;
  without_conflict = without_conflict_by stamp transaction.script;
}

-- a commit that is not read-only makes the next version
abbrev pub committed : Setting → Transaction → Called
committed setting transaction = record {
  transaction = with_phase transaction (phase.Tried (tried.Version (next_version setting)));
  commits = commit_of (stamp_of (next_version setting)) setting transaction ∷ [];
  lives = 0;
  reply = reply.Done;
}

-- one that is refused was tried; one on a life that takes no call is only refused
abbrev pub commit_refused : Phase → ℕ → Transaction → Called
commit_refused phase.Active code transaction =
    answers (with_phase transaction (phase.Tried (tried.Refused (code_of code)))) (reply.Fault (code_of code))
commit_refused _ code transaction = refuses transaction code

-- at its version, by the code of the first of its later checks that fails
abbrev pub commit_at_version : Option ℕ → Setting → Transaction → Called
commit_at_version (Some code) setting transaction = commit_refused transaction.phase code transaction
commit_at_version None setting transaction = committed setting transaction

-- one that is read-only makes no version; each other takes its version
abbrev pub commit_allowed : Bool → Setting → Transaction → Called
commit_allowed true setting transaction = answers (with_phase transaction (phase.Tried tried.ReadOnly)) reply.Done
commit_allowed false setting transaction =
    commit_at_version (first_failing (conflict_checks setting (with_version setting transaction))) setting (with_version setting transaction)

abbrev pub commit_by : Option ℕ → Setting → Transaction → Called
commit_by (Some code) setting transaction = commit_refused transaction.phase code transaction
commit_by None setting transaction = commit_allowed (is_read_only transaction) setting transaction

-- a call that a check refuses, or that changes the transaction so and answers so
abbrev pub does_by : Option ℕ → Transaction → Transaction → Reply → Called
does_by (Some code) transaction after reply = refuses transaction code
does_by None transaction after reply = answers after reply

-- a new life of this number
abbrev pub reset : ℕ → Called
reset life = record { transaction = fresh life; commits = []; lives = 1; reply = reply.Done }

-- an error that may be retried begins anew; another is answered, and cancels
abbrev pub error_handled : Bool → ℕ → Transaction → Code → Called
error_handled true life transaction code = reset life
error_handled false life transaction code = answers (with_phase transaction phase.Cancelled) (reply.Fault code)

abbrev pub on_error_by : Bool → ℕ → Transaction → Code → Called
on_error_by true life transaction code = refuses transaction TRANSACTION_CANCELLED
on_error_by false life transaction code = error_handled (is_retryable code.0) life transaction code

-- ---- each call: its checks in their order, and then what it does

-- a read, where `lacks` is whether it lacks a limit that its mode wants
abbrev pub read_called : Setting → Transaction → (lacks snapshot : Bool) → Read → Called
read_called setting transaction lacks snapshot read = read_by (read_code transaction.phase lacks read) setting transaction snapshot read

abbrev pub set_called : Transaction → List ℕ → List ℕ → Called
set_called transaction key value = write_by (set_code transaction.phase key value) transaction (Set key value)

abbrev pub clear_called : Transaction → List ℕ → Called
clear_called transaction key = write_by (clear_code transaction.phase key) transaction (Clear key)

abbrev pub clear_range_called : Transaction → List ℕ → List ℕ → Called
clear_range_called transaction begin end = write_by (range_code transaction.phase begin end) transaction (ClearRange begin end)

abbrev pub atomic_called : Transaction → AtomicOp → List ℕ → List ℕ → Called
atomic_called transaction op key operand = write_by (op_code transaction.phase op key operand) transaction (Atomic op key operand)

-- one by its name, which means what it means under the API version
abbrev pub named_atomic_called : Api → Transaction → List ℕ → List ℕ → List ℕ → Called
named_atomic_called api transaction name key operand =
    atomic_by (atomic_code api transaction.phase name key operand) (atomic_named api name) transaction key operand

abbrev pub read_conflict_called : Transaction → KeyRange → Called
read_conflict_called transaction range =
    does_by (range_code transaction.phase range.begin range.end) transaction (with_read_range transaction range) reply.Done

abbrev pub write_conflict_called : Transaction → KeyRange → Called
write_conflict_called transaction range =
    does_by (range_code transaction.phase range.begin range.end) transaction (with_write_range transaction range) reply.Done

abbrev pub no_write_conflict_called : Transaction → Called
no_write_conflict_called transaction = does_by (phase_code transaction.phase) transaction (with_write_conflict_disabled transaction) reply.Done

-- the version is answered also where it is above the last one
abbrev pub read_version_called : Setting → Transaction → Called
read_version_called setting transaction =
    does_by (phase_code transaction.phase) transaction (with_version setting transaction) (reply.Version (pos (version_in setting transaction)))

abbrev pub set_read_version_called : Transaction → ℤ → Called
set_read_version_called transaction version =
    does_by (set_version_code transaction.phase transaction.version version) transaction
    (record transaction { version = Some (unsigned_abs version) }) reply.Done

abbrev pub committed_version_called : Transaction → Called
committed_version_called transaction = answers transaction (reply.Version (version_made transaction.phase))

abbrev pub versionstamp_called : Transaction → Called
versionstamp_called transaction = does_by (phase_code transaction.phase) transaction transaction (reply.Life transaction.life)

abbrev pub commit_called : Setting → Transaction → Called
commit_called setting transaction = commit_by (commit_code transaction.phase (is_read_only transaction) transaction.size) setting transaction

-- where this is the number of the next life
abbrev pub on_error_called : ℕ → Transaction → Code → Called
on_error_called life transaction code = on_error_by (is_cancelled transaction.phase) life transaction code

abbrev pub cancel_called : Transaction → Called
cancel_called transaction = answers (cancelled transaction) reply.Done

-- a call in a setting, where this is the number of the next life
unfoldable pub called : Setting → ℕ → Transaction → TxnCall → Called
called setting life transaction (call.Get key snapshot) = read_called setting transaction false snapshot (read.Get key)
called setting life transaction (call.GetKey selector snapshot) = read_called setting transaction false snapshot (read.GetKey selector)
called setting life transaction (call.GetRange begin end options snapshot) =
    read_called setting transaction (lacks_limit options.mode options.limit) snapshot (read.GetRange begin end options.limit options.reverse)
called setting life transaction (call.GetKeyRange range options snapshot) =
    read_called setting transaction (lacks_limit options.mode options.limit) snapshot
    (read.GetKeyRange range.begin range.end options.limit options.reverse)
called setting life transaction (call.Set key value) = set_called transaction key value
called setting life transaction (call.Clear key) = clear_called transaction key
called setting life transaction (call.ClearRange range) = clear_range_called transaction range.begin range.end
called setting life transaction (call.Atomic name key operand) = named_atomic_called setting.options.api transaction name key operand
called setting life transaction (call.ReadConflict range) = read_conflict_called transaction range
called setting life transaction (call.WriteConflict range) = write_conflict_called transaction range
called setting life transaction call.NoWriteConflict = no_write_conflict_called transaction
called setting life transaction call.ReadVersion = read_version_called setting transaction
called setting life transaction (call.SetReadVersion version) = set_read_version_called transaction version
called setting life transaction call.CommittedVersion = committed_version_called transaction
called setting life transaction call.Versionstamp = versionstamp_called transaction
called setting life transaction call.Commit = commit_called setting transaction
called setting life transaction (call.OnError code) = on_error_called life transaction code
called setting life transaction call.Reset = reset life
called setting life transaction call.Cancel = cancel_called transaction

-- ---- calls made one after the other

abbrev pub is_fault : Reply → Bool
is_fault (reply.Fault code) = true
is_fault (reply.DirFault fault) = true
is_fault _ = false

-- calls on one transaction, each on what the one before left, until one is refused
abbrev pub in_turn : List (Transaction → Called) → Transaction → Called
in_turn [] transaction = answers transaction reply.Done
in_turn (call ∷ calls) transaction = if is_fault (call transaction).reply then call transaction else in_turn calls (call transaction).transaction

-- the writes of entries to be logged: each is a set of the prefix followed by the entry's key
abbrev pub logs : List ℕ → List (List ℕ × List ℕ) → List (Transaction → Called)
logs prefix [] = []
logs prefix (entry ∷ entries) = (λ transaction. set_called transaction (prefix ++ entry.0) entry.1) ∷ logs prefix entries
