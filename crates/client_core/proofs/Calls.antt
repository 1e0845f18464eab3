-- How many commits a call makes.
use Rattle.std.proofs.Common.{◌≡◌, ℕ, ◌≤◌, ◌⊎◌, inl, inr, Bool, true, false, cond, List, [], ◌∷◌, ◌++◌, length, Option, Some, None, refl, sym, ap, subst, ◌∙◌, arith}
use Rattle.model_database.specs.declared.Code.{Code}
use Rattle.fdb_calls.specs.declared.Reply.{Reply}
use Rattle.fdb_calls.specs.declared.Reply.TheVariants as reply
use Rattle.fdb_calls.specs.declared.TxnCall.{TxnCall}
use Rattle.fdb_calls.specs.declared.TxnCall.TheVariants as call
use Rattle.model_database.specs.declared.AtomicOp.{AtomicOp}
use Rattle.model_database.specs.declared.Phase.{Phase}
use Rattle.model_database.specs.declared.Phase.TheVariants as phase
use Rattle.model_database.specs.Atomics.{atomic_named}
use Rattle.model_database.specs.Databases.{Mutation, Set, Clear, ClearRange}
use Rattle.model_database.specs.Histories.{Setting, Commit}
use Rattle.model_database.specs.Reads.{Read}
use Rattle.model_database.specs.Reads as read
use Rattle.model_database.specs.Modes.{lacks_limit}
use Rattle.model_database.specs.Transactions.{Transaction, fresh, first_failing, read_code, set_code, clear_code, range_code, atomic_code, phase_code, set_version_code, commit_code, conflict_checks, is_read_only, is_cancelled, is_retryable, with_version, late_checks}
use Rattle.fdb_calls.specs.Calling.{Called, called, is_fault, in_turn, logs, set_called, read_by, read_at_version, read_called, write_by, atomic_by, does_by, commit_by, commit_allowed, commit_at_version, commit_refused, on_error_by, error_handled}

-- it makes no commit
abbrev IsQuiet : Called → Type 0
IsQuiet called = called.commits ≡ []

at_version_quiet : (code : Option ℕ) (setting : Setting) (transaction : Transaction) (snapshot : Bool) (read : Read)
    → IsQuiet (read_at_version code setting transaction snapshot read)
at_version_quiet (Some code) setting transaction snapshot read = refl
at_version_quiet None setting transaction snapshot read = refl

read_quiet : (setting : Setting) (transaction : Transaction) (lacks snapshot : Bool) (read : Read)
    → IsQuiet (read_called setting transaction lacks snapshot read)
read_quiet setting transaction lacks snapshot read = by_code (read_code transaction.phase lacks read)
  where
    by_code : (code : Option ℕ) → IsQuiet (read_by code setting transaction snapshot read)
    by_code (Some code) = refl
    by_code None = at_version_quiet (first_failing (late_checks setting (with_version setting transaction) read)) setting
        (with_version setting transaction) snapshot read

write_quiet : (code : Option ℕ) (transaction : Transaction) (mutation : Mutation) → IsQuiet (write_by code transaction mutation)
write_quiet (Some code) transaction mutation = refl
write_quiet None transaction mutation = refl

atomic_quiet : (code : Option ℕ) (op : Option AtomicOp) (transaction : Transaction) (key operand : List ℕ)
    → IsQuiet (atomic_by code op transaction key operand)
atomic_quiet code None transaction key operand = refl
atomic_quiet (Some code) (Some op) transaction key operand = refl
atomic_quiet None (Some op) transaction key operand = refl

does_quiet : (code : Option ℕ) (transaction after : Transaction) (reply : Reply) → IsQuiet (does_by code transaction after reply)
does_quiet (Some code) transaction after reply = refl
does_quiet None transaction after reply = refl

handled_quiet : (retryable : Bool) (life : ℕ) (transaction : Transaction) (code : Code)
    → IsQuiet (error_handled retryable life transaction code)
handled_quiet true life transaction code = refl
handled_quiet false life transaction code = refl

on_error_quiet : (cancelled : Bool) (life : ℕ) (transaction : Transaction) (code : Code)
    → IsQuiet (on_error_by cancelled life transaction code)
on_error_quiet true life transaction code = refl
on_error_quiet false life transaction code = handled_quiet (is_retryable code.0) life transaction code

-- it makes one commit at most
abbrev IsFew : Called → Type 0
IsFew called = length called.commits ≤ 1

refused_few : (phase : Phase) (code : ℕ) (transaction : Transaction) → IsFew (commit_refused phase code transaction)
refused_few phase.Active code transaction = omega arith
refused_few phase.Cancelled code transaction = omega arith
refused_few (phase.Tried outcome) code transaction = omega arith

at_version_few : (code : Option ℕ) (setting : Setting) (transaction : Transaction) → IsFew (commit_at_version code setting transaction)
at_version_few (Some code) setting transaction = refused_few transaction.phase code transaction
at_version_few None setting transaction = omega arith

allowed_few : (read_only : Bool) (setting : Setting) (transaction : Transaction) → IsFew (commit_allowed read_only setting transaction)
allowed_few true setting transaction = omega arith
allowed_few false setting transaction =
    at_version_few (first_failing (conflict_checks setting (with_version setting transaction))) setting (with_version setting transaction)

commit_few : (code : Option ℕ) (setting : Setting) (transaction : Transaction) → IsFew (commit_by code setting transaction)
commit_few (Some code) setting transaction = refused_few transaction.phase code transaction
commit_few None setting transaction = allowed_few (is_read_only transaction) setting transaction

pub commit_commits : (setting : Setting) (life : ℕ) (transaction : Transaction)
    → length (called setting life transaction call.Commit).commits ≤ 1
unfolding called
commit_commits setting life transaction = commit_few (commit_code transaction.phase (is_read_only transaction) transaction.size) setting transaction

-- a call but a commit
quiet_or_commit : (setting : Setting) (life : ℕ) (transaction : Transaction) (its_call : TxnCall)
    → (IsQuiet (called setting life transaction its_call)) ⊎ (its_call ≡ call.Commit)
unfolding called
quiet_or_commit setting life transaction (call.Get key snapshot) = inl (read_quiet setting transaction false snapshot (read.Get key))
quiet_or_commit setting life transaction (call.GetKey selector snapshot) = inl (read_quiet setting transaction false snapshot (read.GetKey selector))
quiet_or_commit setting life transaction (call.GetRange begin end options snapshot) =
    inl (read_quiet setting transaction (lacks_limit options.mode options.limit) snapshot (read.GetRange begin end options.limit options.reverse))
quiet_or_commit setting life transaction (call.GetKeyRange range options snapshot) =
    inl (read_quiet setting transaction (lacks_limit options.mode options.limit) snapshot (read.GetKeyRange range.begin range.end options.limit options.reverse))
quiet_or_commit setting life transaction (call.Set key value) =
    inl (write_quiet (set_code transaction.phase key value) transaction (Set key value))
quiet_or_commit setting life transaction (call.Clear key) = inl (write_quiet (clear_code transaction.phase key) transaction (Clear key))
quiet_or_commit setting life transaction (call.ClearRange range) =
    inl (write_quiet (range_code transaction.phase range.begin range.end) transaction (ClearRange range.begin range.end))
quiet_or_commit setting life transaction (call.Atomic name key operand) =
    inl (atomic_quiet (atomic_code setting.options.api transaction.phase name key operand) (atomic_named setting.options.api name) transaction
    key operand)
quiet_or_commit setting life transaction (call.ReadConflict range) =
    inl (does_quiet (range_code transaction.phase range.begin range.end) transaction _ reply.Done)
quiet_or_commit setting life transaction (call.WriteConflict range) =
    inl (does_quiet (range_code transaction.phase range.begin range.end) transaction _ reply.Done)
quiet_or_commit setting life transaction call.NoWriteConflict = inl (does_quiet (phase_code transaction.phase) transaction _ reply.Done)
quiet_or_commit setting life transaction call.ReadVersion = inl (does_quiet (phase_code transaction.phase) transaction _ _)
quiet_or_commit setting life transaction (call.SetReadVersion version) =
    inl (does_quiet (set_version_code transaction.phase transaction.version version) transaction _ reply.Done)
quiet_or_commit setting life transaction call.CommittedVersion = inl refl
quiet_or_commit setting life transaction call.Versionstamp = inl (does_quiet (phase_code transaction.phase) transaction transaction _)
quiet_or_commit setting life transaction call.Commit = inr refl
quiet_or_commit setting life transaction (call.OnError code) = inl (on_error_quiet (is_cancelled transaction.phase) life transaction code)
quiet_or_commit setting life transaction call.Reset = inl refl
quiet_or_commit setting life transaction call.Cancel = inl refl

-- a commit draws no life
refused_draws : (phase : Phase) (code : ℕ) (transaction : Transaction) → (commit_refused phase code transaction).lives ≡ 0
refused_draws phase.Active code transaction = refl
refused_draws phase.Cancelled code transaction = refl
refused_draws (phase.Tried outcome) code transaction = refl

at_version_draws : (code : Option ℕ) (setting : Setting) (transaction : Transaction) → (commit_at_version code setting transaction).lives ≡ 0
at_version_draws (Some code) setting transaction = refused_draws transaction.phase code transaction
at_version_draws None setting transaction = refl

allowed_draws : (read_only : Bool) (setting : Setting) (transaction : Transaction) → (commit_allowed read_only setting transaction).lives ≡ 0
allowed_draws true setting transaction = refl
allowed_draws false setting transaction =
    at_version_draws (first_failing (conflict_checks setting (with_version setting transaction))) setting (with_version setting transaction)

commit_draws : (code : Option ℕ) (setting : Setting) (transaction : Transaction) → (commit_by code setting transaction).lives ≡ 0
commit_draws (Some code) setting transaction = refused_draws transaction.phase code transaction
commit_draws None setting transaction = allowed_draws (is_read_only transaction) setting transaction

commit_draws_none : (setting : Setting) (life : ℕ) (transaction : Transaction) → (called setting life transaction call.Commit).lives ≡ 0
unfolding called
commit_draws_none setting life transaction =
    commit_draws (commit_code transaction.phase (is_read_only transaction) transaction.size) setting transaction

-- a call that draws a life makes no commit
pub drawing_quiet : (setting : Setting) (life : ℕ) (transaction : Transaction) (its_call : TxnCall)
    → (called setting life transaction its_call).lives ≡ 1 → (called setting life transaction its_call).commits ≡ []
drawing_quiet setting life transaction its_call drew = by_quiet (quiet_or_commit setting life transaction its_call)
  where
    none : (lives : ℕ) → lives ≡ 1 → lives ≡ 0 → ⊥
    none lives one zero = omega arith

    by_quiet : (IsQuiet (called setting life transaction its_call)) ⊎ (its_call ≡ call.Commit)
        → (called setting life transaction its_call).commits ≡ []
    by_quiet (inl is) = is
    by_quiet (inr e) = absurd (none (called setting life transaction its_call).lives drew
        (ap (λ c. (called setting life transaction c).lives) e ∙ commit_draws_none setting life transaction))

pub few_commits : (setting : Setting) (life : ℕ) (transaction : Transaction) (its_call : TxnCall)
    → length (called setting life transaction its_call).commits ≤ 1
few_commits setting life transaction its_call = by_quiet (quiet_or_commit setting life transaction its_call)
  where
    none_few : (commits : List Commit) → commits ≡ [] → length commits ≤ 1
    none_few commits e = subst (λ cs. length cs ≤ 1) (sym e) (omega arith)

    by_quiet : (IsQuiet (called setting life transaction its_call)) ⊎ (its_call ≡ call.Commit)
        → length (called setting life transaction its_call).commits ≤ 1
    by_quiet (inl is) = none_few (called setting life transaction its_call).commits is
    by_quiet (inr e) = subst (λ c. length (called setting life transaction c).commits ≤ 1) (sym e) (commit_commits setting life transaction)

-- a transaction without a mutation commits nothing
empty_commits : (setting : Setting) (life n : ℕ) → (called setting life (with_version setting (fresh n)) call.Commit).commits ≡ []
unfolding called commit_code
empty_commits setting life n = refl

-- a first call on a transaction of its own makes no commit
pub first_commits : (setting : Setting) (life n : ℕ) (its_call : TxnCall)
    → (called setting life (with_version setting (fresh n)) its_call).commits ≡ []
first_commits setting life n its_call = by_quiet (quiet_or_commit setting life (with_version setting (fresh n)) its_call)
  where
    by_quiet : (IsQuiet (called setting life (with_version setting (fresh n)) its_call)) ⊎ (its_call ≡ call.Commit)
        → (called setting life (with_version setting (fresh n)) its_call).commits ≡ []
    by_quiet (inl is) = is
    by_quiet (inr e) = ap (λ c. (called setting life (with_version setting (fresh n)) c).commits) e ∙ empty_commits setting life n

-- ---- writes one after the other

-- it makes no commit, and draws no life
pub record IsInPlace (called : Called) : Type 0 where
  pub commits : called.commits ≡ []
  pub lives : called.lives ≡ 0

write_in_place : (code : Option ℕ) (transaction : Transaction) (mutation : Mutation) → IsInPlace (write_by code transaction mutation)
write_in_place (Some code) transaction mutation = record { commits = refl; lives = refl }
write_in_place None transaction mutation = record { commits = refl; lives = refl }

by_fault : (b : Bool) (first rest : Called) → IsInPlace first → IsInPlace rest → IsInPlace (cond b first rest)
by_fault true first rest place other = place
by_fault false first rest place other = other

pub logs_in_place : (prefix : List ℕ) (entries : List (List ℕ × List ℕ)) (transaction : Transaction)
    → IsInPlace (in_turn (logs prefix entries) transaction)
logs_in_place prefix [] transaction = record { commits = refl; lives = refl }
logs_in_place prefix (entry ∷ entries) transaction =
    by_fault (is_fault (set_called transaction (prefix ++ entry.0) entry.1).reply) (set_called transaction (prefix ++ entry.0) entry.1) _
    (write_in_place (set_code transaction.phase (prefix ++ entry.0) entry.1) transaction (Set (prefix ++ entry.0) entry.1))
    (logs_in_place prefix entries (set_called transaction (prefix ++ entry.0) entry.1).transaction)
