-- What the changes of a transaction keep, each call keeps; and no call but a commit makes one.
use Rattle.std.proofs.Common.{◌≡◌, ℕ, ◌≤◌, ◌⊎◌, inl, inr, Bool, true, false, cond, List, [], ◌∷◌, ◌++◌, Option, Some, None, refl}
use Rattle.std.specs.Prelude.{ℤ, pos, negsuc, not, nat_lt, unsigned_abs, is_some}
use Rattle.std.proofs.lemmas.Bool.{cond_both, ltb-false, ltb-true, not-false}
use Rattle.model_database.specs.declared.TheConstants.{ACCESSED_UNREADABLE, FUTURE_VERSION, READ_VERSION_ALREADY_SET, TRANSACTION_CANCELLED, TRANSACTION_TOO_OLD, USED_DURING_COMMIT, VERSION_INVALID}
use Rattle.model_database.specs.declared.AtomicOp.{AtomicOp}
use Rattle.model_database.specs.declared.Code.{Code}
use Rattle.model_database.specs.declared.Phase.{Phase}
use Rattle.model_database.specs.declared.Phase.TheVariants as phase
use Rattle.model_database.specs.Atomics.{atomic_named}
use Rattle.model_database.specs.Databases.{Mutation, Set, Clear, ClearRange, Atomic}
use Rattle.model_database.specs.Histories.{Setting, last}
use Rattle.model_database.specs.Intervals.{one}
use Rattle.model_database.specs.Modes.{lacks_limit}
use Rattle.model_database.specs.Reads.{Read}
use Rattle.model_database.specs.Reads as read
use Rattle.model_database.specs.Transactions.{Transaction, after_phase, atomic_code, cancelled, first_failing, is_ahead, is_behind, is_cancelled, is_hidden, is_positive, is_retryable, is_tried, late_checks, named_checks, op_code, phase_code, range_code, read_code, set_version_code, with_write_conflict_disabled, version_in, with_phase, with_read_range, with_version, with_write_range}
use Rattle.fdb_calls.specs.declared.Reply.{Reply}
use Rattle.fdb_calls.specs.declared.TxnCall.{TxnCall}
use Rattle.fdb_calls.specs.declared.TxnCall.TheVariants as call
use Rattle.fdb_calls.specs.Calling.{Called, answers, atomic_by, called, does_by, error_handled, in_turn, is_fault, logs, on_error_by, read_at_version, read_by, read_called, set_called, write_by}
use Rattle.model_allocator.specs.Acts.{Act, Draws, Reads, Writes, DisablesWriteConflict, AddsWriteConflict, act_called}
use Rattle.model_machine.proofs.Keeping.{AreActsKept, AreCallsKept, write_code}

-- ---- checks that passed

-- where no check fails, the first one doesn't, and none of the others
pub passed : (check : Bool × ℕ) (checks : List (Bool × ℕ)) → first_failing (check ∷ checks) ≡ None
    → (check.0 ≡ false) × (first_failing checks ≡ None)
passed check checks none = by check.0 none
  where
    by : (fails : Bool) → cond fails (Some check.1) (first_failing checks) ≡ None → (fails ≡ false) × (first_failing checks ≡ None)
    by true none = absurd cc
    by false none = (refl, none)

-- none of the checks after those of the phase fails
pub passed_phase : (phase : Phase) (checks : List (Bool × ℕ)) → first_failing (after_phase phase checks) ≡ None → first_failing checks ≡ None
passed_phase phase checks none =
    let tries : Bool × ℕ = (is_tried phase, USED_DURING_COMMIT) in
    (passed tries checks (passed (is_cancelled phase, TRANSACTION_CANCELLED) (tries ∷ checks) none).1).1

-- a version that may be set is above 0, and none was taken
passed_set_version : (phase : Phase) (taken : Option ℕ) (version : ℤ) → set_version_code phase taken version ≡ None
    → (taken ≡ None) × (1 ≤ unsigned_abs version)
unfolding set_version_code
passed_set_version phase taken version none =
    let unset : Bool × ℕ = (is_some taken, READ_VERSION_ALREADY_SET) in
    let positive : Bool × ℕ = (not (is_positive version), VERSION_INVALID) in
    let first = passed unset (positive ∷ []) (passed_phase phase (unset ∷ positive ∷ []) none) in
    let second = passed positive [] first.1 in
    (untaken taken first.0, above version second.0)
  where
    untaken : (taken : Option ℕ) → is_some taken ≡ false → taken ≡ None
    untaken None is = refl
    untaken (Some n) is = absurd cc

    above : (version : ℤ) → not (is_positive version) ≡ false → 1 ≤ unsigned_abs version
    above (pos n) is = ltb-true 0 n (not-false (nat_lt 0 n) is)
    above (negsuc n) is = absurd cc

-- ---- calls that make no commit

-- what holds is kept by a call, and no commit is made
pub record IsQuiet (Holds : Transaction → Type 0) (called : Called) : Type 0 where
  pub kept : Holds called.transaction
  pub none : called.commits ≡ []

module _ (Holds : Transaction → Type 0) where
  -- a call that only answers, or leaves a transaction of which it holds
  answers_quiet : (t : Transaction) (reply : Reply) → Holds t → IsQuiet Holds (answers t reply)
  answers_quiet t reply holds = record { kept = holds; none = refl }

  -- a call that leaves this transaction where no check fails
  does_quiet : (code : Option ℕ) (t after : Transaction) (reply : Reply) → Holds t → (code ≡ None → Holds after)
      → IsQuiet Holds (does_by code t after reply)
  does_quiet (Some code) t after reply holds left = answers_quiet t _ holds
  does_quiet None t after reply holds left = answers_quiet after reply (left refl)

module _ (setting : Setting) (Holds : Transaction → Type 0) (acts : AreActsKept setting Holds) where
  -- a read at its version, by its later checks
  at_version_quiet : (t : Transaction) (snapshot : Bool) (read : Read) → Holds (with_version setting t)
      → IsQuiet Holds (read_at_version (first_failing (late_checks setting (with_version setting t) read)) setting (with_version setting t) snapshot read)
  at_version_quiet t snapshot read holds = by (first_failing (late_checks setting (with_version setting t) read)) refl
    where
      by : (code : Option ℕ) → first_failing (late_checks setting (with_version setting t) read) ≡ code
          → IsQuiet Holds (read_at_version code setting (with_version setting t) snapshot read)
      by (Some code) is = answers_quiet Holds (with_version setting t) _ holds
      by None is =
          let behind : Bool × ℕ = (is_behind setting (with_version setting t), TRANSACTION_TOO_OLD) in
          let ahead : Bool × ℕ = (is_ahead setting (with_version setting t), FUTURE_VERSION) in
          let hidden : Bool × ℕ = (is_hidden setting (with_version setting t) read, ACCESSED_UNREADABLE) in
          answers_quiet Holds _ _ (acts.read t snapshot read
          (ltb-false (last setting.history) (version_in setting t) (passed ahead (hidden ∷ []) (passed behind (ahead ∷ hidden ∷ []) is).1).0) holds)

  -- a read takes a version, unless it is refused before
  read_quiet : (t : Transaction) (lacks snapshot : Bool) (read : Read) → Holds t → IsQuiet Holds (read_called setting t lacks snapshot read)
  read_quiet t lacks snapshot read holds = by (read_code t.phase lacks read)
    where
      by : (code : Option ℕ) → IsQuiet Holds (read_by code setting t snapshot read)
      by (Some code) = answers_quiet Holds t _ holds
      by None = at_version_quiet t snapshot read (acts.taken t holds)

  -- a write
  write_quiet : (t : Transaction) (mutation : Mutation) → Holds t → IsQuiet Holds (write_by (write_code t.phase mutation) t mutation)
  write_quiet t mutation holds = by (write_code t.phase mutation) refl
    where
      by : (code : Option ℕ) → write_code t.phase mutation ≡ code → IsQuiet Holds (write_by code t mutation)
      by (Some code) is = answers_quiet Holds t _ holds
      by None is = answers_quiet Holds _ _ (acts.write t mutation is holds)

  -- an atomic operation by its name, which may be the name of none
  atomic_quiet : (t : Transaction) (op : Option AtomicOp) (key operand : List ℕ) → Holds t
      → IsQuiet Holds (atomic_by (first_failing (after_phase t.phase (named_checks op key operand))) op t key operand)
  unfolding op_code
  atomic_quiet t None key operand holds = answers_quiet Holds t _ holds
  atomic_quiet t (Some op) key operand holds = write_quiet t (Atomic op key operand) holds

  -- each act of a layer
  pub act_quiet : (t : Transaction) (act : Act) → Holds t → IsQuiet Holds (act_called setting t act)
  act_quiet t Draws holds = answers_quiet Holds t _ holds
  act_quiet t (Reads read snapshot) holds = read_quiet t false snapshot read holds
  act_quiet t (Writes (Set key value)) holds = write_quiet t (Set key value) holds
  act_quiet t (Writes (Clear key)) holds = write_quiet t (Clear key) holds
  act_quiet t (Writes (ClearRange begin end)) holds = write_quiet t (ClearRange begin end) holds
  act_quiet t (Writes (Atomic op key operand)) holds = write_quiet t (Atomic op key operand) holds
  act_quiet t DisablesWriteConflict holds = does_quiet Holds (phase_code t.phase) t (with_write_conflict_disabled t) _ holds (λ none. acts.disabling t holds)
  act_quiet t (AddsWriteConflict key) holds =
      does_quiet Holds (range_code t.phase (one key).begin (one key).end) t (with_write_range t (one key)) _ holds
      (λ none. acts.write_conflict t (one key) holds)

  -- the writes of entries to be logged, one after the other until one is refused
  pub logs_quiet : (prefix : List ℕ) (entries : List (List ℕ × List ℕ)) (t : Transaction) → Holds t
      → IsQuiet Holds (in_turn (logs prefix entries) t)
  logs_quiet prefix [] t holds = answers_quiet Holds t _ holds
  logs_quiet prefix (entry ∷ entries) t holds =
      let set = set_called t (prefix ++ entry.0) entry.1 in
      let first = write_quiet t (Set (prefix ++ entry.0) entry.1) holds in
      cond_both (is_fault set.reply) set (in_turn (logs prefix entries) set.transaction) (IsQuiet Holds)
      (λ fault. first) (λ done. logs_quiet prefix entries set.transaction first.kept)

module _ (setting : Setting) (Holds : Transaction → Type 0) (calls : AreCallsKept setting Holds) where
  -- an error that may be retried, and one that may not
  handled_quiet : (retryable : Bool) (life : ℕ) (t : Transaction) (code : Code) → Holds t → IsQuiet Holds (error_handled retryable life t code)
  handled_quiet true life t code holds = record { kept = calls.begun life; none = refl }
  handled_quiet false life t code holds = answers_quiet Holds (with_phase t phase.Cancelled) _ (calls.phase t phase.Cancelled holds)

  -- an error on a life that is cancelled already, and on another
  on_error_quiet : (cancelled : Bool) (life : ℕ) (t : Transaction) (code : Code) → Holds t → IsQuiet Holds (on_error_by cancelled life t code)
  on_error_quiet true life t code holds = answers_quiet Holds t _ holds
  on_error_quiet false life t code holds = handled_quiet (is_retryable code.0) life t code holds

  -- it is cancelled, unless it was tried
  cancelled_kept : (t : Transaction) → Holds t → Holds (cancelled t)
  cancelled_kept t holds =
      cond_both (is_tried t.phase) t (with_phase t phase.Cancelled) Holds (λ tried. holds) (λ untried. calls.phase t phase.Cancelled holds)

  -- each call that is not a commit
  pub called_quiet : (life : ℕ) (t : Transaction) (its_call : TxnCall) → Holds t
      → IsQuiet Holds (called setting life t its_call) ⊎ (its_call ≡ call.Commit)
  unfolding called atomic_code
  called_quiet life t (call.Get key snapshot) holds = inl (read_quiet setting Holds calls.acts t false snapshot (read.Get key) holds)
  called_quiet life t (call.GetKey selector snapshot) holds =
      inl (read_quiet setting Holds calls.acts t false snapshot (read.GetKey selector) holds)
  called_quiet life t (call.GetRange begin end options snapshot) holds =
      inl (read_quiet setting Holds calls.acts t (lacks_limit options.mode options.limit) snapshot (read.GetRange begin end options.limit options.reverse) holds)
  called_quiet life t (call.GetKeyRange range options snapshot) holds =
      inl (read_quiet setting Holds calls.acts t (lacks_limit options.mode options.limit) snapshot (read.GetKeyRange range.begin range.end options.limit options.reverse) holds)
  called_quiet life t (call.Set key value) holds = inl (write_quiet setting Holds calls.acts t (Set key value) holds)
  called_quiet life t (call.Clear key) holds = inl (write_quiet setting Holds calls.acts t (Clear key) holds)
  called_quiet life t (call.ClearRange range) holds =
      inl (write_quiet setting Holds calls.acts t (ClearRange range.begin range.end) holds)
  called_quiet life t (call.Atomic name key operand) holds =
      inl (atomic_quiet setting Holds calls.acts t (atomic_named setting.options.api name) key operand holds)
  called_quiet life t (call.ReadConflict range) holds =
      inl (does_quiet Holds (range_code t.phase range.begin range.end) t (with_read_range t range) _ holds
      (λ none. calls.read_conflict t range holds))
  called_quiet life t (call.WriteConflict range) holds =
      inl (does_quiet Holds (range_code t.phase range.begin range.end) t (with_write_range t range) _ holds
      (λ none. calls.acts.write_conflict t range holds))
  called_quiet life t call.NoWriteConflict holds =
      inl (does_quiet Holds (phase_code t.phase) t (with_write_conflict_disabled t) _ holds (λ none. calls.acts.disabling t holds))
  called_quiet life t call.ReadVersion holds =
      inl (does_quiet Holds (phase_code t.phase) t (with_version setting t) _ holds (λ none. calls.acts.taken t holds))
  called_quiet life t (call.SetReadVersion version) holds =
      inl (does_quiet Holds (set_version_code t.phase t.version version) t (record t { version = Some (unsigned_abs version) }) _ holds
      (λ none. let may = passed_set_version t.phase t.version version none in calls.set_version t (unsigned_abs version) may.0 may.1 holds))
  called_quiet life t call.CommittedVersion holds = inl (answers_quiet Holds t _ holds)
  called_quiet life t call.Versionstamp holds = inl (does_quiet Holds (phase_code t.phase) t t _ holds (λ none. holds))
  called_quiet life t call.Commit holds = inr refl
  called_quiet life t (call.OnError code) holds = inl (on_error_quiet (is_cancelled t.phase) life t code holds)
  called_quiet life t call.Reset holds = inl (record { kept = calls.begun life; none = refl })
  called_quiet life t call.Cancel holds = inl (answers_quiet Holds (cancelled t) _ (cancelled_kept t holds))
