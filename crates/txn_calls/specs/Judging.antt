-- What the checks of a commit come to, and what handling an error does.
use Rattle.std.specs.Prelude.{◌≡◌, ◌⊎◌, ℕ, ◌<◌, ◌^◌, ⊤, true, false, Option, Some, None, Result, Ok, Err}
use Rattle.model_database.specs.declared.Code.{Code}
use Rattle.model_database.specs.declared.Phase.{Phase}
use Rattle.model_database.specs.declared.Phase.TheVariants as phase
use Rattle.model_database.specs.declared.Tried.{Tried}
use Rattle.model_database.specs.declared.Tried.TheVariants as tried
use Rattle.model_database.specs.Histories.{Setting}
use Rattle.model_database.specs.Transactions.{Transaction, first_failing, phase_code, commit_code, conflict_checks, is_read_only, with_version}
use Rattle.fdb_calls.specs.declared.fault.TrFault.{TrFault}
use Rattle.fdb_calls.specs.declared.fault.TrFault.TheVariants as fault
use Rattle.fdb_calls.specs.declared.Reply.TheVariants as reply
use Rattle.fdb_calls.specs.Calling.{Called}
use Rattle.txn_calls.specs.declared.verdict.Verdict.{Verdict}
use Rattle.txn_calls.specs.declared.verdict.Verdict.TheVariants as verdict
use Rattle.txn_calls.specs.Stands.{Kept, StandsFor}

-- the code of the first check of a transaction's commit that fails before its version is taken
abbrev pub commit_refusal : Transaction → Option ℕ
commit_refusal transaction = commit_code transaction.phase (is_read_only transaction) transaction.size

-- the code of the first check that fails at its version
abbrev pub conflict_refusal : Setting → Transaction → Option ℕ
conflict_refusal setting transaction = first_failing (conflict_checks setting (with_version setting transaction))

-- a commit goes on to its version: no earlier check refuses it, and it isn't read-only
pub record TakesVersion (transaction : Transaction) : Type 0 where
  pub allowed : commit_refusal transaction ≡ None
  pub writes : is_read_only transaction ≡ false

-- The code is that of the first check that fails; else the transaction is read-only, or it commits. One that goes on to its
-- version has it taken. After want of memory it stands for the transaction before.
abbrev pub Judged : Result Verdict TrFault → (Transaction → Type 0) → Setting → Transaction → Type 0
Judged (Ok verdict.ReadOnly) stands setting transaction =
    (commit_refusal transaction ≡ None) × (is_read_only transaction ≡ true) × stands transaction
Judged (Ok verdict.Commits) stands setting transaction =
    TakesVersion transaction × (conflict_refusal setting transaction ≡ None) × stands (with_version setting transaction)
Judged (Err (fault.Code code)) stands setting transaction =
    ((commit_refusal transaction ≡ Some code.0) × stands transaction)
    ⊎ (TakesVersion transaction × (conflict_refusal setting transaction ≡ Some code.0) × stands (with_version setting transaction))
Judged (Err fault.NoMemory) stands setting transaction = stands transaction

-- a version that a commit made is a number of 63 bits
abbrev pub IsLow : Tried → Type 0
IsLow tried.ReadOnly = ⊤
IsLow (tried.Version version) = version < 2 ^ 63
IsLow (tried.Refused code) = ⊤

abbrev pub IsLowPhase : Phase → Type 0
IsLowPhase phase.Active = ⊤
IsLowPhase phase.Cancelled = ⊤
IsLowPhase (phase.Tried outcome) = IsLow outcome

-- a read version is a number of 63 bits, where there is one: a store has no greater one, and it is set as an `i64`
abbrev pub IsLowVersion : Option ℕ → Type 0
IsLowVersion None = ⊤
IsLowVersion (Some version) = version < 2 ^ 63

-- a new life was begun where the error may be retried; else its code was answered
abbrev pub Handled : {A : Type 0} → Result A Code → Kept → Called → Type 0
Handled (Ok _) kept called = (called.reply ≡ reply.Done) × (called.lives ≡ 1) × StandsFor kept called.transaction
Handled (Err code) kept called = (called.reply ≡ reply.Fault code) × (called.lives ≡ 0) × StandsFor kept called.transaction

-- the life, of one that takes calls; else the code of its phase
abbrev pub Promises : Result ℕ Code → Kept → Type 0
Promises (Ok life) kept = (phase_code kept.phase ≡ None) × (life ≡ kept.life)
Promises (Err code) kept = phase_code kept.phase ≡ Some code.0
