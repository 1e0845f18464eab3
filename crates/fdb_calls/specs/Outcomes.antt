-- What became of a life of a transaction, of which a versionstamp may have been promised (API reference,
-- "fdb_transaction_get_versionstamp").
use Rattle.std.specs.Prelude.{Option, Some, None}
use Rattle.model_database.specs.declared.Phase.{Phase}
use Rattle.model_database.specs.declared.Phase.TheVariants as phase
use Rattle.model_database.specs.declared.Tried.TheVariants as tried
use Rattle.model_database.specs.declared.TheConstants.{NO_COMMIT_VERSION, TRANSACTION_CANCELLED}
use Rattle.model_database.specs.Histories.{stamp_of}
use Rattle.fdb_calls.specs.declared.Outcome.{Outcome}
use Rattle.fdb_calls.specs.declared.Outcome.TheVariants as outcome
use Rattle.fdb_calls.specs.Calling.{code_of}

-- what became of a life by its phase: that of a commit that was tried, or that it was cancelled
abbrev pub outcome_of : Phase → Option Outcome
outcome_of phase.Active = None
outcome_of phase.Cancelled = Some (outcome.Lacks (code_of TRANSACTION_CANCELLED))
outcome_of (phase.Tried tried.ReadOnly) = Some (outcome.Lacks (code_of NO_COMMIT_VERSION))
outcome_of (phase.Tried (tried.Version version)) = Some (outcome.HasStamp (stamp_of version))
outcome_of (phase.Tried (tried.Refused code)) = Some (outcome.Lacks code)
