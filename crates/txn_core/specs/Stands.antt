-- What the answer of a call stands for; the relations of a transaction, a store and an index are those of txn_calls.
use Rattle.std.specs.Prelude.{◌≡◌, if◌then◌else◌}
use Rattle.model_database.specs.Histories.{Setting, grown_by}
use Rattle.conflict_ranges.specs.Writes.{Index}
use Rattle.fdb_calls.specs.Calling.{Called}
use Rattle.version_store.specs.Versions.{Versions}
pub use Rattle.txn_calls.specs.Stands.{Kept, SameMutations, StandsFor, Keeps, StandsStill}
use Rattle.txn_core.specs.declared.answer.Answer.{Answer}

-- a call was answered as is said, and the transaction, the store and the index stand for what it left
pub record Answers (answer : Answer) (kept : Kept) (store : Versions) (index : Index) (setting : Setting) (called : Called) : Type 0 where
  pub reply : answer.reply ≡ called.reply
  pub lives : (if answer.drew_life then 1 else 0) ≡ called.lives
  pub stands : StandsFor kept called.transaction
  pub keeps : Keeps store index (grown_by setting called.commits)
