-- What the writes of entries come to.
use Rattle.std.specs.Prelude.{◌≡◌, ℕ, List, ⊤, Result, Ok, Err}
use Rattle.model_database.specs.Transactions.{Transaction}
use Rattle.fdb_calls.specs.declared.fault.TrFault.{TrFault}
use Rattle.fdb_calls.specs.declared.fault.TrFault.TheVariants as fault
use Rattle.fdb_calls.specs.declared.Reply.TheVariants as reply
use Rattle.fdb_calls.specs.Calling.{Called, in_turn, logs}
use Rattle.txn_calls.specs.Stands.{Kept, StandsFor}

-- they were answered as is said, and it stands for the transaction that is said to be left; after want of memory nothing is said
abbrev pub Logs : {A : Type 0} → Result A TrFault → Kept → Called → Type 0
Logs (Ok _) kept called = (reply.Done ≡ called.reply) × StandsFor kept called.transaction
Logs (Err (fault.Code code)) kept called = (reply.Fault code ≡ called.reply) × StandsFor kept called.transaction
Logs (Err fault.NoMemory) kept called = ⊤

-- what is left to write comes to the same as all
pub record LogsOn (kept : Kept) (prefix : List ℕ) (left : List (List ℕ × List ℕ)) (called : Called) : Type 0 where
  pub now : Transaction
  pub stands : StandsFor kept now
  pub is : called ≡ in_turn (logs prefix left) now
