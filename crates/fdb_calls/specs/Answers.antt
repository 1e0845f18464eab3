-- How the answer of a call that may fail is one of the definitions.
use Rattle.std.specs.Prelude.{◌≡◌, Result, Ok, Err}
use Rattle.model_database.specs.Transactions.{Transaction}
use Rattle.fdb_calls.specs.declared.fault.TrFault.{TrFault}
use Rattle.fdb_calls.specs.declared.fault.TrFault.TheVariants as fault
use Rattle.fdb_calls.specs.declared.Reply.{Reply}
use Rattle.fdb_calls.specs.declared.Reply.TheVariants as reply
use Rattle.fdb_calls.specs.Calling.{Called}

-- The call was answered as is said, a value as this reply, and it stands for the transaction that is said to be left; or
-- memory ran out, and it stands for the transaction before.
abbrev pub Answered : {A : Type 0} → (A → Reply) → Result A TrFault → (Transaction → Type 0) → Transaction → Called → Type 0
Answered replied (Ok value) stands before called = (replied value ≡ called.reply) × stands called.transaction
Answered replied (Err (fault.Code code)) stands before called = (reply.Fault code ≡ called.reply) × stands called.transaction
Answered replied (Err fault.NoMemory) stands before called = stands before
