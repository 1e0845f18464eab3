-- How the answer of a call is made of its result.
use Rattle.std.specs.Prelude.{◌≡◌, ℕ, Bool, true, false, Result, Ok, Err}
use Rattle.model_database.specs.declared.Code.{Code}
use Rattle.fdb_calls.specs.declared.fault.TrFault.{TrFault}
use Rattle.fdb_calls.specs.declared.fault.TrFault.TheVariants as fault
use Rattle.fdb_calls.specs.declared.Reply.{Reply}
use Rattle.fdb_calls.specs.declared.TxnCall.{TxnCall}
use Rattle.fdb_calls.specs.declared.TxnCall.TheVariants as call
use Rattle.fdb_calls.specs.declared.Reply.TheVariants as reply
use Rattle.txn_core.specs.declared.answer.Answer.{Answer}

-- no life was drawn, and the reply is the fault; want of memory has no answer
abbrev pub IsToldBy : TrFault → Answer → Type 0
IsToldBy (fault.Code code) answer = (answer.reply ≡ reply.Fault code) × (answer.drew_life ≡ false)
IsToldBy fault.NoMemory answer = ⊥

-- no life was drawn, and the reply is this of a value, or the fault
abbrev pub Tells : {A : Type 0} → (A → Reply) → Result A TrFault → Answer → Type 0
Tells replied (Ok value) answer = (answer.reply ≡ replied value) × (answer.drew_life ≡ false)
Tells replied (Err refusal) answer = IsToldBy refusal answer

-- no life was drawn, and the reply is the life that was promised, or the fault
abbrev pub TellsOf : Result ℕ Code → Answer → Type 0
TellsOf (Ok life) answer = (answer.reply ≡ reply.Life life) × (answer.drew_life ≡ false)
TellsOf (Err code) answer = (answer.reply ≡ reply.Fault code) × (answer.drew_life ≡ false)

-- a call that answers what is seen at the read version
abbrev pub is_read : TxnCall → Bool
is_read (call.Get key snapshot) = true
is_read (call.GetKey selector snapshot) = true
is_read (call.GetRange begin end options snapshot) = true
is_read (call.GetKeyRange range options snapshot) = true
is_read _ = false
