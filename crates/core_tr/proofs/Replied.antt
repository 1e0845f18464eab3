-- A reply that is neither a code nor want of memory is of the kind that its call has.
use Rattle.std.proofs.Common.{◌≡◌, true, false, None, Result, Ok, Err, refl, subst}
use Rattle.model_allocator.specs.Acts.{refusal}
use Rattle.model_database.specs.declared.Code.{Code}
use Rattle.fdb_calls.specs.declared.fault.TrFault.{TrFault}
use Rattle.fdb_calls.specs.declared.fault.TrFault.TheVariants as fault
use Rattle.fdb_calls.specs.declared.Reply.{Reply}
use Rattle.fdb_calls.specs.declared.Reply.TheVariants as reply
use Rattle.fdb_calls.specs.declared.TxnCall.{TxnCall}
use Rattle.fdb_calls.specs.declared.TxnCall.TheVariants as call
use Rattle.client_core.specs.Kinds.{tells_value, tells_pairs, fits_call}
use Rattle.client_core.specs.Stands.{is_no_memory}
use Rattle.core_tr.specs.Standing.{Splits, is_value, are_pairs, is_of_kind}

value_told : (given : Reply) → tells_value given ≡ true → refusal given ≡ None → is_no_memory given ≡ false → is_value given ≡ true
value_told reply.Done tells through speaks = absurd cc
value_told (reply.Value value) tells through speaks = refl
value_told (reply.KeyIs key) tells through speaks = absurd cc
value_told (reply.PairsAre pairs) tells through speaks = absurd cc
value_told (reply.Version version) tells through speaks = absurd cc
value_told (reply.Life life) tells through speaks = absurd cc
value_told (reply.Stamp stamp) tells through speaks = absurd cc
value_told reply.NotYet tells through speaks = absurd cc
value_told reply.Empty tells through speaks = absurd cc
value_told (reply.Started machine instructions) tells through speaks = absurd cc
value_told reply.NoMachine tells through speaks = absurd cc
value_told (reply.Dir answer) tells through speaks = absurd cc
value_told (reply.DirFault fault) tells through speaks = absurd cc
value_told (reply.Fault code) tells through speaks = absurd cc
value_told reply.NoMemory tells through speaks = absurd cc

pairs_told : (given : Reply) → tells_pairs given ≡ true → refusal given ≡ None → is_no_memory given ≡ false → are_pairs given ≡ true
pairs_told reply.Done tells through speaks = absurd cc
pairs_told (reply.Value value) tells through speaks = absurd cc
pairs_told (reply.KeyIs key) tells through speaks = absurd cc
pairs_told (reply.PairsAre pairs) tells through speaks = refl
pairs_told (reply.Version version) tells through speaks = absurd cc
pairs_told (reply.Life life) tells through speaks = absurd cc
pairs_told (reply.Stamp stamp) tells through speaks = absurd cc
pairs_told reply.NotYet tells through speaks = absurd cc
pairs_told reply.Empty tells through speaks = absurd cc
pairs_told (reply.Started machine instructions) tells through speaks = absurd cc
pairs_told reply.NoMachine tells through speaks = absurd cc
pairs_told (reply.Dir answer) tells through speaks = absurd cc
pairs_told (reply.DirFault fault) tells through speaks = absurd cc
pairs_told (reply.Fault code) tells through speaks = absurd cc
pairs_told reply.NoMemory tells through speaks = absurd cc

let_through : (its_call : TxnCall) (given : Reply) → fits_call its_call given ≡ true → refusal given ≡ None → is_no_memory given ≡ false
    → is_of_kind its_call (Ok given) ≡ true
let_through (call.Get key snapshot) given fits through speaks = value_told given fits through speaks
let_through (call.GetKey selector snapshot) given fits through speaks = refl
let_through (call.GetRange begin end options snapshot) given fits through speaks = refl
let_through (call.GetKeyRange range options snapshot) given fits through speaks = pairs_told given fits through speaks
let_through (call.Set key value) given fits through speaks = refl
let_through (call.Clear key) given fits through speaks = refl
let_through (call.ClearRange range) given fits through speaks = refl
let_through (call.Atomic name key operand) given fits through speaks = refl
let_through (call.ReadConflict range) given fits through speaks = refl
let_through (call.WriteConflict range) given fits through speaks = refl
let_through call.NoWriteConflict given fits through speaks = refl
let_through call.ReadVersion given fits through speaks = refl
let_through (call.SetReadVersion version) given fits through speaks = refl
let_through call.CommittedVersion given fits through speaks = refl
let_through call.Versionstamp given fits through speaks = refl
let_through call.Commit given fits through speaks = refl
let_through (call.OnError code) given fits through speaks = refl
let_through call.Reset given fits through speaks = refl
let_through call.Cancel given fits through speaks = refl

refused : (its_call : TxnCall) (code : Code) → fits_call its_call (reply.Fault code) ≡ true → is_of_kind its_call (Err (fault.Code code)) ≡ true
refused (call.Get key snapshot) code fits = refl
refused (call.GetKey selector snapshot) code fits = refl
refused (call.GetRange begin end options snapshot) code fits = refl
refused (call.GetKeyRange range options snapshot) code fits = refl
refused (call.Set key value) code fits = refl
refused (call.Clear key) code fits = refl
refused (call.ClearRange range) code fits = refl
refused (call.Atomic name key operand) code fits = refl
refused (call.ReadConflict range) code fits = refl
refused (call.WriteConflict range) code fits = refl
refused call.NoWriteConflict code fits = refl
refused call.ReadVersion code fits = refl
refused (call.SetReadVersion version) code fits = refl
refused call.CommittedVersion code fits = absurd cc
refused call.Versionstamp code fits = refl
refused call.Commit code fits = refl
refused (call.OnError its) code fits = refl
refused call.Reset code fits = refl
refused call.Cancel code fits = refl

pub never_made : (its_call : TxnCall) → is_of_kind its_call (Err fault.NoMemory) ≡ true
never_made (call.Get key snapshot) = refl
never_made (call.GetKey selector snapshot) = refl
never_made (call.GetRange begin end options snapshot) = refl
never_made (call.GetKeyRange range options snapshot) = refl
never_made (call.Set key value) = refl
never_made (call.Clear key) = refl
never_made (call.ClearRange range) = refl
never_made (call.Atomic name key operand) = refl
never_made (call.ReadConflict range) = refl
never_made (call.WriteConflict range) = refl
never_made call.NoWriteConflict = refl
never_made call.ReadVersion = refl
never_made (call.SetReadVersion version) = refl
never_made call.CommittedVersion = refl
never_made call.Versionstamp = refl
never_made call.Commit = refl
never_made (call.OnError code) = refl
never_made call.Reset = refl
never_made call.Cancel = refl

pub split_told : (result : Result Reply TrFault) (its_call : TxnCall) (given : Reply) → Splits result given → fits_call its_call given ≡ true
    → is_of_kind its_call result ≡ true
split_told (Ok its) its_call given (is, through, speaks) fits =
    let_through its_call its (subst (λ (r : Reply). fits_call its_call r ≡ true) is fits) through speaks
split_told (Err (fault.Code code)) its_call given is fits =
    refused its_call code (subst (λ (r : Reply). fits_call its_call r ≡ true) is fits)
split_told (Err fault.NoMemory) its_call given is fits = never_made its_call
