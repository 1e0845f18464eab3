-- What a request may be replied with.
use Rattle.std.specs.Prelude.{Bool, true, false}
use Rattle.fdb_calls.specs.declared.Reply.{Reply}
use Rattle.fdb_calls.specs.declared.Reply.TheVariants as reply
use Rattle.fdb_calls.specs.declared.Request.{Request}
use Rattle.fdb_calls.specs.declared.Request.TheVariants as request
use Rattle.fdb_calls.specs.declared.TxnCall.{TxnCall}
use Rattle.fdb_calls.specs.declared.TxnCall.TheVariants as call

-- a value, a code, or want of memory
abbrev pub tells_value : Reply → Bool
tells_value (reply.Value value) = true
tells_value (reply.Fault code) = true
tells_value reply.NoMemory = true
tells_value _ = false

-- pairs, a code, or want of memory
abbrev pub tells_pairs : Reply → Bool
tells_pairs (reply.PairsAre pairs) = true
tells_pairs (reply.Fault code) = true
tells_pairs reply.NoMemory = true
tells_pairs _ = false

-- a version, or want of memory
abbrev pub tells_version : Reply → Bool
tells_version (reply.Version version) = true
tells_version reply.NoMemory = true
tells_version _ = false

-- a read of a key tells a value, and one of a range tells pairs; the committed version is told always
abbrev pub fits_call : TxnCall → Reply → Bool
fits_call (call.Get key snapshot) given = tells_value given
fits_call (call.GetRange begin end options snapshot) given = tells_pairs given
fits_call (call.GetKeyRange range options snapshot) given = tells_pairs given
fits_call call.CommittedVersion given = tells_version given
fits_call _ given = true

-- and so does such a call on the transaction of a name
abbrev pub fits : Request → Reply → Bool
fits (request.On name its_call) given = fits_call its_call given
fits _ given = true
