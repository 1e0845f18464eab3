-- How a request is spelled: by a packed tuple of its name, in the words of the bindings tester (bindingApiTester.md), and of what it
-- is about. A request more is a row more.
use Rattle.std.specs.Prelude.{ℕ, ◌^◌, ◌<◌, ⊤, List, [], ◌∷◌, ◌++◌, length, ℤ, pos, negsuc, codes}
use Rattle.fdb_tuple.specs.declared.tuple.Elem.{Elem}
use Rattle.fdb_tuple.specs.declared.tuple.Elem.TheVariants as elem
use Rattle.fdb_tuple.specs.Tuples.{IsTuple}
use Rattle.fdb_tuple.specs.Listed.{tuple_of}
use Rattle.directory_types.specs.declared.Layer.{Layer}
use Rattle.directory_types.specs.declared.DirArgs.{DirArgs}
use Rattle.directory_types.specs.declared.DirKind.{DirKind}
use Rattle.directory_types.specs.declared.DirKind.TheVariants as kind
use Rattle.fdb_calls.specs.declared.TxnCall.{TxnCall}
use Rattle.fdb_calls.specs.declared.TxnCall.TheVariants as call
use Rattle.fdb_calls.specs.declared.Request.{Request}
use Rattle.fdb_calls.specs.declared.Request.TheVariants as request
use Rattle.fdb_wire.specs.Elements.{packed, count, optional, range_elements, selector_elements, options_elements, pair_elements, path_elements}

-- a name, and what stands behind it
abbrev pub Row : Type 0
Row = List ℕ × List Elem

abbrev pub spelled_by : Row → List Elem
spelled_by row = elem.Bytes row.0 ∷ row.1

-- ---- calls

unfoldable pub call_row : TxnCall → Row
call_row (call.Get key snapshot) = (codes "GET", elem.Bytes key ∷ elem.Bool snapshot ∷ [])
call_row (call.GetKey selector snapshot) = (codes "GET_KEY", selector_elements selector ++ elem.Bool snapshot ∷ [])
call_row (call.GetRange begin end options snapshot) =
    (codes "GET_RANGE_SELECTOR", selector_elements begin ++ (selector_elements end ++ (options_elements options ++ elem.Bool snapshot ∷ [])))
call_row (call.GetKeyRange range options snapshot) =
    (codes "GET_RANGE", range_elements range ++ (options_elements options ++ elem.Bool snapshot ∷ []))
call_row (call.Set key value) = (codes "SET", elem.Bytes key ∷ elem.Bytes value ∷ [])
call_row (call.Clear key) = (codes "CLEAR", elem.Bytes key ∷ [])
call_row (call.ClearRange range) = (codes "CLEAR_RANGE", range_elements range)
call_row (call.Atomic name key operand) = (codes "ATOMIC_OP", elem.Bytes name ∷ elem.Bytes key ∷ elem.Bytes operand ∷ [])
call_row (call.ReadConflict range) = (codes "READ_CONFLICT_RANGE", range_elements range)
call_row (call.WriteConflict range) = (codes "WRITE_CONFLICT_RANGE", range_elements range)
call_row call.NoWriteConflict = (codes "DISABLE_WRITE_CONFLICT", [])
call_row call.ReadVersion = (codes "GET_READ_VERSION", [])
call_row (call.SetReadVersion version) = (codes "SET_READ_VERSION", elem.Int version ∷ [])
call_row call.CommittedVersion = (codes "GET_COMMITTED_VERSION", [])
call_row call.Versionstamp = (codes "GET_VERSIONSTAMP", [])
call_row call.Commit = (codes "COMMIT", [])
call_row (call.OnError code) = (codes "ON_ERROR", count code.0 ∷ [])
call_row call.Reset = (codes "RESET", [])
call_row call.Cancel = (codes "CANCEL", [])

-- ---- calls of a directory layer

abbrev pub directory_name : DirKind → List ℕ
directory_name kind.Create = codes "DIRECTORY_CREATE"
directory_name kind.CreateOrOpen = codes "DIRECTORY_CREATE_OR_OPEN"
directory_name kind.Open = codes "DIRECTORY_OPEN"
directory_name kind.MoveTo = codes "DIRECTORY_MOVE_TO"
directory_name kind.Remove = codes "DIRECTORY_REMOVE"
directory_name kind.RemoveIfExists = codes "DIRECTORY_REMOVE_IF_EXISTS"
directory_name kind.List = codes "DIRECTORY_LIST"
directory_name kind.Exists = codes "DIRECTORY_EXISTS"
directory_name kind.Log = codes "DIRECTORY_LOG_DIRECTORY"

-- where the nodes and the contents of a layer stand, and whether prefixes may be given
abbrev pub layer_elements : Layer → List Elem
layer_elements layer = elem.Bytes layer.node ∷ elem.Bytes layer.content ∷ elem.Bool layer.manual ∷ []

-- how many names the first path has, and the names of both paths
abbrev pub argument_elements : DirArgs → List Elem
argument_elements args =
    optional args.layer ∷ optional args.prefix ∷ elem.Bool args.snapshot ∷ elem.Bytes args.raw ∷ count args.index
    ∷ count (length args.path) ∷ path_elements args.path ++ path_elements args.new_path

-- ---- requests

unfoldable pub request_row : Request → Row
request_row (request.New name) = (codes "NEW_TRANSACTION", elem.Bytes name ∷ [])
request_row (request.On name call) = ((call_row call).0, elem.Bytes name ∷ (call_row call).1)
request_row (request.Database call) = ((call_row call).0 ++ codes "_DATABASE", (call_row call).1)
request_row (request.Directory name layer kind args) =
    (directory_name kind, optional name ∷ layer_elements layer ++ argument_elements args)
request_row (request.Log prefix entries) = (codes "LOG_STACK", elem.Bytes prefix ∷ pair_elements entries)
request_row (request.PollStamp life) = (codes "POLL_STAMP", count life ∷ [])
request_row (request.PollEmpty prefix) = (codes "WAIT_EMPTY", elem.Bytes prefix ∷ [])
request_row (request.Start prefix) = (codes "START_THREAD", elem.Bytes prefix ∷ [])

abbrev pub request_elements : Request → List Elem
request_elements request = spelled_by (request_row request)

-- a request, spelled
abbrev pub request_bytes : Request → List ℕ
request_bytes request = packed (request_elements request)

-- ---- the requests of a client

-- an integer is at least the negative of a bound, and less than the bound
abbrev pub IsBetween : (bound : ℕ) → ℤ → Type 0
IsBetween bound (pos number) = number < bound
IsBetween bound (negsuc number) = number < bound

-- numbers have the bits of their types
abbrev pub HasBits : TxnCall → Type 0
HasBits (call.GetKey selector snapshot) = IsBetween (2 ^ 31) selector.offset
HasBits (call.GetRange begin end options snapshot) =
    IsBetween (2 ^ 31) begin.offset × IsBetween (2 ^ 31) end.offset × (options.limit < 2 ^ 32)
HasBits (call.GetKeyRange range options snapshot) = options.limit < 2 ^ 32
HasBits (call.SetReadVersion version) = IsBetween (2 ^ 63) version
HasBits (call.OnError code) = code.0 < 2 ^ 16
HasBits _ = ⊤

-- a client makes transactions, makes calls on them, and asks for versionstamps. It has a directory layer of its own, starts no
-- machine, logs no stack and has no use of WAIT_EMPTY; what is done on a transaction of its own it does by a transaction.
abbrev pub IsClients : Request → Type 0
IsClients (request.New name) = ⊤
IsClients (request.On name call) = HasBits call
IsClients (request.PollStamp life) = life < 2 ^ 64
IsClients _ = ⊥

-- a request of a client, whose byte strings are bytes
abbrev pub IsClientRequest : Request → Type 0
IsClientRequest request = IsClients request × IsTuple (tuple_of (request_elements request))
