-- How a reply is spelled: by a packed tuple of its name, and of what it tells.
use Rattle.std.specs.Prelude.{ℕ, List, [], ◌∷◌, ◌++◌, map, Option, Some, None, codes}
use Rattle.fdb_tuple.specs.declared.tuple.Elem.{Elem}
use Rattle.fdb_tuple.specs.declared.tuple.Elem.TheVariants as elem
use Rattle.fdb_tuple.specs.Tuples.{IsTuple}
use Rattle.fdb_tuple.specs.Listed.{tuple_of}
use Rattle.directory_types.specs.declared.DirReply.{DirReply}
use Rattle.directory_types.specs.declared.DirReply.TheVariants as dir
use Rattle.directory_types.specs.declared.fault.DirFault.{DirFault}
use Rattle.directory_types.specs.declared.fault.DirFault.TheVariants as fault
use Rattle.fdb_calls.specs.declared.Reply.{Reply}
use Rattle.fdb_calls.specs.declared.Reply.TheVariants as reply
use Rattle.fdb_wire.specs.Elements.{packed, count, pair_elements, path_elements}
use Rattle.fdb_wire.specs.Requests.{Row, spelled_by}

-- what a directory layer answered
unfoldable pub directory_row : DirReply → Row
directory_row (dir.Opened prefix path layer) = (codes "DIRECTORY", elem.Bytes prefix ∷ elem.Bytes layer ∷ path_elements path)
directory_row (dir.Names names) = (codes "DIRECTORY_NAMES", path_elements names)
directory_row (dir.Is exists) = (codes "DIRECTORY_IS", elem.Bool exists ∷ [])
directory_row dir.Done = (codes "DIRECTORY_DONE", [])

-- why it refused a call: the name of the fault, and what it carries
unfoldable pub fault_row : DirFault → Row
fault_row fault.EmptyPath = (codes "EMPTY_PATH", [])
fault_row fault.Exists = (codes "EXISTS", [])
fault_row fault.Missing = (codes "MISSING", [])
fault_row fault.LayerDiffers = (codes "LAYER_DIFFERS", [])
fault_row fault.ParentMissing = (codes "PARENT_MISSING", [])
fault_row fault.IntoItself = (codes "INTO_ITSELF", [])
fault_row fault.ManualNotAllowed = (codes "MANUAL_NOT_ALLOWED", [])
fault_row fault.PrefixInUse = (codes "PREFIX_IN_USE", [])
fault_row fault.KeysAtPrefix = (codes "KEYS_AT_PREFIX", [])
fault_row (fault.VersionNewer version) = (codes "VERSION_NEWER", map count version)
fault_row fault.NoSuccessor = (codes "NO_SUCCESSOR", [])
fault_row (fault.BadNode key) = (codes "BAD_NODE", elem.Bytes key ∷ [])
fault_row (fault.BadCounter key) = (codes "BAD_COUNTER", elem.Bytes key ∷ [])
fault_row (fault.WindowFull start) = (codes "WINDOW_FULL", count start ∷ [])
fault_row fault.AcrossPartitions = (codes "ACROSS_PARTITIONS", [])
fault_row (fault.Tr code) = (codes "CODE", count code.0 ∷ [])
fault_row fault.NoMemory = (codes "NO_MEMORY", [])

unfoldable pub reply_row : Reply → Row
reply_row reply.Done = (codes "DONE", [])
reply_row (reply.Value None) = (codes "NOT_PRESENT", [])
reply_row (reply.Value (Some value)) = (codes "VALUE", elem.Bytes value ∷ [])
reply_row (reply.KeyIs key) = (codes "KEY", elem.Bytes key ∷ [])
reply_row (reply.PairsAre pairs) = (codes "PAIRS", pair_elements pairs)
reply_row (reply.Version version) = (codes "VERSION", elem.Int version ∷ [])
reply_row (reply.Life life) = (codes "LIFE", count life ∷ [])
reply_row (reply.Stamp stamp) = (codes "STAMP", elem.Bytes stamp ∷ [])
reply_row reply.NotYet = (codes "NOT_YET", [])
reply_row reply.Empty = (codes "EMPTY", [])
reply_row (reply.Started machine instructions) = (codes "STARTED", count machine ∷ pair_elements instructions)
reply_row reply.NoMachine = (codes "NO_MACHINE", [])
reply_row (reply.Dir answer) = directory_row answer
reply_row (reply.DirFault fault) = (codes "DIRECTORY_FAULT", spelled_by (fault_row fault))
reply_row (reply.Fault code) = (codes "FAULT", count code.0 ∷ [])
reply_row reply.NoMemory = (codes "NO_MEMORY", [])

abbrev pub reply_elements : Reply → List Elem
reply_elements reply = spelled_by (reply_row reply)

-- a reply, spelled
abbrev pub reply_bytes : Reply → List ℕ
reply_bytes reply = packed (reply_elements reply)

-- its byte strings are bytes, its names are UTF-8, and its numbers have no more than 128 bits, as those of each reply that a program has
abbrev pub IsReply : Reply → Type 0
IsReply reply = IsTuple (tuple_of (reply_elements reply))
