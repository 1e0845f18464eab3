-- The operations on a machine's list of directories (directoryLayerTester.md): what each pops, and what comes of it.
use Rattle.std.specs.Prelude.{ℕ, ◌==◌, ℤ, pos, negsuc, Bool, true, false, ◌||◌, if◌then◌else◌, List, [], ◌∷◌, ◌++◌, length, drop, Option, Some, None, Result, Ok, Err, slice_get, unwrap_or, option_map, codes, decimal}
use Rattle.key_bytes.specs.Keys.{begins_with}
use Rattle.fdb_tuple.specs.declared.tuple.Elem.{Elem}
use Rattle.fdb_tuple.specs.declared.tuple.Elem.TheVariants as elem
use Rattle.fdb_tuple.specs.declared.fault.UnpackFault.{UnpackFault}
use Rattle.fdb_tuple.specs.Tuples.{Elements, Empty, Int, Single}
use Rattle.fdb_tuple.specs.Listed.{elements_of}
use Rattle.fdb_tuple.specs.Spelling.{spelling}
use Rattle.fdb_tuple.specs.Reading.{read_tuple}
use Rattle.fdb_calls.specs.declared.Request.{Request}
use Rattle.fdb_calls.specs.declared.Request.TheVariants as request
use Rattle.fdb_calls.specs.declared.TxnCall.TheVariants as call
use Rattle.directory_types.specs.declared.Layer.{Layer}
use Rattle.directory_types.specs.declared.DirArgs.{DirArgs}
use Rattle.directory_types.specs.declared.DirKind.{DirKind}
use Rattle.directory_types.specs.declared.DirKind.TheVariants as kind
use Rattle.directory_types.specs.declared.fault.DirFault.{DirFault}
use Rattle.directory_types.specs.declared.fault.DirFault.TheVariants as fault
use Rattle.model_directory.specs.Nodes.{is_partition}
use Rattle.model_machine.specs.declared.Item.{Item}
use Rattle.model_machine.specs.declared.Awaits.{Awaits}
use Rattle.model_machine.specs.declared.Awaits.TheVariants as awaits
use Rattle.model_machine.specs.declared.Scope.{Scope}
use Rattle.model_machine.specs.declared.Scope.TheVariants as scope
use Rattle.model_machine.specs.declared.directories.Object.{Object}
use Rattle.model_machine.specs.declared.directories.Object.TheVariants as object
use Rattle.model_machine.specs.declared.directories.DirectoryOperation.{DirectoryOperation}
use Rattle.model_machine.specs.declared.directories.DirectoryOperation.TheVariants as operation
use Rattle.model_machine.specs.Operands.{◌>>=◌, Popped, bytes_of, operand_by, operands_by, bytes_operand, int_operand, count_operand, flag_operand, tuple_operand, two_operands}
use Rattle.model_machine.specs.Calls.{is_snapshot}

-- ---- the list of directories

pub record Directories : Type 0 where
  pub objects : List Object
  -- the index of the current object, and the one that is taken in place of that of a null object
  pub index : ℕ
  pub error_index : ℕ

-- the layer whose nodes stand behind the byte FE and whose contents stand anywhere
abbrev pub default_layer : Layer
default_layer = record { node = 254 ∷ []; content = []; manual = false }

-- a machine's list at its start
abbrev pub first_directories : Directories
first_directories = record { objects = object.Layer default_layer ∷ []; index = 0; error_index = 0 }

abbrev pub current : Directories → Object
current directories = unwrap_or (slice_get directories.objects directories.index) object.Null

abbrev pub with_object : Directories → Object → Directories
with_object directories object = record directories { objects = directories.objects ++ object ∷ [] }

-- the layer that an object asks for directories, where it can
abbrev pub layer_of : Object → Option Layer
layer_of (object.Layer layer) = Some layer
layer_of (object.Directory layer path prefix layer_name) = Some layer
layer_of (object.Subspace prefix) = None
layer_of object.Null = None

-- what the keys of an object begin with that is a subspace; a partition is none
abbrev pub prefix_of : Object → Option (List ℕ)
prefix_of (object.Layer layer) = None
prefix_of (object.Directory layer path prefix layer_name) = if is_partition layer_name then None else Some prefix
prefix_of (object.Subspace prefix) = Some prefix
prefix_of object.Null = None

-- the path and the layer name of an object that can be asked: those of a layer are empty
abbrev pub path_of : Object → List (List ℕ)
path_of (object.Layer layer) = []
path_of (object.Directory layer path prefix layer_name) = path
path_of (object.Subspace prefix) = []
path_of object.Null = []

abbrev pub layer_name_of : Object → List ℕ
layer_name_of (object.Layer layer) = []
layer_name_of (object.Directory layer path prefix layer_name) = layer_name
layer_name_of (object.Subspace prefix) = []
layer_name_of object.Null = []

abbrev pub is_null : Object → Bool
is_null object.Null = true
is_null object = false

-- the object at an index, where it is one of the list
abbrev pub object_at : List Object → ℤ → Option Object
object_at objects (pos index) = slice_get objects index
object_at objects (negsuc less) = None

-- ---- operands

-- a path: a tuple of Unicode strings
abbrev pub text_of : Elem → Option (List ℕ)
text_of (elem.Text text) = Some text
text_of _ = None

abbrev pub path_operand : List Item → Popped (List (List ℕ))
path_operand stack = do
  count ← count_operand stack
  operands_by (λ stack. operand_by text_of stack) count.0 count.1

-- a byte string, or null
abbrev pub bytes_if_any : Elem → Option (Option (List ℕ))
bytes_if_any elem.Null = Some None
bytes_if_any element = option_map Some (bytes_of element)

abbrev pub name_operand : List Item → Popped (Option (List ℕ))
name_operand stack = operand_by bytes_if_any stack

-- 1 or 0: whether a path stands behind it
abbrev pub given_in : ℤ → Option Bool
given_in (pos number) = if number == 0 then Some false else if number == 1 then Some true else None
given_in (negsuc number) = None

abbrev pub given_of : Elem → Option Bool
given_of (elem.Int number) = given_in number
given_of _ = None

abbrev pub path_where : (given : Bool) → List Item → Popped (List (List ℕ))
path_where true stack = path_operand stack
path_where false stack = Ok ([], stack)

-- a path where 1 stands before it, and else the empty one
abbrev pub path_if_given : List Item → Popped (List (List ℕ))
path_if_given stack = do
  given ← operand_by given_of stack
  path_where given.0 given.1

-- ---- what comes of an operation

pub data Directed : Type 0 where
  -- an object is appended to the list
  Appends : (object : Object) → Directed
  -- elements are pushed one after the other
  Gives : (elements : List Elem) → Directed
  -- the current object is that of this index, and this is the index in place of that of a null object
  Chooses : (index : ℕ) → Directed
  FallsTo : (index : ℕ) → Directed
  -- a fault of this name
  Faults : (name : List ℕ) → Directed
  -- a request is asked
  Asks : (request : Request) (awaits : Awaits) → Directed

-- whether an operation appends an object, which is null where it has a fault
abbrev pub appends : DirectoryOperation → Bool
appends operation.CreateSubspace = true
appends operation.CreateLayer = true
appends operation.CreateOrOpen = true
appends operation.Create = true
appends operation.Open = true
appends operation.Move = true
appends operation.MoveTo = true
appends operation.OpenSubspace = true
appends _ = false

-- ---- objects and indices

abbrev pub create_subspace : List Item → Popped Directed
create_subspace stack = do
  operands ← two_operands tuple_operand bytes_operand stack
  Ok (Appends (object.Subspace (operands.0.1 ++ spelling operands.0.0)), operands.1)

abbrev pub layer_over : (null : Bool) → (nodes contents : Option (List ℕ)) → (manual : Bool) → Directed
layer_over true nodes contents manual = Appends object.Null
layer_over false (Some node) (Some content) manual = Appends (object.Layer (record { node = node; content = content; manual = manual }))
layer_over false (Some node) None manual = Faults (codes "NotASubspace")
layer_over false None contents manual = Faults (codes "NotASubspace")

abbrev pub layered : (node content : Option Object) → (manual : Bool) → Directed
layered (Some node) (Some content) manual = layer_over (is_null node || is_null content) (prefix_of node) (prefix_of content) manual
layered (Some node) None manual = Faults (codes "NoSuchIndex")
layered None content manual = Faults (codes "NoSuchIndex")

abbrev pub create_layer : Directories → List Item → Popped Directed
create_layer directories stack = do
  indices ← two_operands int_operand int_operand stack
  manual ← flag_operand indices.1
  Ok (layered (object_at directories.objects indices.0.0) (object_at directories.objects indices.0.1) manual.0, manual.1)

abbrev pub change_to : Directories → (index : ℕ) → Option Object → Directed
change_to directories index (Some found) = Chooses (if is_null found then directories.error_index else index)
change_to directories index None = Faults (codes "NoSuchIndex")

abbrev pub fall_to : (index : ℕ) → Option Object → Directed
fall_to index (Some found) = FallsTo index
fall_to index None = Faults (codes "NoSuchIndex")

-- the index in an integer from 0 upward; any other is none of the list
abbrev pub index_in : ℤ → (ℕ → Directed) → Directed
index_in (pos index) at = at index
index_in (negsuc less) at = Faults (codes "NoSuchIndex")

abbrev pub change : Directories → List Item → Popped Directed
change directories stack = do
  index ← int_operand stack
  Ok (index_in index.0 (λ index. change_to directories index (slice_get directories.objects index)), index.1)

abbrev pub set_error_index : Directories → List Item → Popped Directed
set_error_index directories stack = do
  index ← int_operand stack
  Ok (index_in index.0 (λ index. fall_to index (slice_get directories.objects index)), index.1)

-- ---- calls of a layer

-- the name under which a call is made in this scope, where this is the current one
abbrev pub name_in : Scope → List ℕ → Option (List ℕ)
name_in scope.Transaction name = Some name
name_in scope.Snapshot name = Some name
name_in scope.Database name = None

-- what a call on this path is about
abbrev pub args_on : (path : List (List ℕ)) → DirArgs
args_on path = record { path = path; new_path = []; layer = None; prefix = None; snapshot = false; raw = []; index = 0 }

abbrev pub asked_of : Option Layer → (Layer → Directed) → Directed
asked_of (Some layer) asks = asks layer
asked_of None asks = Faults (codes "NotADirectory")

-- a call of the layer of an object
abbrev pub layer_called : (name : Option (List ℕ)) → DirKind → (Layer → Awaits) → Object → DirArgs → Directed
layer_called name kind awaits_of object args =
    asked_of (layer_of object) (λ layer. Asks (request.Directory name layer kind args) (awaits_of layer))

abbrev pub below : Object → (path : List (List ℕ)) → List (List ℕ)
below object path = path_of object ++ path

abbrev pub create_or_open : Scope → (name : List ℕ) → Object → List Item → Popped Directed
create_or_open scope name object stack = do
  operands ← two_operands path_operand name_operand stack
  Ok (
    layer_called (name_in scope name) kind.CreateOrOpen awaits.Opened object
        (record (args_on (below object operands.0.0)) { layer = operands.0.1 }),
    operands.1,
  )

abbrev pub create_directory : Scope → (name : List ℕ) → Object → List Item → Popped Directed
create_directory scope name object stack = do
  operands ← two_operands path_operand name_operand stack
  prefix ← name_operand operands.1
  Ok (
    layer_called (name_in scope name) kind.Create awaits.Opened object
        (record (args_on (below object operands.0.0)) { layer = operands.0.1; prefix = prefix.0 }),
    prefix.1,
  )

abbrev pub open_directory : Scope → (name : List ℕ) → Object → List Item → Popped Directed
open_directory scope name object stack = do
  operands ← two_operands path_operand name_operand stack
  Ok (
    layer_called (name_in scope name) kind.Open awaits.Opened object
        (record (args_on (below object operands.0.0)) { layer = operands.0.1; snapshot = is_snapshot scope }),
    operands.1,
  )

abbrev pub move_directory : Scope → (name : List ℕ) → Object → List Item → Popped Directed
move_directory scope name object stack = do
  paths ← two_operands path_operand path_operand stack
  Ok (
    layer_called (name_in scope name) kind.MoveTo awaits.Opened object
        (record (args_on (below object paths.0.0)) { new_path = below object paths.0.1 }),
    paths.1,
  )

-- the current directory, which must be one and no layer, is moved to a path from the root on
abbrev pub moved_to : Scope → (name : List ℕ) → Object → (path : List (List ℕ)) → Directed
moved_to scope name (object.Layer layer) path = Faults (codes "RootCannotMove")
moved_to scope name object path = layer_called (name_in scope name) kind.MoveTo awaits.Opened object (record (args_on (path_of object)) { new_path = path })

abbrev pub move_to : Scope → (name : List ℕ) → Object → List Item → Popped Directed
move_to scope name object stack = do
  path ← path_operand stack
  Ok (moved_to scope name object path.0, path.1)

-- a call on the current object, or on the path below it that is given
abbrev pub on_path : Scope → (name : List ℕ) → DirKind → Awaits → Object → List Item → Popped Directed
on_path scope name kind awaits object stack = do
  path ← path_if_given stack
  Ok (layer_called (name_in scope name) kind (λ layer. awaits) object (record (args_on (below object path.0)) { snapshot = is_snapshot scope }), path.1)

abbrev pub log_directory : (name : List ℕ) → Directories → List Item → Popped Directed
log_directory name directories stack = do
  raw ← bytes_operand stack
  Ok (
    layer_called (Some name) kind.Log (λ layer. awaits.DirectoryDone) (current directories)
        (record (args_on (path_of (current directories))) { layer = Some (layer_name_of (current directories)); raw = raw.0; index = directories.index }),
    raw.1,
  )

-- ---- subspaces

abbrev pub in_subspace : Option (List ℕ) → (List ℕ → Directed) → Directed
in_subspace (Some prefix) directed = directed prefix
in_subspace None directed = Faults (codes "NotASubspace")

abbrev pub inside : (is : Bool) → Directed → Directed
inside true directed = directed
inside false directed = Faults (codes "NotInside")

abbrev pub with_tuple : Object → (List ℕ → Directed) → List Item → Popped Directed
with_tuple object directed stack = do
  tuple ← tuple_operand stack
  Ok (in_subspace (prefix_of object) (λ prefix. directed (prefix ++ spelling tuple.0)), tuple.1)

-- an operation on a key, and the current prefix
abbrev pub with_key : Object → ((prefix key : List ℕ) → Directed) → List Item → Popped Directed
with_key object directed stack = do
  key ← bytes_operand stack
  Ok (in_subspace (prefix_of object) (λ prefix. directed prefix key.0), key.1)

abbrev pub pack_key : Object → List Item → Popped Directed
pack_key object stack = with_tuple object (λ key. Gives (elem.Bytes key ∷ [])) stack

abbrev pub range : Object → List Item → Popped Directed
range object stack = with_tuple object (λ key. Gives (elem.Bytes (key ++ 0 ∷ []) ∷ elem.Bytes (key ++ 255 ∷ []) ∷ [])) stack

abbrev pub open_subspace : Object → List Item → Popped Directed
open_subspace found stack = with_tuple found (λ key. Appends (object.Subspace key)) stack

abbrev pub unpacked : Result Elements UnpackFault → Directed
unpacked (Ok tuple) = Gives (elements_of tuple)
unpacked (Err fault) = Faults (codes "BadTuple")

-- the bytes of a key behind a prefix
abbrev pub behind : (prefix key : List ℕ) → List ℕ
behind prefix key = drop (length prefix) key

abbrev pub unpack_key : Object → List Item → Popped Directed
unpack_key object stack = with_key object (λ prefix key. inside (begins_with key prefix) (unpacked (read_tuple (behind prefix key)))) stack

abbrev pub strip_prefix : Object → List Item → Popped Directed
strip_prefix object stack = with_key object (λ prefix key. inside (begins_with key prefix) (Gives (elem.Bytes (behind prefix key) ∷ []))) stack

abbrev pub one_or_zero : Bool → Elem
one_or_zero true = elem.Int (pos 1)
one_or_zero false = elem.Int (pos 0)

abbrev pub contains : Object → List Item → Popped Directed
contains object stack = with_key object (λ prefix key. Gives (one_or_zero (begins_with key prefix) ∷ [])) stack

abbrev pub log_subspace : (name : List ℕ) → Directories → List Item → Popped Directed
log_subspace name directories stack =
    with_key (current directories)
    (λ prefix key. Asks (request.On name (call.Set (key ++ spelling (Single (Int (pos directories.index)) Empty)) prefix)) awaits.SubspaceLogged) stack

-- ---- each operation

-- what comes of an operation in its scope, where this is the current name
unfoldable pub directed : DirectoryOperation → Scope → (name : List ℕ) → Directories → List Item → Popped Directed
directed operation.CreateSubspace scope name directories stack = create_subspace stack
directed operation.CreateLayer scope name directories stack = create_layer directories stack
directed operation.CreateOrOpen scope name directories stack = create_or_open scope name (current directories) stack
directed operation.Create scope name directories stack = create_directory scope name (current directories) stack
directed operation.Open scope name directories stack = open_directory scope name (current directories) stack
directed operation.Change scope name directories stack = change directories stack
directed operation.SetErrorIndex scope name directories stack = set_error_index directories stack
directed operation.Move scope name directories stack = move_directory scope name (current directories) stack
directed operation.MoveTo scope name directories stack = move_to scope name (current directories) stack
directed operation.Remove scope name directories stack = on_path scope name kind.Remove awaits.DirectoryDone (current directories) stack
directed operation.RemoveIfExists scope name directories stack =
    on_path scope name kind.RemoveIfExists awaits.DirectoryDone (current directories) stack
directed operation.List scope name directories stack = on_path scope name kind.List awaits.Names (current directories) stack
directed operation.Exists scope name directories stack = on_path scope name kind.Exists awaits.Existence (current directories) stack
directed operation.PackKey scope name directories stack = pack_key (current directories) stack
directed operation.UnpackKey scope name directories stack = unpack_key (current directories) stack
directed operation.Range scope name directories stack = range (current directories) stack
directed operation.Contains scope name directories stack = contains (current directories) stack
directed operation.OpenSubspace scope name directories stack = open_subspace (current directories) stack
directed operation.LogSubspace scope name directories stack = log_subspace name directories stack
directed operation.LogDirectory scope name directories stack = log_directory name directories stack
directed operation.StripPrefix scope name directories stack = strip_prefix (current directories) stack

-- ---- the faults of a layer

-- the name of a fault, without what it carries; of a code its digits
abbrev pub fault_name : DirFault → List ℕ
fault_name fault.EmptyPath = codes "EmptyPath"
fault_name fault.Exists = codes "Exists"
fault_name fault.Missing = codes "Missing"
fault_name fault.LayerDiffers = codes "LayerDiffers"
fault_name fault.ParentMissing = codes "ParentMissing"
fault_name fault.IntoItself = codes "IntoItself"
fault_name fault.ManualNotAllowed = codes "ManualNotAllowed"
fault_name fault.PrefixInUse = codes "PrefixInUse"
fault_name fault.KeysAtPrefix = codes "KeysAtPrefix"
fault_name (fault.VersionNewer version) = codes "VersionNewer"
fault_name fault.NoSuccessor = codes "NoSuccessor"
fault_name (fault.BadNode key) = codes "BadNode"
fault_name (fault.BadCounter key) = codes "BadCounter"
fault_name (fault.WindowFull start) = codes "WindowFull"
fault_name fault.AcrossPartitions = codes "AcrossPartitions"
fault_name (fault.Tr code) = decimal code.0
fault_name fault.NoMemory = codes "NoMemory"
