-- How a value of the database is an instruction (bindingApiTester.md, "Overview").
use Rattle.std.specs.Prelude.{ℕ, ◌++◌, if◌then◌else◌, List, [], ◌∷◌, Option, Some, None, Result, Ok, Err, option_and_then, option_map, codes, bytes_eq}
use Rattle.fdb_tuple.specs.declared.tuple.Elem.{Elem}
use Rattle.fdb_tuple.specs.declared.fault.UnpackFault.{UnpackFault}
use Rattle.fdb_tuple.specs.Tuples.{Elements}
use Rattle.fdb_tuple.specs.Listed.{elements_of}
use Rattle.fdb_tuple.specs.Reading.{read_tuple}
use Rattle.model_database.specs.declared.Api.{Api}
use Rattle.model_database.specs.declared.Api.TheVariants as api
use Rattle.model_machine.specs.declared.StackOperation.{StackOperation}
use Rattle.model_machine.specs.declared.StackOperation.TheVariants as operation
use Rattle.model_machine.specs.declared.TransactionOperation.{TransactionOperation}
use Rattle.model_machine.specs.declared.TransactionOperation.TheVariants as on_transaction
use Rattle.model_machine.specs.declared.DatabaseOperation.{DatabaseOperation}
use Rattle.model_machine.specs.declared.DatabaseOperation.TheVariants as on_database
use Rattle.model_machine.specs.declared.directories.DirectoryOperation.{DirectoryOperation}
use Rattle.model_machine.specs.declared.directories.DirectoryOperation.TheVariants as on_directories
use Rattle.model_machine.specs.declared.Scope.{Scope}
use Rattle.model_machine.specs.declared.Scope.TheVariants as scope
use Rattle.model_machine.specs.declared.Instruction.{Instruction}
use Rattle.model_machine.specs.declared.Instruction.TheVariants as instruction
use Rattle.model_machine.specs.Operands.{bytes_of}

-- the operation on the stack of a name
abbrev pub stack_operation : List ℕ → Option StackOperation
stack_operation name =
    if bytes_eq name (codes "DUP") then Some operation.Dup
    else if bytes_eq name (codes "EMPTY_STACK") then Some operation.EmptyStack
    else if bytes_eq name (codes "SWAP") then Some operation.Swap
    else if bytes_eq name (codes "POP") then Some operation.Pop
    else if bytes_eq name (codes "SUB") then Some operation.Sub
    else if bytes_eq name (codes "CONCAT") then Some operation.Concat
    else if bytes_eq name (codes "WAIT_FUTURE") then Some operation.WaitFuture
    else if bytes_eq name (codes "TUPLE_PACK") then Some operation.TuplePack
    else if bytes_eq name (codes "TUPLE_PACK_WITH_VERSIONSTAMP") then Some operation.TuplePackWithVersionstamp
    else if bytes_eq name (codes "TUPLE_UNPACK") then Some operation.TupleUnpack
    else if bytes_eq name (codes "TUPLE_RANGE") then Some operation.TupleRange
    else if bytes_eq name (codes "TUPLE_SORT") then Some operation.TupleSort
    else if bytes_eq name (codes "GET_APPROXIMATE_SIZE") then Some operation.GetApproximateSize
    else if bytes_eq name (codes "GET_ESTIMATED_RANGE_SIZE") then Some operation.GetEstimatedRangeSize
    else if bytes_eq name (codes "UNIT_TESTS") then Some operation.UnitTests
    else None

-- the operation on the current transaction of a name
abbrev pub transaction_operation : List ℕ → Option TransactionOperation
transaction_operation name =
    if bytes_eq name (codes "NEW_TRANSACTION") then Some on_transaction.NewTransaction
    else if bytes_eq name (codes "ON_ERROR") then Some on_transaction.OnError
    else if bytes_eq name (codes "RESET") then Some on_transaction.Reset
    else if bytes_eq name (codes "CANCEL") then Some on_transaction.Cancel
    else if bytes_eq name (codes "COMMIT") then Some on_transaction.Commit
    else if bytes_eq name (codes "GET_READ_VERSION") then Some on_transaction.GetReadVersion
    else if bytes_eq name (codes "GET_READ_VERSION_SNAPSHOT") then Some on_transaction.GetReadVersion
    else if bytes_eq name (codes "SET_READ_VERSION") then Some on_transaction.SetReadVersion
    else if bytes_eq name (codes "GET_COMMITTED_VERSION") then Some on_transaction.GetCommittedVersion
    else if bytes_eq name (codes "READ_CONFLICT_RANGE") then Some on_transaction.ReadConflictRange
    else if bytes_eq name (codes "WRITE_CONFLICT_RANGE") then Some on_transaction.WriteConflictRange
    else if bytes_eq name (codes "READ_CONFLICT_KEY") then Some on_transaction.ReadConflictKey
    else if bytes_eq name (codes "WRITE_CONFLICT_KEY") then Some on_transaction.WriteConflictKey
    else if bytes_eq name (codes "DISABLE_WRITE_CONFLICT") then Some on_transaction.DisableWriteConflict
    else if bytes_eq name (codes "GET_VERSIONSTAMP") then Some on_transaction.GetVersionstamp
    else None

-- in which scopes an operation stands: that of the transaction alone, also that of the database, or also that of a read by snapshot
pub data Scopes : Type 0 where
  Alone : Scopes
  Writes : Scopes
  Reads : Scopes

-- names of operations, each with its scopes
abbrev pub Names : Type 0 → Type 0
Names A = List (List ℕ × Scopes × A)

-- the scope of a name, where it is that of an operation that reads, alone or with an ending
abbrev pub read_scope : (name operation : List ℕ) → Option Scope
read_scope name operation =
    if bytes_eq name operation then Some scope.Transaction
    else if bytes_eq name (operation ++ codes "_SNAPSHOT") then Some scope.Snapshot
    else if bytes_eq name (operation ++ codes "_DATABASE") then Some scope.Database
    else None

-- the same of one that writes, which isn't done by snapshot
abbrev pub write_scope : (name operation : List ℕ) → Option Scope
write_scope name operation =
    if bytes_eq name operation then Some scope.Transaction
    else if bytes_eq name (operation ++ codes "_DATABASE") then Some scope.Database
    else None

abbrev pub scope_in : Scopes → (name operation : List ℕ) → Option Scope
scope_in Alone name operation = if bytes_eq name operation then Some scope.Transaction else None
scope_in Writes name operation = write_scope name operation
scope_in Reads name operation = read_scope name operation

-- the operation that has this scope, if it has one, or else the one that others have
abbrev pub or_others : {A : Type 0} → A → Option Scope → Option (A × Scope) → Option (A × Scope)
or_others operation (Some scope) others = Some (operation, scope)
or_others operation None others = others

-- the operation of a name, with its scope
abbrev pub operation_in : {A : Type 0} → Names A → (name : List ℕ) → Option (A × Scope)
operation_in [] name = None
operation_in (row ∷ rows) name = or_others row.2 (scope_in row.1 name row.0) (operation_in rows name)

-- the calls on a transaction or the database
abbrev pub database_names : Names DatabaseOperation
database_names =
    (codes "GET", Reads, on_database.Get)
    ∷ (codes "GET_KEY", Reads, on_database.GetKey)
    ∷ (codes "GET_RANGE", Reads, on_database.GetRange)
    ∷ (codes "GET_RANGE_STARTS_WITH", Reads, on_database.GetRangeStartsWith)
    ∷ (codes "GET_RANGE_SELECTOR", Reads, on_database.GetRangeSelector)
    ∷ (codes "SET", Writes, on_database.Set)
    ∷ (codes "CLEAR", Writes, on_database.Clear)
    ∷ (codes "CLEAR_RANGE", Writes, on_database.ClearRange)
    ∷ (codes "CLEAR_RANGE_STARTS_WITH", Writes, on_database.ClearRangeStartsWith)
    ∷ (codes "ATOMIC_OP", Writes, on_database.AtomicOp)
    ∷ []

-- the operations on directories: those that make or open one, or choose one
abbrev pub creation_names : Names DirectoryOperation
creation_names =
    (codes "DIRECTORY_CREATE_SUBSPACE", Alone, on_directories.CreateSubspace)
    ∷ (codes "DIRECTORY_CREATE_LAYER", Alone, on_directories.CreateLayer)
    ∷ (codes "DIRECTORY_CREATE_OR_OPEN", Writes, on_directories.CreateOrOpen)
    ∷ (codes "DIRECTORY_CREATE", Writes, on_directories.Create)
    ∷ (codes "DIRECTORY_OPEN", Reads, on_directories.Open)
    ∷ (codes "DIRECTORY_CHANGE", Alone, on_directories.Change)
    ∷ (codes "DIRECTORY_SET_ERROR_INDEX", Alone, on_directories.SetErrorIndex)
    ∷ []

-- those that move or remove
abbrev pub removal_names : Names DirectoryOperation
removal_names =
    (codes "DIRECTORY_MOVE", Writes, on_directories.Move)
    ∷ (codes "DIRECTORY_MOVE_TO", Writes, on_directories.MoveTo)
    ∷ (codes "DIRECTORY_REMOVE", Writes, on_directories.Remove)
    ∷ (codes "DIRECTORY_REMOVE_IF_EXISTS", Writes, on_directories.RemoveIfExists)
    ∷ []

-- those that list or find
abbrev pub listing_names : Names DirectoryOperation
listing_names =
    (codes "DIRECTORY_LIST", Reads, on_directories.List)
    ∷ (codes "DIRECTORY_EXISTS", Reads, on_directories.Exists)
    ∷ []

-- those on subspaces, and logs
abbrev pub subspace_names : Names DirectoryOperation
subspace_names =
    (codes "DIRECTORY_PACK_KEY", Alone, on_directories.PackKey)
    ∷ (codes "DIRECTORY_UNPACK_KEY", Alone, on_directories.UnpackKey)
    ∷ (codes "DIRECTORY_RANGE", Alone, on_directories.Range)
    ∷ (codes "DIRECTORY_CONTAINS", Alone, on_directories.Contains)
    ∷ (codes "DIRECTORY_OPEN_SUBSPACE", Alone, on_directories.OpenSubspace)
    ∷ (codes "DIRECTORY_LOG_SUBSPACE", Alone, on_directories.LogSubspace)
    ∷ (codes "DIRECTORY_LOG_DIRECTORY", Alone, on_directories.LogDirectory)
    ∷ (codes "DIRECTORY_STRIP_PREFIX", Alone, on_directories.StripPrefix)
    ∷ []

-- the first that is there
abbrev pub or_else : {A : Type 0} → Option A → Option A → Option A
or_else (Some x) other = Some x
or_else None other = other

abbrev pub directory_operation : List ℕ → Option (DirectoryOperation × Scope)
directory_operation name =
    or_else (operation_in creation_names name)
    (or_else (operation_in removal_names name) (or_else (operation_in listing_names name) (operation_in subspace_names name)))

-- the instruction of a name that stands alone
abbrev pub bare_instruction : List ℕ → Option Instruction
bare_instruction name =
    if bytes_eq name (codes "USE_TRANSACTION") then Some instruction.UseTransaction
    else if bytes_eq name (codes "LOG_STACK") then Some instruction.LogStack
    else if bytes_eq name (codes "START_THREAD") then Some instruction.StartThread
    else if bytes_eq name (codes "WAIT_EMPTY") then Some instruction.WaitEmpty
    else or_else (option_map (λ found. instruction.OnTransaction found) (transaction_operation name))
    (or_else (option_map (λ found. instruction.OnDatabase found.0 found.1) (operation_in database_names name))
    (or_else (option_map (λ found. instruction.OnDirectories found.0 found.1) (directory_operation name))
    (option_map (λ found. instruction.OnStack found) (stack_operation name))))

-- the instruction of a name with the elements behind the name: PUSH has one, every other operation none
abbrev pub named_instruction : List ℕ → List Elem → Option Instruction
named_instruction name [] = bare_instruction name
named_instruction name (element ∷ []) = if bytes_eq name (codes "PUSH") then Some (instruction.Push element) else None
named_instruction name (element ∷ other ∷ more) = None

-- a tuple as an instruction: its first element is the name, a Unicode or a byte string
abbrev pub instruction_in : List Elem → Option Instruction
instruction_in [] = None
instruction_in (name ∷ elements) = option_and_then (λ bytes. named_instruction bytes elements) (bytes_of name)

abbrev pub instruction_read : Result Elements UnpackFault → Option Instruction
instruction_read (Ok tuple) = instruction_in (elements_of tuple)
instruction_read (Err fault) = None

-- the instruction that a value packs, if it is one under the last API version
unfoldable pub instruction_of : List ℕ → Option Instruction
instruction_of value = instruction_read (read_tuple value)

-- ---- API versions

-- an instruction where it is one under an API version: API version 500 has no TUPLE_PACK_WITH_VERSIONSTAMP
abbrev pub if_known : Api → Instruction → Option Instruction
if_known api.V500 (instruction.OnStack operation.TuplePackWithVersionstamp) = None
if_known api instruction = Some instruction

-- the instruction that a value packs under an API version, if it is one there
unfoldable pub instruction_under : Api → List ℕ → Option Instruction
instruction_under api value = option_and_then (if_known api) (instruction_of value)
