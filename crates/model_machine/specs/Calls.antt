-- What an instruction that makes a request pops, and the request that it makes (bindingApiTester.md).
use Rattle.std.specs.Prelude.{ℕ, ◌-◌, ℤ, pos, Bool, List, [], ◌∷◌, length, map, take, reverse, Ok, unwrap_or}
use Rattle.std.specs.List.{enumerate_from}
use Rattle.key_bytes.specs.Keys.{top}
use Rattle.key_bytes.specs.Successors.{strinc}
use Rattle.key_bytes.specs.declared.range.KeyRange.{KeyRange}
use Rattle.model_database.specs.Intervals.{one}
use Rattle.model_database.specs.declared.selector.Selector.{Selector}
use Rattle.model_database.specs.declared.options.RangeOptions.{RangeOptions}
use Rattle.fdb_tuple.specs.Tuples.{Int, Empty, Single}
use Rattle.fdb_tuple.specs.Listed.{before}
use Rattle.fdb_tuple.specs.Spelling.{spelling}
use Rattle.fdb_calls.specs.declared.TxnCall.{TxnCall}
use Rattle.fdb_calls.specs.declared.TxnCall.TheVariants as call
use Rattle.fdb_calls.specs.declared.Request.{Request}
use Rattle.fdb_calls.specs.declared.Request.TheVariants as request
use Rattle.model_machine.specs.declared.TheConstants.{LOG_BATCH, LOGGED_BYTES}
use Rattle.model_machine.specs.declared.Item.{Item}
use Rattle.model_machine.specs.declared.ItemValue.{ItemValue}
use Rattle.model_machine.specs.declared.ItemValue.TheVariants as value
use Rattle.model_machine.specs.declared.Awaits.{Awaits}
use Rattle.model_machine.specs.declared.Awaits.TheVariants as awaits
use Rattle.model_machine.specs.declared.DatabaseOperation.{DatabaseOperation}
use Rattle.model_machine.specs.declared.DatabaseOperation.TheVariants as on_database
use Rattle.model_machine.specs.declared.TransactionOperation.{TransactionOperation}
use Rattle.model_machine.specs.declared.TransactionOperation.TheVariants as on_transaction
use Rattle.model_machine.specs.declared.Scope.{Scope}
use Rattle.model_machine.specs.declared.Scope.TheVariants as scope
use Rattle.model_machine.specs.Operands.{◌>>=◌, Popped, bytes_operand, code_operand, flag_operand, offset_operand, limit_operand, mode_operand, two_operands}

-- ---- calls on the database

-- a call, and what its reply is used for; a write tells with `_DATABASE` alone that it was done
abbrev pub Calls : Type 0
Calls = TxnCall × Awaits

abbrev pub written_in : Scope → Awaits
written_in scope.Transaction = awaits.Nothing
written_in scope.Snapshot = awaits.Nothing
written_in scope.Database = awaits.NotPresent

-- a read in this scope is by snapshot
abbrev pub is_snapshot : Scope → Bool
is_snapshot scope.Transaction = Bool.false
is_snapshot scope.Snapshot = Bool.true
is_snapshot scope.Database = Bool.false

abbrev pub get_call : Scope → List Item → Popped Calls
get_call scope stack = do
  key ← bytes_operand stack
  Ok ((call.Get key.0 (is_snapshot scope), awaits.Value), key.1)

-- a selector: its key, whether a key that equals it counts among those before, and its offset
abbrev pub selector_operand : List Item → Popped Selector
selector_operand stack = do
  key ← bytes_operand stack
  or_equal ← flag_operand key.1
  offset ← offset_operand or_equal.1
  Ok (record { key = key.0; or_equal = or_equal.0; offset = offset.0 }, offset.1)

abbrev pub get_key_call : Scope → List Item → Popped Calls
get_key_call scope stack = do
  selector ← selector_operand stack
  prefix ← bytes_operand selector.1
  Ok ((call.GetKey selector.0 (is_snapshot scope), awaits.Key prefix.0), prefix.1)

-- how a range is read: the limit, whether reversed, and the mode
abbrev pub options_operand : List Item → Popped RangeOptions
options_operand stack = do
  limit ← limit_operand stack
  reverse ← flag_operand limit.1
  mode ← mode_operand reverse.1
  Ok (record { limit = limit.0; reverse = reverse.0; mode = mode.0 }, mode.1)

abbrev pub get_between : Scope → List ℕ → List ℕ → RangeOptions → TxnCall
get_between scope begin end options = call.GetKeyRange (record { begin = begin; end = end }) options (is_snapshot scope)

abbrev pub get_range_call : Scope → List Item → Popped Calls
get_range_call scope stack = do
  ends ← two_operands bytes_operand bytes_operand stack
  options ← options_operand ends.1
  Ok ((get_between scope ends.0.0 ends.0.1 options.0, awaits.Pairs), options.1)

-- the end of the range of the keys that begin with a prefix: the least key above them, or FF where there is none
abbrev pub prefix_end : List ℕ → List ℕ
prefix_end prefix = unwrap_or (strinc prefix) top

abbrev pub get_range_starts_with_call : Scope → List Item → Popped Calls
get_range_starts_with_call scope stack = do
  prefix ← bytes_operand stack
  options ← options_operand prefix.1
  Ok ((get_between scope prefix.0 (prefix_end prefix.0) options.0, awaits.Pairs), options.1)

abbrev pub get_range_selector_call : Scope → List Item → Popped Calls
get_range_selector_call scope stack = do
  ends ← two_operands selector_operand selector_operand stack
  options ← options_operand ends.1
  prefix ← bytes_operand options.1
  Ok ((call.GetRange ends.0.0 ends.0.1 options.0 (is_snapshot scope), awaits.PairsWithin prefix.0), prefix.1)

abbrev pub set_call : Scope → List Item → Popped Calls
set_call scope stack = do
  operands ← two_operands bytes_operand bytes_operand stack
  Ok ((call.Set operands.0.0 operands.0.1, written_in scope), operands.1)

abbrev pub clear_call : Scope → List Item → Popped Calls
clear_call scope stack = do
  key ← bytes_operand stack
  Ok ((call.Clear key.0, written_in scope), key.1)

abbrev pub clear_between : List ℕ → List ℕ → TxnCall
clear_between begin end = call.ClearRange (record { begin = begin; end = end })

abbrev pub clear_range_call : Scope → List Item → Popped Calls
clear_range_call scope stack = do
  ends ← two_operands bytes_operand bytes_operand stack
  Ok ((clear_between ends.0.0 ends.0.1, written_in scope), ends.1)

abbrev pub clear_range_starts_with_call : Scope → List Item → Popped Calls
clear_range_starts_with_call scope stack = do
  prefix ← bytes_operand stack
  Ok ((clear_between prefix.0 (prefix_end prefix.0), written_in scope), prefix.1)

abbrev pub atomic_call : Scope → List Item → Popped Calls
atomic_call scope stack = do
  operands ← two_operands bytes_operand (two_operands bytes_operand bytes_operand) stack
  Ok ((call.Atomic operands.0.0 operands.0.1.0 operands.0.1.1, written_in scope), operands.1)

-- the call that an operation makes in this scope, by what it pops
abbrev pub call_of : DatabaseOperation → Scope → List Item → Popped Calls
call_of on_database.Get scope stack = get_call scope stack
call_of on_database.GetKey scope stack = get_key_call scope stack
call_of on_database.GetRange scope stack = get_range_call scope stack
call_of on_database.GetRangeStartsWith scope stack = get_range_starts_with_call scope stack
call_of on_database.GetRangeSelector scope stack = get_range_selector_call scope stack
call_of on_database.Set scope stack = set_call scope stack
call_of on_database.Clear scope stack = clear_call scope stack
call_of on_database.ClearRange scope stack = clear_range_call scope stack
call_of on_database.ClearRangeStartsWith scope stack = clear_range_starts_with_call scope stack
call_of on_database.AtomicOp scope stack = atomic_call scope stack

-- the request that makes a call in this scope, where this is the current name
abbrev pub request_in : Scope → List ℕ → TxnCall → Request
request_in scope.Transaction name call = request.On name call
request_in scope.Snapshot name call = request.On name call
request_in scope.Database name call = request.Database call

-- ---- START_THREAD

-- the request that starts a machine under the prefix that is popped
abbrev pub start_request : List Item → Popped Request
start_request stack = do
  prefix ← bytes_operand stack
  Ok (request.Start prefix.0, prefix.1)

-- ---- LOG_STACK

-- the packed bytes of an item; of one that waits the one byte 2A, which begins no packed tuple
abbrev pub item_bytes : ItemValue → List ℕ
item_bytes (value.Known element) = spelling (before element Empty)
item_bytes (value.Waits life) = 42 ∷ []

-- an item at its place in the stack: its place and its instruction as the key, and its first packed bytes as the value
abbrev pub log_entry : ℕ × Item → List ℕ × List ℕ
log_entry (place, item) = (
  spelling (Single (Int (pos place)) (Single (Int (pos item.instruction)) Empty)),
  take LOGGED_BYTES (item_bytes item.value),
)

-- the uppermost items of a stack, as many as one request writes, in the order of their places
abbrev pub log_entries : List Item → List (List ℕ × List ℕ)
log_entries stack = map log_entry (enumerate_from (length stack - LOG_BATCH) (reverse (take LOG_BATCH stack)))

-- ---- operations on the current transaction

abbrev pub on_current : List ℕ → TxnCall → List Item → Popped Request
on_current name call stack = Ok (request.On name call, stack)

-- the call of an operation that pops the two ends of a range
abbrev pub range_request : List ℕ → (KeyRange → TxnCall) → List Item → Popped Request
range_request name call_on stack = do
  ends ← two_operands bytes_operand bytes_operand stack
  Ok (request.On name (call_on (record { begin = ends.0.0; end = ends.0.1 })), ends.1)

-- the call of an operation that pops a key, on the range of it alone
abbrev pub key_request : List ℕ → (KeyRange → TxnCall) → List Item → Popped Request
key_request name call_on stack = do
  key ← bytes_operand stack
  Ok (request.On name (call_on (one key.0)), key.1)

abbrev pub on_error_request : List ℕ → List Item → Popped Request
on_error_request name stack = do
  code ← code_operand stack
  Ok (request.On name (call.OnError (record { 0 = code.0 })), code.1)

-- the request that an operation makes, where these are the current name and the last version seen
abbrev pub request_of : TransactionOperation → List ℕ → ℤ → List Item → Popped Request
request_of on_transaction.NewTransaction name seen stack = Ok (request.New name, stack)
request_of on_transaction.OnError name seen stack = on_error_request name stack
request_of on_transaction.Reset name seen stack = on_current name call.Reset stack
request_of on_transaction.Cancel name seen stack = on_current name call.Cancel stack
request_of on_transaction.Commit name seen stack = on_current name call.Commit stack
request_of on_transaction.GetReadVersion name seen stack = on_current name call.ReadVersion stack
request_of on_transaction.SetReadVersion name seen stack = on_current name (call.SetReadVersion seen) stack
request_of on_transaction.GetCommittedVersion name seen stack = on_current name call.CommittedVersion stack
request_of on_transaction.ReadConflictRange name seen stack = range_request name call.ReadConflict stack
request_of on_transaction.WriteConflictRange name seen stack = range_request name call.WriteConflict stack
request_of on_transaction.ReadConflictKey name seen stack = key_request name call.ReadConflict stack
request_of on_transaction.WriteConflictKey name seen stack = key_request name call.WriteConflict stack
request_of on_transaction.DisableWriteConflict name seen stack = on_current name call.NoWriteConflict stack
request_of on_transaction.GetVersionstamp name seen stack = on_current name call.Versionstamp stack

abbrev pub awaits_of : TransactionOperation → Awaits
awaits_of on_transaction.NewTransaction = awaits.NewTransaction
awaits_of on_transaction.OnError = awaits.NotPresent
awaits_of on_transaction.Reset = awaits.Nothing
awaits_of on_transaction.Cancel = awaits.Nothing
awaits_of on_transaction.Commit = awaits.NotPresent
awaits_of on_transaction.GetReadVersion = awaits.ReadVersion
awaits_of on_transaction.SetReadVersion = awaits.Nothing
awaits_of on_transaction.GetCommittedVersion = awaits.CommittedVersion
awaits_of on_transaction.ReadConflictRange = awaits.ConflictRange
awaits_of on_transaction.WriteConflictRange = awaits.ConflictRange
awaits_of on_transaction.ReadConflictKey = awaits.ConflictKey
awaits_of on_transaction.WriteConflictKey = awaits.ConflictKey
awaits_of on_transaction.DisableWriteConflict = awaits.Nothing
awaits_of on_transaction.GetVersionstamp = awaits.Promise
