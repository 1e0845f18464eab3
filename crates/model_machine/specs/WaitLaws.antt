-- Waits come to an end: what a machine asks within one instruction is each time less to poll for and to log.
use Rattle.std.specs.Prelude.{◌≡◌, ℕ, zero, suc, ◌+◌, ◌-◌, ◌*◌, ◌<◌, ◌≤◌, ⊤, ℤ, pos, negsuc, Bool, true, false, ◌||◌, List, [], ◌∷◌, length, take, drop, Option, Some, None, Result, Ok, Err, slice_get, nat_lt, decimal, refl}
use Rattle.std.proofs.Math.Nat.{mul-le-mul_right, suc-mul}
use Rattle.std.proofs.Common.{sym, ap, subst, ◌∙◌, add-one, arith}
use Rattle.std.proofs.lemmas.Bool.{ltb-true}
use Rattle.fdb_tuple.specs.declared.tuple.Elem.{Elem}
use Rattle.fdb_tuple.specs.declared.tuple.Elem.TheVariants as elem
use Rattle.fdb_calls.specs.declared.Request.{Request}
use Rattle.fdb_calls.specs.declared.Reply.{Reply}
use Rattle.fdb_calls.specs.declared.Reply.TheVariants as reply
use Rattle.model_machine.specs.declared.TheConstants.{LOG_BATCH}
use Rattle.model_machine.specs.declared.Item.{Item}
use Rattle.model_machine.specs.declared.ItemValue.{ItemValue}
use Rattle.model_machine.specs.declared.ItemValue.TheVariants as value
use Rattle.model_machine.specs.declared.TransactionOperation.{TransactionOperation}
use Rattle.model_machine.specs.declared.TransactionOperation.TheVariants as on_transaction
use Rattle.model_machine.specs.declared.DatabaseOperation.{DatabaseOperation}
use Rattle.model_machine.specs.declared.DatabaseOperation.TheVariants as on_database
use Rattle.model_machine.specs.declared.Scope.{Scope}
use Rattle.model_machine.specs.declared.Scope.TheVariants as scope
use Rattle.model_machine.specs.declared.Instruction.{Instruction}
use Rattle.model_machine.specs.declared.Instruction.TheVariants as instruction
use Rattle.model_machine.specs.declared.Awaits.{Awaits}
use Rattle.model_machine.specs.declared.Awaits.TheVariants as awaits
use Rattle.model_machine.specs.declared.Wait.{Wait}
use Rattle.model_machine.specs.Operands.{Refusal, Missing, Unfit, Waiting, ◌>>=◌, Popped, two_operands, bytes_operand}
use Rattle.model_machine.specs.StackOperations.{Operated, operated}
use Rattle.model_machine.specs.Calls.{Calls, written_in, selector_operand, options_operand, call_of, request_of, awaits_of, start_request}
use Rattle.model_machine.specs.Machines.{Registers, Act, Does, Stops, Asks, with_stack, refused, does, asks, calls, uses, life_by, first_life, logs_batch, logs_from, logs_on, logs_stack, waits_empty, act_of, instruction_at, Machine, Use, Goes, Pushes, Keeps, Fails, PushesWaiting, LogsOn, LacksMachine, start_use, use_of, used, known_or, with_known, noting, error_item, knowing, polls_on, polled_once, after_poll, watches_on, after_watch, replied_act}
use Rattle.model_machine.specs.Machines as machines
use Rattle.model_machine.specs.Machines.{directs_to, directs, directory_use, opened_use, names_use, existence_use, subspace_use}
use Rattle.directory_types.specs.declared.DirReply.{DirReply}
use Rattle.directory_types.specs.declared.DirReply.TheVariants as directory
use Rattle.key_bytes.specs.Keys.{begins_with}
use Rattle.fdb_tuple.specs.declared.fault.UnpackFault.{UnpackFault}
use Rattle.fdb_tuple.specs.Tuples.{Elements}
use Rattle.fdb_tuple.specs.Reading.{read_tuple}
use Rattle.directory_types.specs.declared.Layer.{Layer}
use Rattle.directory_types.specs.declared.DirArgs.{DirArgs}
use Rattle.directory_types.specs.declared.DirKind.{DirKind}
use Rattle.directory_types.specs.declared.DirKind.TheVariants as kind
use Rattle.model_machine.specs.declared.directories.Object.{Object}
use Rattle.model_machine.specs.declared.directories.Object.TheVariants as object
use Rattle.model_machine.specs.declared.directories.DirectoryOperation.{DirectoryOperation}
use Rattle.model_machine.specs.declared.directories.DirectoryOperation.TheVariants as on_directories
use Rattle.model_machine.specs.Operands.{tuple_operand, int_operand, flag_operand}
use Rattle.model_machine.specs.Directories as directories
use Rattle.model_machine.specs.Directories.{Directories, Directed, Appends, Gives, Chooses, FallsTo, Faults, current, object_at, is_null, prefix_of, layered, layer_over, index_in, change_to, fall_to, name_in, layer_called, moved_to, in_subspace, inside, unpacked, behind, path_operand, name_operand, path_if_given, appends, directed}
use Rattle.model_machine.specs.Waits.{counted, waiting_count, IsLeft, left_itself, left_further, left_below, at_most_counted, IsFair, IsRefusedFairly, IsOf, of_then, of_bytes, operated_fairly, of_call, of_request, of_directed}

-- ---- what a machine has still to do within its instruction

-- a reply is used at once, or for an item that waits, or for the next items that are logged, or while keys are watched
pub data Errand : Type 0 where
  AtOnce : Errand
  Polls : (wait : Wait) → Errand
  Logs : Errand
  Watches : (polled : ℕ) → Errand

-- what a reply that is awaited is used for
abbrev pub errand_of : Awaits → Errand
errand_of (awaits.Stamp wait) = Polls wait
errand_of (awaits.LoggedStamp prefix wait) = Polls wait
errand_of (awaits.Logged prefix) = Logs
errand_of (awaits.Empty prefix polled) = Watches polled
errand_of _ = AtOnce

-- an item waits, where one is polled for
abbrev pub HasItsItem : Errand → List Item → Type 0
HasItsItem AtOnce stack = ⊤
HasItsItem (Polls wait) stack = 1 ≤ waiting_count stack
HasItsItem Logs stack = ⊤
HasItsItem (Watches polled) stack = ⊤

-- the items, those that wait counted twice, each for as many polls as a wait may have
abbrev pub load : (polls : ℕ) → List Item → ℕ
load polls stack = (length stack + waiting_count stack) * (polls + 2)

-- more than an instruction on these items asks for
abbrev pub room : (polls : ℕ) → List Item → ℕ
room polls stack = load polls stack + polls + 2

-- what is still to be polled for and logged, with this errand and these items
abbrev pub effort : (polls : ℕ) → Errand → List Item → ℕ
effort polls AtOnce stack = 0
effort polls (Polls wait) stack = load polls stack + (polls - wait.polled) + 1
effort polls Logs stack = room polls stack
effort polls (Watches polled) stack = (polls - polled) + 1

-- a request asks for less than this, and an item waits where one is polled for
pub record IsBounded (polls bound : ℕ) (errand : Errand) (stack : List Item) : Type 0 where
  pub below : effort polls errand stack < bound
  pub waits : HasItsItem errand stack

-- the same of an act, where it asks one
abbrev pub IsBoundedAct : (polls bound : ℕ) → Act → Type 0
IsBoundedAct polls bound (Does registers) = ⊤
IsBoundedAct polls bound (Stops registers end) = ⊤
IsBoundedAct polls bound (Asks registers request awaits) = IsBounded polls bound (errand_of awaits) registers.stack

-- and so of a greater bound
bounded_above : (polls less bound : ℕ) (act : Act) → less ≤ bound → IsBoundedAct polls less act → IsBoundedAct polls bound act
bounded_above polls less bound (Does registers) is bounded = tt
bounded_above polls less bound (Stops registers end) is bounded = tt
bounded_above polls less bound (Asks registers request awaits) is bounded = record {
  below = omega (arith, bounded.below, is);
  waits = bounded.waits;
}

-- ---- loads

-- no more items, of which no more wait, are no heavier
load_left : (polls : ℕ) (left stack : List Item) → IsLeft left stack → load polls left ≤ load polls stack
load_left polls left stack is = mul-le-mul_right (polls + 2) (omega (arith, is.fewer, is.waits))

-- fewer items, or fewer that wait, are lighter by all polls of a wait and two
load_fewer : (polls : ℕ) (left stack : List Item) → length left + waiting_count left + 1 ≤ length stack + waiting_count stack
    → load polls left + (polls + 2) ≤ load polls stack
load_fewer polls left stack fewer =
    subst (λ n. n ≤ load polls stack) (one_more (length left + waiting_count left) (polls + 2)) (mul-le-mul_right (polls + 2) fewer)
  where
    one_more : (m n : ℕ) → (m + 1) * n ≡ m * n + n
    one_more m n = ap (λ k. k * n) (add-one m) ∙ suc-mul m n

-- ---- the items that LOG_STACK takes

-- those that are left are of the stack
left_dropped : (n : ℕ) (stack : List Item) → IsLeft (drop n stack) stack
left_dropped zero stack = left_itself stack
left_dropped (suc n) [] = left_itself []
left_dropped (suc n) (top ∷ below) =
    left_further (drop n below) below (top ∷ below) (left_dropped n below) (left_below top below)

-- one item at least is taken
fewer_dropped : (n : ℕ) (top : Item) (below : List Item)
    → length (drop (suc n) (top ∷ below)) + waiting_count (drop (suc n) (top ∷ below)) + 1
    ≤ length (top ∷ below) + waiting_count (top ∷ below)
fewer_dropped n top below =
    let dropped = left_dropped n below in
    omega (arith, dropped.fewer, dropped.waits, at_most_counted top.value (waiting_count below))

-- no more of those that are taken wait than of all
counted_more : (known : ItemValue) (less more : ℕ) → less ≤ more → counted known less ≤ counted known more
counted_more (value.Known element) less more is = is
counted_more (value.Waits life) less more is = omega (arith, is)

waiting_taken : (n : ℕ) (stack : List Item) → waiting_count (take n stack) ≤ waiting_count stack
waiting_taken zero stack = omega arith
waiting_taken (suc n) [] = omega arith
waiting_taken (suc n) (top ∷ below) =
    counted_more top.value (waiting_count (take n below)) (waiting_count below) (waiting_taken n below)

-- where a life is waited for, an item waits
some_counted : (known : ItemValue) (other : Option ℕ) (count life : ℕ) → life_by known other ≡ Some life
    → (other ≡ Some life → 1 ≤ count) → 1 ≤ counted known count
some_counted (value.Known element) other count life is further = further is
some_counted (value.Waits waited) other count life is further = omega arith

first_waits : (items : List Item) (life : ℕ) → first_life items ≡ Some life → 1 ≤ waiting_count items
first_waits [] life is = absurd cc
first_waits (item ∷ others) life is =
    some_counted item.value (first_life others) (waiting_count others) life is (first_waits others life)

-- ---- each instruction

-- one that works on the stack alone, or takes a name, polls for an item at most
refused_bounded : (polls number : ℕ) (registers : Registers) (refusal : Refusal) → IsFair refusal registers.stack
    → IsBoundedAct polls (room polls registers.stack) (refused number registers refusal)
refused_bounded polls number registers (Missing left) fair = tt
refused_bounded polls number registers (Unfit left) fair = tt
refused_bounded polls number registers (Waiting life) fair = record { below = omega arith; waits = fair }

does_bounded : (polls number : ℕ) (registers : Registers) (operated : Operated) → IsRefusedFairly operated registers.stack
    → IsBoundedAct polls (room polls registers.stack) (does number registers operated)
does_bounded polls number registers (Ok stack) fair = tt
does_bounded polls number registers (Err refusal) fair = refused_bounded polls number registers refusal fair

uses_bounded : (polls number : ℕ) (registers : Registers) (popped : Popped (List ℕ)) → IsOf popped registers.stack
    → IsBoundedAct polls (room polls registers.stack) (uses number registers popped)
uses_bounded polls number registers (Ok popped) of = tt
uses_bounded polls number registers (Err refusal) fair = refused_bounded polls number registers refusal fair

-- a reply that is used at once is the least
at_once_bounded : (polls : ℕ) (errand : Errand) (left stack : List Item) → errand ≡ AtOnce → IsBounded polls (room polls stack) errand left
at_once_bounded polls errand left stack is =
    subst (λ (e : Errand). IsBounded polls (room polls stack) e left) (sym is) (record { below = omega arith; waits = tt })

-- an operation on the current transaction uses its reply at once
awaits_at_once : (operation : TransactionOperation) → errand_of (awaits_of operation) ≡ AtOnce
awaits_at_once on_transaction.NewTransaction = refl
awaits_at_once on_transaction.OnError = refl
awaits_at_once on_transaction.Reset = refl
awaits_at_once on_transaction.Cancel = refl
awaits_at_once on_transaction.Commit = refl
awaits_at_once on_transaction.GetReadVersion = refl
awaits_at_once on_transaction.SetReadVersion = refl
awaits_at_once on_transaction.GetCommittedVersion = refl
awaits_at_once on_transaction.ReadConflictRange = refl
awaits_at_once on_transaction.WriteConflictRange = refl
awaits_at_once on_transaction.ReadConflictKey = refl
awaits_at_once on_transaction.WriteConflictKey = refl
awaits_at_once on_transaction.DisableWriteConflict = refl
awaits_at_once on_transaction.GetVersionstamp = refl

asks_bounded : (polls number : ℕ) (registers : Registers) (awaits : Awaits) (popped : Popped Request) → errand_of awaits ≡ AtOnce
    → IsOf popped registers.stack → IsBoundedAct polls (room polls registers.stack) (asks number registers awaits popped)
asks_bounded polls number registers awaits (Ok popped) is of = at_once_bounded polls (errand_of awaits) popped.1 registers.stack is
asks_bounded polls number registers awaits (Err refusal) is fair = refused_bounded polls number registers refusal fair

-- a call on the database uses its reply at once
abbrev IsUsedAtOnce : Popped Calls → Type 0
IsUsedAtOnce (Ok popped) = errand_of popped.0.1 ≡ AtOnce
IsUsedAtOnce (Err refusal) = ⊤

at_once_then : {A : Type 0} (popped : Popped A) (f : A × List Item → Popped Calls) → ((x : A × List Item) → IsUsedAtOnce (f x))
    → IsUsedAtOnce (popped >>= f)
at_once_then (Ok x) f next = next x
at_once_then (Err refusal) f next = tt

written_at_once : (scope : Scope) → errand_of (written_in scope) ≡ AtOnce
written_at_once scope.Transaction = refl
written_at_once scope.Snapshot = refl
written_at_once scope.Database = refl

call_at_once : (operation : DatabaseOperation) (scope : Scope) (stack : List Item) → IsUsedAtOnce (call_of operation scope stack)
call_at_once on_database.Get scope stack = at_once_then (bytes_operand stack) _ (λ key. refl)
call_at_once on_database.GetKey scope stack =
    at_once_then (selector_operand stack) _ (λ selector. at_once_then (bytes_operand selector.1) _ (λ prefix. refl))
call_at_once on_database.GetRange scope stack =
    at_once_then (two_operands bytes_operand bytes_operand stack) _ (λ ends. at_once_then (options_operand ends.1) _ (λ options. refl))
call_at_once on_database.GetRangeStartsWith scope stack =
    at_once_then (bytes_operand stack) _ (λ prefix. at_once_then (options_operand prefix.1) _ (λ options. refl))
call_at_once on_database.GetRangeSelector scope stack =
    at_once_then (two_operands selector_operand selector_operand stack) _
    (λ ends. at_once_then (options_operand ends.1) _ (λ options. at_once_then (bytes_operand options.1) _ (λ prefix. refl)))
call_at_once on_database.Set scope stack =
    at_once_then (two_operands bytes_operand bytes_operand stack) _ (λ operands. written_at_once scope)
call_at_once on_database.Clear scope stack = at_once_then (bytes_operand stack) _ (λ key. written_at_once scope)
call_at_once on_database.ClearRange scope stack =
    at_once_then (two_operands bytes_operand bytes_operand stack) _ (λ ends. written_at_once scope)
call_at_once on_database.ClearRangeStartsWith scope stack = at_once_then (bytes_operand stack) _ (λ prefix. written_at_once scope)
call_at_once on_database.AtomicOp scope stack =
    at_once_then (two_operands bytes_operand (two_operands bytes_operand bytes_operand) stack) _ (λ operands. written_at_once scope)

calls_bounded : (polls number : ℕ) (registers : Registers) (scope : Scope) (popped : Popped Calls) → IsUsedAtOnce popped
    → IsOf popped registers.stack → IsBoundedAct polls (room polls registers.stack) (calls number registers scope popped)
calls_bounded polls number registers scope (Ok popped) is of = at_once_bounded polls (errand_of popped.0.1) popped.1 registers.stack is
calls_bounded polls number registers scope (Err refusal) is fair = refused_bounded polls number registers refusal fair

-- WAIT_EMPTY polls as often as one wait may
waits_empty_bounded : (polls number : ℕ) (registers : Registers) (popped : Popped (List ℕ)) → IsOf popped registers.stack
    → IsBoundedAct polls (room polls registers.stack) (waits_empty number registers popped)
waits_empty_bounded polls number registers (Ok popped) of = record { below = omega arith; waits = tt }
waits_empty_bounded polls number registers (Err refusal) fair = refused_bounded polls number registers refusal fair

-- START_THREAD uses its reply at once
of_start : (stack : List Item) → IsOf (start_request stack) stack
of_start stack = of_then (bytes_operand stack) _ stack (of_bytes stack) (λ prefix. left_itself prefix.1)

-- an operation on the directories uses its reply at once
abbrev IsDirectedAtOnce : Directed → Type 0
IsDirectedAtOnce (Appends object) = ⊤
IsDirectedAtOnce (Gives elements) = ⊤
IsDirectedAtOnce (Chooses index) = ⊤
IsDirectedAtOnce (FallsTo index) = ⊤
IsDirectedAtOnce (Faults name) = ⊤
IsDirectedAtOnce (directories.Asks request awaits) = errand_of awaits ≡ AtOnce

abbrev IsAskedAtOnce : Popped Directed → Type 0
IsAskedAtOnce (Ok popped) = IsDirectedAtOnce popped.0
IsAskedAtOnce (Err refusal) = ⊤

asked_then : {A : Type 0} (popped : Popped A) (f : A × List Item → Popped Directed) → ((x : A × List Item) → IsAskedAtOnce (f x))
    → IsAskedAtOnce (popped >>= f)
asked_then (Ok x) f next = next x
asked_then (Err refusal) f next = tt

layer_at_once : (nodes contents : Option Object) (manual : Bool) → IsDirectedAtOnce (layered nodes contents manual)
layer_at_once (Some nodes) (Some contents) manual = by (is_null nodes || is_null contents) (prefix_of nodes) (prefix_of contents)
  where
    by : (null : Bool) (nodes contents : Option (List ℕ)) → IsDirectedAtOnce (layer_over null nodes contents manual)
    by true nodes contents = tt
    by false (Some nodes) (Some contents) = tt
    by false (Some nodes) None = tt
    by false None contents = tt
layer_at_once (Some nodes) None manual = tt
layer_at_once None contents manual = tt

index_at_once : (index : ℤ) (at : ℕ → Directed) → ((index : ℕ) → IsDirectedAtOnce (at index)) → IsDirectedAtOnce (index_in index at)
index_at_once (pos index) at each = each index
index_at_once (negsuc less) at each = tt

changed_at_once : (list : Directories) (index : ℕ) (found : Option Object) → IsDirectedAtOnce (change_to list index found)
changed_at_once list index (Some found) = tt
changed_at_once list index None = tt

fallen_at_once : (index : ℕ) (found : Option Object) → IsDirectedAtOnce (fall_to index found)
fallen_at_once index (Some found) = tt
fallen_at_once index None = tt

called_at_once : (name : Option (List ℕ)) (call : DirKind) (awaits_of : Layer → Awaits) (found : Object) (args : DirArgs)
    → ((layer : Layer) → errand_of (awaits_of layer) ≡ AtOnce) → IsDirectedAtOnce (layer_called name call awaits_of found args)
called_at_once name call awaits_of (object.Layer layer) args each = each layer
called_at_once name call awaits_of (object.Directory layer path prefix layer_name) args each = each layer
called_at_once name call awaits_of (object.Subspace prefix) args each = tt
called_at_once name call awaits_of object.Null args each = tt

moved_at_once : (scope : Scope) (name : List ℕ) (found : Object) (path : List (List ℕ)) → IsDirectedAtOnce (moved_to scope name found path)
moved_at_once scope name (object.Layer layer) path = tt
moved_at_once scope name (object.Directory layer path prefix layer_name) new_path = refl
moved_at_once scope name (object.Subspace prefix) path = tt
moved_at_once scope name object.Null path = tt

subspace_at_once : (prefix : Option (List ℕ)) (directed : List ℕ → Directed) → ((prefix : List ℕ) → IsDirectedAtOnce (directed prefix))
    → IsDirectedAtOnce (in_subspace prefix directed)
subspace_at_once (Some prefix) directed each = each prefix
subspace_at_once None directed each = tt

inside_at_once : (is : Bool) (directed : Directed) → IsDirectedAtOnce directed → IsDirectedAtOnce (inside is directed)
inside_at_once true directed at_once = at_once
inside_at_once false directed at_once = tt

unpacked_at_once : (read : Result Elements UnpackFault) → IsDirectedAtOnce (unpacked read)
unpacked_at_once (Ok tuple) = tt
unpacked_at_once (Err fault) = tt

directed_at_once : (operation : DirectoryOperation) (scope : Scope) (name : List ℕ) (list : Directories) (stack : List Item)
    → IsAskedAtOnce (directed operation scope name list stack)
unfolding directed
directed_at_once on_directories.CreateSubspace scope name list stack = asked_then (two_operands tuple_operand bytes_operand stack) _ (λ operands. tt)
directed_at_once on_directories.CreateLayer scope name list stack =
    asked_then (two_operands int_operand int_operand stack) _ (λ indices. asked_then (flag_operand indices.1) _
    (λ manual. layer_at_once (object_at list.objects indices.0.0) (object_at list.objects indices.0.1) manual.0))
directed_at_once on_directories.CreateOrOpen scope name list stack =
    asked_then (two_operands path_operand name_operand stack) _
    (λ operands. called_at_once (name_in scope name) kind.CreateOrOpen awaits.Opened (current list) _ (λ layer. refl))
directed_at_once on_directories.Create scope name list stack =
    asked_then (two_operands path_operand name_operand stack) _ (λ operands. asked_then (name_operand operands.1) _
    (λ prefix. called_at_once (name_in scope name) kind.Create awaits.Opened (current list) _ (λ layer. refl)))
directed_at_once on_directories.Open scope name list stack =
    asked_then (two_operands path_operand name_operand stack) _
    (λ operands. called_at_once (name_in scope name) kind.Open awaits.Opened (current list) _ (λ layer. refl))
directed_at_once on_directories.Change scope name list stack =
    asked_then (int_operand stack) _
    (λ index. index_at_once index.0 _ (λ index. changed_at_once list index (slice_get list.objects index)))
directed_at_once on_directories.SetErrorIndex scope name list stack =
    asked_then (int_operand stack) _ (λ index. index_at_once index.0 _ (λ index. fallen_at_once index (slice_get list.objects index)))
directed_at_once on_directories.Move scope name list stack =
    asked_then (two_operands path_operand path_operand stack) _
    (λ paths. called_at_once (name_in scope name) kind.MoveTo awaits.Opened (current list) _ (λ layer. refl))
directed_at_once on_directories.MoveTo scope name list stack =
    asked_then (path_operand stack) _ (λ path. moved_at_once scope name (current list) path.0)
directed_at_once on_directories.Remove scope name list stack =
    asked_then (path_if_given stack) _ (λ path. called_at_once (name_in scope name) kind.Remove _ (current list) _ (λ layer. refl))
directed_at_once on_directories.RemoveIfExists scope name list stack =
    asked_then (path_if_given stack) _ (λ path. called_at_once (name_in scope name) kind.RemoveIfExists _ (current list) _ (λ layer. refl))
directed_at_once on_directories.List scope name list stack =
    asked_then (path_if_given stack) _ (λ path. called_at_once (name_in scope name) kind.List _ (current list) _ (λ layer. refl))
directed_at_once on_directories.Exists scope name list stack =
    asked_then (path_if_given stack) _ (λ path. called_at_once (name_in scope name) kind.Exists _ (current list) _ (λ layer. refl))
directed_at_once on_directories.PackKey scope name list stack =
    asked_then (tuple_operand stack) _ (λ tuple. subspace_at_once (prefix_of (current list)) _ (λ prefix. tt))
directed_at_once on_directories.UnpackKey scope name list stack =
    asked_then (bytes_operand stack) _ (λ key. subspace_at_once (prefix_of (current list)) _ (λ prefix. inside_at_once (begins_with key.0 prefix)
    (unpacked (read_tuple (behind prefix key.0))) (unpacked_at_once (read_tuple (behind prefix key.0)))))
directed_at_once on_directories.Range scope name list stack =
    asked_then (tuple_operand stack) _ (λ tuple. subspace_at_once (prefix_of (current list)) _ (λ prefix. tt))
directed_at_once on_directories.Contains scope name list stack =
    asked_then (bytes_operand stack) _ (λ key. subspace_at_once (prefix_of (current list)) _ (λ prefix. tt))
directed_at_once on_directories.OpenSubspace scope name list stack =
    asked_then (tuple_operand stack) _ (λ tuple. subspace_at_once (prefix_of (current list)) _ (λ prefix. tt))
directed_at_once on_directories.LogSubspace scope name list stack =
    asked_then (bytes_operand stack) _ (λ key. subspace_at_once (prefix_of (current list)) _ (λ prefix. refl))
directed_at_once on_directories.LogDirectory scope name list stack =
    asked_then (bytes_operand stack) _ (λ raw. called_at_once (Some name) kind.Log _ (current list) _ (λ layer. refl))
directed_at_once on_directories.StripPrefix scope name list stack =
    asked_then (bytes_operand stack) _ (λ key. subspace_at_once (prefix_of (current list)) _
    (λ prefix. inside_at_once (begins_with key.0 prefix) (Gives (elem.Bytes (behind prefix key.0) ∷ [])) tt))

directs_to_bounded : (polls number : ℕ) (appends : Bool) (registers : Registers) (directed : Directed) (stack : List Item) → IsDirectedAtOnce directed
    → IsBoundedAct polls (room polls stack) (directs_to number appends registers directed)
directs_to_bounded polls number appends registers (Appends object) stack at_once = tt
directs_to_bounded polls number appends registers (Gives elements) stack at_once = tt
directs_to_bounded polls number appends registers (Chooses index) stack at_once = tt
directs_to_bounded polls number appends registers (FallsTo index) stack at_once = tt
directs_to_bounded polls number appends registers (Faults name) stack at_once = tt
directs_to_bounded polls number appends registers (directories.Asks request awaits) stack at_once =
    at_once_bounded polls (errand_of awaits) registers.stack stack at_once

directs_bounded : (polls number : ℕ) (appends : Bool) (registers : Registers) (popped : Popped Directed) → IsAskedAtOnce popped
    → IsOf popped registers.stack → IsBoundedAct polls (room polls registers.stack) (directs number appends registers popped)
directs_bounded polls number appends registers (Ok popped) is of =
    directs_to_bounded polls number appends (with_stack registers popped.1) popped.0 registers.stack is
directs_bounded polls number appends registers (Err refusal) is fair = refused_bounded polls number registers refusal fair

-- LOG_STACK polls for an item among those that it takes, or has fewer items afterwards
batch_bounded : (polls : ℕ) (life : Option ℕ) (registers : Registers) (prefix : List ℕ)
    → first_life (take LOG_BATCH registers.stack) ≡ life
    → length (drop LOG_BATCH registers.stack) + waiting_count (drop LOG_BATCH registers.stack) + 1
    ≤ length registers.stack + waiting_count registers.stack
    → IsBoundedAct polls (room polls registers.stack) (logs_batch life registers prefix)
batch_bounded polls (Some life) registers prefix is fewer =
    let some = first_waits (take LOG_BATCH registers.stack) life is in
    record { below = omega arith; waits = omega (arith, some, waiting_taken LOG_BATCH registers.stack) }
batch_bounded polls None registers prefix is fewer =
    let less = load_fewer polls (drop LOG_BATCH registers.stack) registers.stack fewer in
    record { below = omega (arith, less); waits = tt }

logs_bounded : (polls : ℕ) (registers : Registers) (prefix : List ℕ)
    → IsBoundedAct polls (room polls registers.stack) (logs_on registers prefix)
logs_bounded polls registers prefix = by_stack registers.stack refl
  where
    by_stack : (stack : List Item) → registers.stack ≡ stack
        → IsBoundedAct polls (room polls registers.stack) (logs_from stack registers prefix)
    by_stack [] is = tt
    by_stack (top ∷ below) is =
        batch_bounded polls (first_life (take LOG_BATCH (top ∷ below))) registers prefix
        (ap (λ items. first_life (take LOG_BATCH items)) is)
        (subst (λ items. length (drop LOG_BATCH items) + waiting_count (drop LOG_BATCH items) + 1 ≤ length items + waiting_count items)
        (sym is) (fewer_dropped 99 top below))

logs_stack_bounded : (polls number : ℕ) (registers : Registers) (popped : Popped (List ℕ)) → IsOf popped registers.stack
    → IsBoundedAct polls (room polls registers.stack) (logs_stack number registers popped)
logs_stack_bounded polls number registers (Ok popped) of =
    let less = load_left polls popped.1 registers.stack of in
    bounded_above polls (room polls popped.1) (room polls registers.stack) (logs_on (with_stack registers popped.1) popped.0)
    (omega (arith, less)) (logs_bounded polls (with_stack registers popped.1) popped.0)
logs_stack_bounded polls number registers (Err refusal) fair = refused_bounded polls number registers refusal fair

-- an instruction asks for less than its room, and polls only where an item waits
pub act_bounded : (polls number : ℕ) (registers : Registers) (found : Option Instruction)
    → IsBoundedAct polls (room polls registers.stack) (act_of number registers found)
unfolding act_of
act_bounded polls number registers None = tt
act_bounded polls number registers (Some (instruction.Push element)) = tt
act_bounded polls number registers (Some (instruction.OnStack operation)) =
    does_bounded polls number registers (operated operation number registers.stack) (operated_fairly operation number registers.stack)
act_bounded polls number registers (Some instruction.UseTransaction) =
    uses_bounded polls number registers (bytes_operand registers.stack) (of_bytes registers.stack)
act_bounded polls number registers (Some (instruction.OnTransaction operation)) =
    asks_bounded polls number registers (awaits_of operation)
    (request_of operation registers.name registers.last_seen registers.stack) (awaits_at_once operation)
    (of_request operation registers.name registers.last_seen registers.stack)
act_bounded polls number registers (Some (instruction.OnDatabase operation scope)) =
    calls_bounded polls number registers scope (call_of operation scope registers.stack) (call_at_once operation scope registers.stack)
    (of_call operation scope registers.stack)
act_bounded polls number registers (Some (instruction.OnDirectories operation scope)) =
    directs_bounded polls number (appends operation) registers (directed operation scope registers.name registers.directories registers.stack)
    (directed_at_once operation scope registers.name registers.directories registers.stack)
    (of_directed operation scope registers.name registers.directories registers.stack)
act_bounded polls number registers (Some instruction.LogStack) =
    logs_stack_bounded polls number registers (bytes_operand registers.stack) (of_bytes registers.stack)
act_bounded polls number registers (Some instruction.StartThread) =
    asks_bounded polls number registers awaits.Start (start_request registers.stack) refl (of_start registers.stack)
act_bounded polls number registers (Some instruction.WaitEmpty) =
    waits_empty_bounded polls number registers (bytes_operand registers.stack) (of_bytes registers.stack)

-- ---- the item that was polled for becomes known

-- then one item fewer waits
one_known : (item : ItemValue) (known others : List Item) (count left : ℕ) → waiting_count known ≡ count
    → waiting_count others ≡ counted item left → (1 ≤ count → left + 1 ≡ count) → 1 ≤ counted item count
    → waiting_count (known_or item known others) + 1 ≡ counted item count
one_known (value.Known element) known others count left known_is others_is further some =
    let fewer = further some in omega (arith, others_is, fewer)
one_known (value.Waits life) known others count left known_is others_is further some = omega (arith, known_is)

pub known_waiting : (element : Elem) (stack : List Item) → 1 ≤ waiting_count stack
    → waiting_count (with_known element stack) + 1 ≡ waiting_count stack
known_waiting element [] some = absurd (omega (arith, some))
known_waiting element (item ∷ below) some =
    one_known item.value (record item { value = value.Known element } ∷ below) (item ∷ with_known element below) (waiting_count below)
    (waiting_count (with_known element below)) refl refl (known_waiting element below) some

-- and there are as many items
length_either : (item : ItemValue) (known others : List Item) (count : ℕ) → length known ≡ count → length others ≡ count
    → length (known_or item known others) ≡ count
length_either (value.Known element) known others count known_is others_is = others_is
length_either (value.Waits life) known others count known_is others_is = known_is

pub known_length : (element : Elem) (stack : List Item) → length (with_known element stack) ≡ length stack
known_length element [] = refl
known_length element (item ∷ below) =
    length_either item.value (record item { value = value.Known element } ∷ below) (item ∷ with_known element below) (suc (length below))
    refl (ap suc (known_length element below))

-- so they are lighter
load_known : (polls : ℕ) (element : Elem) (stack : List Item) → 1 ≤ waiting_count stack
    → load polls (with_known element stack) + (polls + 2) ≤ load polls stack
load_known polls element stack some =
    let waits = known_waiting element stack some in
    let same = known_length element stack in
    load_fewer polls (with_known element stack) stack (omega (arith, waits, same))

-- ---- each reply

-- the reply to a call on the directories doesn't let LOG_STACK go on
directory_never_logs : (appends : Bool) (told : DirReply → Use) (given : Reply) (prefix : List ℕ)
    → ((answer : DirReply) → told answer ≡ LogsOn prefix → ⊥) → directory_use appends told given ≡ LogsOn prefix → ⊥
directory_never_logs appends told (reply.Dir answer) prefix never is = never answer is
directory_never_logs appends told (reply.DirFault fault) prefix never is = cc
directory_never_logs appends told given prefix never is = cc

opened_never_logs : (layer : Layer) (prefix : List ℕ) (answer : DirReply) → opened_use layer answer ≡ LogsOn prefix → ⊥
opened_never_logs layer prefix (directory.Opened own path layer_name) is = cc
opened_never_logs layer prefix answer is = cc

names_never_log : (prefix : List ℕ) (answer : DirReply) → names_use answer ≡ LogsOn prefix → ⊥
names_never_log prefix (directory.Names names) is = cc
names_never_log prefix answer is = cc

existence_never_logs : (prefix : List ℕ) (answer : DirReply) → existence_use answer ≡ LogsOn prefix → ⊥
existence_never_logs prefix (directory.Is is') is = cc
existence_never_logs prefix answer is = cc

subspace_never_logs : (given : Reply) (prefix : List ℕ) → subspace_use given ≡ LogsOn prefix → ⊥
subspace_never_logs (reply.Fault code) prefix is = cc
subspace_never_logs given prefix is = cc

start_never_logs : (given : Reply) (prefix : List ℕ) → start_use given ≡ LogsOn prefix → ⊥
start_never_logs reply.NoMachine prefix is = cc
start_never_logs given prefix is = cc

-- LOG_STACK goes on only where its next items are to be logged
logs_on_logged : (awaiting : Awaits) (given : Reply) (prefix : List ℕ) → use_of awaiting given ≡ LogsOn prefix
    → errand_of awaiting ≡ Logs
logs_on_logged awaits.NewTransaction given prefix is = absurd cc
logs_on_logged awaits.Start given prefix is = absurd (start_never_logs given prefix is)
logs_on_logged (awaits.Opened layer) given prefix is =
    absurd (directory_never_logs true (opened_use layer) given prefix (opened_never_logs layer prefix) is)
logs_on_logged awaits.DirectoryDone given prefix is = absurd (directory_never_logs false (λ answer. Goes) given prefix (λ answer is. cc) is)
logs_on_logged awaits.Names given prefix is = absurd (directory_never_logs false names_use given prefix (names_never_log prefix) is)
logs_on_logged awaits.Existence given prefix is =
    absurd (directory_never_logs false existence_use given prefix (existence_never_logs prefix) is)
logs_on_logged awaits.SubspaceLogged given prefix is = absurd (subspace_never_logs given prefix is)
logs_on_logged awaiting (reply.Fault code) prefix is = absurd cc
logs_on_logged awaits.NotPresent reply.Done prefix is = absurd cc
logs_on_logged awaits.Value (reply.Value value) prefix is = absurd cc
logs_on_logged (awaits.Key start) (reply.KeyIs key) prefix is = absurd cc
logs_on_logged awaits.Pairs (reply.PairsAre pairs) prefix is = absurd cc
logs_on_logged (awaits.PairsWithin start) (reply.PairsAre pairs) prefix is = absurd cc
logs_on_logged (awaits.Logged logged) reply.Done prefix is = refl
logs_on_logged awaits.ReadVersion (reply.Version version) prefix is = absurd cc
logs_on_logged awaits.CommittedVersion (reply.Version version) prefix is = absurd cc
logs_on_logged awaits.ConflictRange reply.Done prefix is = absurd cc
logs_on_logged awaits.ConflictKey reply.Done prefix is = absurd cc
logs_on_logged awaits.Promise (reply.Life life) prefix is = absurd cc
logs_on_logged awaiting given prefix is = absurd cc

-- so what a reply is used for asks for less than the request had still to do
use_bounded : (polls number bound : ℕ) (registers : Registers) (use_for : Use)
    → ((prefix : List ℕ) → use_for ≡ LogsOn prefix → room polls registers.stack ≤ bound)
    → IsBoundedAct polls bound (used number registers use_for)
use_bounded polls number bound registers Goes logged = tt
use_bounded polls number bound registers (Pushes element) logged = tt
use_bounded polls number bound registers (Keeps version element) logged = tt
use_bounded polls number bound registers (Fails word element) logged = tt
use_bounded polls number bound registers (PushesWaiting life) logged = tt
use_bounded polls number bound registers (LogsOn prefix) logged =
    bounded_above polls (room polls registers.stack) bound (logs_on registers prefix) (logged prefix refl)
    (logs_bounded polls registers prefix)
use_bounded polls number bound registers LacksMachine logged = tt
use_bounded polls number bound registers (machines.Appends object) logged = tt
use_bounded polls number bound registers (machines.Faults appends name) logged = tt

used_bounded : (polls number : ℕ) (registers : Registers) (awaiting : Awaits) (given : Reply)
    → IsBoundedAct polls (effort polls (errand_of awaiting) registers.stack) (used number registers (use_of awaiting given))
used_bounded polls number registers awaiting given =
    use_bounded polls number (effort polls (errand_of awaiting) registers.stack) registers (use_of awaiting given)
    (λ prefix is. subst (λ (e : Errand). room polls registers.stack ≤ effort polls e registers.stack)
    (sym (logs_on_logged awaiting given prefix is)) (omega arith))

-- a poll that isn't answered yet is one poll less
polls_on_bounded : (more : Bool) (polls number : ℕ) (registers : Registers) (wait : Wait) (awaiting : Wait → Awaits)
    → nat_lt (wait.polled + 1) polls ≡ more → errand_of (awaiting (polled_once wait)) ≡ Polls (polled_once wait)
    → 1 ≤ waiting_count registers.stack
    → IsBoundedAct polls (effort polls (Polls wait) registers.stack) (polls_on more number registers (polled_once wait) awaiting)
polls_on_bounded true polls number registers wait awaiting is polls_is some =
    let inside = ltb-true (wait.polled + 1) polls is in
    subst (λ (e : Errand). IsBounded polls (effort polls (Polls wait) registers.stack) e registers.stack) (sym polls_is)
    (record { below = omega (arith, inside); waits = some })
polls_on_bounded false polls number registers wait awaiting is polls_is some = tt

-- one that is answered leaves an item less that waits
known_bounded : (polls : ℕ) (wait : Wait) (element : Elem) (stack : List Item) (act : Act) → 1 ≤ waiting_count stack
    → IsBoundedAct polls (room polls (with_known element stack)) act → IsBoundedAct polls (effort polls (Polls wait) stack) act
known_bounded polls wait element stack act some bounded =
    let less = load_known polls element stack some in
    bounded_above polls (room polls (with_known element stack)) (effort polls (Polls wait) stack) act (omega (arith, less)) bounded

poll_bounded : (polls number : ℕ) (registers : Registers) (wait : Wait) (again : Registers → Act) (awaiting : Wait → Awaits) (given : Reply)
    → ((known : Registers) → IsBoundedAct polls (room polls known.stack) (again known))
    → errand_of (awaiting (polled_once wait)) ≡ Polls (polled_once wait) → 1 ≤ waiting_count registers.stack
    → IsBoundedAct polls (effort polls (Polls wait) registers.stack) (after_poll polls number registers wait again awaiting given)
poll_bounded polls number registers wait again awaiting (reply.Stamp stamp) again_bounded polls_is some =
    let known = knowing registers (elem.Bytes stamp) in
    known_bounded polls wait (elem.Bytes stamp) registers.stack (again known) some (again_bounded known)
poll_bounded polls number registers wait again awaiting (reply.Fault code) again_bounded polls_is some =
    let known = knowing (noting number registers (decimal code.0)) (error_item code.0) in
    known_bounded polls wait (error_item code.0) registers.stack (again known) some (again_bounded known)
poll_bounded polls number registers wait again awaiting reply.NotYet again_bounded polls_is some =
    polls_on_bounded (nat_lt (wait.polled + 1) polls) polls number registers wait awaiting refl polls_is some
poll_bounded polls number registers wait again awaiting given again_bounded polls_is some = tt

-- one poll less while keys are watched
watches_on_bounded : (more : Bool) (polls number : ℕ) (registers : Registers) (prefix : List ℕ) (polled : ℕ)
    → nat_lt (polled + 1) polls ≡ more
    → IsBoundedAct polls (effort polls (Watches polled) registers.stack) (watches_on more number registers prefix (polled + 1))
watches_on_bounded true polls number registers prefix polled is =
    let inside = ltb-true (polled + 1) polls is in
    record { below = omega (arith, inside); waits = tt }
watches_on_bounded false polls number registers prefix polled is = tt

watch_bounded : (polls number : ℕ) (registers : Registers) (prefix : List ℕ) (polled : ℕ) (given : Reply)
    → IsBoundedAct polls (effort polls (Watches polled) registers.stack) (after_watch polls number registers prefix polled given)
watch_bounded polls number registers prefix polled reply.Empty = tt
watch_bounded polls number registers prefix polled reply.NotYet =
    watches_on_bounded (nat_lt (polled + 1) polls) polls number registers prefix polled refl
watch_bounded polls number registers prefix polled given = tt

-- what a machine asks with a reply is less than it had to do before, and it polls only where an item waits
pub replied_bounded : (awaiting : Awaits) (machine : Machine) (given : Reply) → HasItsItem (errand_of awaiting) machine.registers.stack
    → IsBoundedAct machine.options.polls (effort machine.options.polls (errand_of awaiting) machine.registers.stack) (replied_act awaiting machine given)
replied_bounded (awaits.Stamp wait) machine given item =
    poll_bounded machine.options.polls machine.next machine.registers wait (λ registers. act_of machine.next registers (instruction_at machine))
    awaits.Stamp given (λ known. act_bounded machine.options.polls machine.next known (instruction_at machine)) refl item
replied_bounded (awaits.LoggedStamp prefix wait) machine given item =
    poll_bounded machine.options.polls machine.next machine.registers wait (λ registers. logs_on registers prefix)
    (awaits.LoggedStamp prefix) given (λ known. logs_bounded machine.options.polls known prefix) refl item
replied_bounded (awaits.Empty prefix polled) machine given item =
    watch_bounded machine.options.polls machine.next machine.registers prefix polled given
replied_bounded awaiting machine given item = used_bounded machine.options.polls machine.next machine.registers awaiting given
