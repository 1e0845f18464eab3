-- A machine and its instructions (bindingApiTester.md).
use Rattle.std.specs.Prelude.{ℕ, ◌+◌, ℤ, Bool, true, false, nat_lt, if◌then◌else◌, List, [], ◌∷◌, ◌++◌, take, drop, map, option_and_then, flat_map, Option, Some, None, Ok, Err, slice_get, codes, decimal}
use Rattle.std.specs.List.{filter}
use Rattle.key_bytes.specs.Keys.{key_lt, begins_with}
use Rattle.model_database.specs.Slices.{Entries}
use Rattle.fdb_tuple.specs.declared.tuple.Elem.{Elem}
use Rattle.fdb_tuple.specs.declared.tuple.Elem.TheVariants as elem
use Rattle.fdb_tuple.specs.Tuples.{Bytes, Empty, Single}
use Rattle.fdb_tuple.specs.Listed.{tuple_of}
use Rattle.fdb_tuple.specs.Spelling.{spelling}
use Rattle.fdb_calls.specs.declared.Request.{Request}
use Rattle.fdb_calls.specs.declared.Request.TheVariants as request
use Rattle.fdb_calls.specs.declared.Reply.{Reply}
use Rattle.fdb_calls.specs.declared.Reply.TheVariants as reply
use Rattle.model_machine.specs.declared.TheConstants.{LOG_BATCH}
use Rattle.model_machine.specs.declared.MachineOptions.{MachineOptions}
use Rattle.model_machine.specs.declared.Item.{Item}
use Rattle.model_machine.specs.declared.ItemValue.{ItemValue}
use Rattle.model_machine.specs.declared.ItemValue.TheVariants as value
use Rattle.model_machine.specs.declared.Wait.{Wait}
use Rattle.model_machine.specs.declared.ErrorNote.{ErrorNote}
use Rattle.model_machine.specs.declared.End.{End as HowEnded}
use Rattle.model_machine.specs.declared.End.TheVariants as end
use Rattle.model_machine.specs.declared.Awaits.{Awaits}
use Rattle.model_machine.specs.declared.Awaits.TheVariants as awaits
use Rattle.model_machine.specs.declared.State.{State}
use Rattle.model_machine.specs.declared.State.TheVariants as state
use Rattle.model_machine.specs.declared.Scope.{Scope}
use Rattle.model_machine.specs.declared.Instruction.{Instruction}
use Rattle.model_machine.specs.declared.Instruction.TheVariants as instruction
use Rattle.model_machine.specs.Operands.{Refusal, Missing, Unfit, Waiting, Popped, bytes_operand}
use Rattle.model_machine.specs.StackOperations.{Operated, pushed, operated}
use Rattle.directory_types.specs.declared.Layer.{Layer}
use Rattle.directory_types.specs.declared.DirReply.{DirReply}
use Rattle.directory_types.specs.declared.DirReply.TheVariants as directory
use Rattle.model_machine.specs.declared.directories.Object.{Object}
use Rattle.model_machine.specs.declared.directories.Object.TheVariants as object
use Rattle.model_machine.specs.Directories as directories
use Rattle.model_machine.specs.Directories.{Directories, Directed, with_object, one_or_zero, fault_name, appends, directed}
use Rattle.model_machine.specs.Calls.{Calls, call_of, request_in, request_of, awaits_of, start_request, prefix_end, log_entries}
use Rattle.model_machine.specs.Instructions.{instruction_under}

-- ---- a machine

-- what an instruction works on
pub record Registers : Type 0 where
  -- the name of the current transaction
  pub name : List ℕ
  -- the last version seen, which may be -1
  pub last_seen : ℤ
  -- the items, the top first
  pub stack : List Item
  -- the errors that were noted, the earliest first
  pub errors : List ErrorNote
  pub directories : Directories

pub record Machine : Type 0 where
  pub number : ℕ
  pub prefix : List ℕ
  -- the values of its instructions, and the number of the next one
  pub instructions : List (List ℕ)
  pub next : ℕ
  -- what the arguments of the run say of every machine
  pub options : MachineOptions
  pub registers : Registers
  pub state : State

-- a machine, and the request that it asks, if it asks one
pub record Progress : Type 0 where
  pub machine : Machine
  pub asks : Option Request

abbrev pub silent : Machine → Progress
silent machine = record { machine = machine; asks = None }

-- the machine as it stops at its instruction
abbrev pub stopped : Machine → Registers → HowEnded → Machine
stopped machine registers end = record machine { registers = registers; state = state.Stopped end }

-- the machine as it has done its instruction
abbrev pub done : Machine → Registers → Machine
done machine registers = record machine { registers = registers; next = machine.next + 1; state = state.Running }

-- the machine as it asks a request
abbrev pub asking : Machine → Registers → Request → Awaits → Progress
asking machine registers request awaits = record {
  machine = record machine { registers = registers; state = state.Awaiting awaits };
  asks = Some request;
}

-- ---- what an instruction, or the reply that it awaited, comes to

pub data Act : Type 0 where
  -- the instruction is done
  Does : (registers : Registers) → Act
  -- it stops the machine
  Stops : (registers : Registers) (end : HowEnded) → Act
  -- it asks a request, whose reply it awaits
  Asks : (registers : Registers) (request : Request) (awaits : Awaits) → Act

abbrev pub acted : Machine → Act → Progress
acted machine (Does registers) = silent (done machine registers)
acted machine (Stops registers end) = silent (stopped machine registers end)
acted machine (Asks registers request awaits) = asking machine registers request awaits

abbrev pub with_stack : Registers → List Item → Registers
with_stack registers stack = record registers { stack = stack }

-- the instruction of this number pushes an element
abbrev pub pushing : ℕ → Registers → Elem → Registers
pushing number registers element = with_stack registers (pushed number (element ∷ []) registers.stack)

-- the instruction of this number notes a fault by its word
abbrev pub noting : ℕ → Registers → (word : List ℕ) → Registers
noting number registers word = record registers { errors = registers.errors ++ record { instruction = number; word = word } ∷ [] }

-- it notes one, and pushes an element
abbrev pub failing : ℕ → Registers → (word : List ℕ) → Elem → Registers
failing number registers word element = pushing number (noting number registers word) element

-- the list of directories with one object more
abbrev pub appending : Registers → Object → Registers
appending registers object = record registers { directories = with_object registers.directories object }

-- what an operation leaves that has a fault on the directories: null is appended where it appends an object
abbrev pub lacking : (appends : Bool) → Registers → Registers
lacking true registers = appending registers object.Null
lacking false registers = registers

abbrev pub directory_error : Elem
directory_error = elem.Bytes (codes "DIRECTORY_ERROR")

-- the instruction of this number has a fault of this name on the directories
abbrev pub faulting : ℕ → (appends : Bool) → Registers → (name : List ℕ) → Registers
faulting number appends registers name = failing number (lacking appends registers) name directory_error

-- before the first poll for a life
abbrev pub waits_for : ℕ → Wait
waits_for life = record { life = life; polled = 0 }

-- an instruction of this number that was refused: an item is missing, or an operand is of a wrong kind or range; or it pops an
-- item that waits, and polls for it while all items stay
abbrev pub refused : ℕ → Registers → Refusal → Act
refused number registers (Missing left) = Stops (with_stack registers left) (end.Underflow number)
refused number registers (Unfit left) = Stops (with_stack registers left) (end.BadInstruction number)
refused number registers (Waiting life) = Asks registers (request.PollStamp life) (awaits.Stamp (waits_for life))

abbrev pub does : ℕ → Registers → Operated → Act
does number registers (Ok stack) = Does (with_stack registers stack)
does number registers (Err refusal) = refused number registers refusal

-- a request, where its operands were popped
abbrev pub asks : ℕ → Registers → Awaits → Popped Request → Act
asks number registers awaits (Ok popped) = Asks (with_stack registers popped.1) popped.0 awaits
asks number registers awaits (Err refusal) = refused number registers refusal

-- a call on the database in this scope, where its operands were popped
abbrev pub calls : ℕ → Registers → Scope → Popped Calls → Act
calls number registers scope (Ok popped) = Asks (with_stack registers popped.1) (request_in scope registers.name popped.0.0) popped.0.1
calls number registers scope (Err refusal) = refused number registers refusal

-- USE_TRANSACTION pops the name
abbrev pub uses : ℕ → Registers → Popped (List ℕ) → Act
uses number registers (Ok popped) = Does (record registers { name = popped.0; stack = popped.1 })
uses number registers (Err refusal) = refused number registers refusal

-- what comes of an operation on the directories, which appends an object or doesn't
abbrev pub directs_to : ℕ → (appends : Bool) → Registers → Directed → Act
directs_to number appends registers (directories.Appends object) = Does (appending registers object)
directs_to number appends registers (directories.Gives elements) = Does (with_stack registers (pushed number elements registers.stack))
directs_to number appends registers (directories.Chooses index) = Does (record registers { directories = record registers.directories { index = index } })
directs_to number appends registers (directories.FallsTo index) = Does (record registers { directories = record registers.directories { error_index = index } })
directs_to number appends registers (directories.Faults name) = Does (faulting number appends registers name)
directs_to number appends registers (directories.Asks request awaits) = Asks registers request awaits

-- an operation on the directories, where its operands were popped
abbrev pub directs : ℕ → (appends : Bool) → Registers → Popped Directed → Act
directs number appends registers (Ok popped) = directs_to number appends (with_stack registers popped.1) popped.0
directs number appends registers (Err refusal) = refused number registers refusal

-- the life that an item waits for, or else this
abbrev pub life_by : ItemValue → Option ℕ → Option ℕ
life_by (value.Known element) other = other
life_by (value.Waits life) other = Some life

-- the life that the first of some items waits for which waits
abbrev pub first_life : List Item → Option ℕ
first_life [] = None
first_life (item ∷ others) = life_by item.value (first_life others)

-- LOG_STACK polls for an item that waits among those that it takes, and else writes them
abbrev pub logs_batch : Option ℕ → Registers → List ℕ → Act
logs_batch (Some life) registers prefix = Asks registers (request.PollStamp life) (awaits.LoggedStamp prefix (waits_for life))
logs_batch None registers prefix =
    Asks (with_stack registers (drop LOG_BATCH registers.stack)) (request.Log prefix (log_entries registers.stack)) (awaits.Logged prefix)

-- LOG_STACK takes the uppermost items, and goes on so until none is left
abbrev pub logs_from : List Item → Registers → List ℕ → Act
logs_from [] registers prefix = Does registers
logs_from (top ∷ below) registers prefix = logs_batch (first_life (take LOG_BATCH (top ∷ below))) registers prefix

abbrev pub logs_on : Registers → List ℕ → Act
logs_on registers prefix = logs_from registers.stack registers prefix

-- LOG_STACK pops the prefix
abbrev pub logs_stack : ℕ → Registers → Popped (List ℕ) → Act
logs_stack number registers (Ok popped) = logs_on (with_stack registers popped.1) popped.0
logs_stack number registers (Err refusal) = refused number registers refusal

-- WAIT_EMPTY pops the prefix, and polls
abbrev pub waits_empty : ℕ → Registers → Popped (List ℕ) → Act
waits_empty number registers (Ok popped) =
    Asks (with_stack registers popped.1) (request.PollEmpty popped.0) (awaits.Empty popped.0 0)
waits_empty number registers (Err refusal) = refused number registers refusal

-- the instruction of this number on these registers
unfoldable pub act_of : ℕ → Registers → Option Instruction → Act
act_of number registers None = Stops registers (end.BadInstruction number)
act_of number registers (Some (instruction.Push element)) = Does (pushing number registers element)
act_of number registers (Some (instruction.OnStack operation)) = does number registers (operated operation number registers.stack)
act_of number registers (Some instruction.UseTransaction) = uses number registers (bytes_operand registers.stack)
act_of number registers (Some (instruction.OnTransaction operation)) =
    asks number registers (awaits_of operation) (request_of operation registers.name registers.last_seen registers.stack)
act_of number registers (Some (instruction.OnDatabase operation scope)) =
    calls number registers scope (call_of operation scope registers.stack)
act_of number registers (Some (instruction.OnDirectories operation scope)) =
    directs number (appends operation) registers (directed operation scope registers.name registers.directories registers.stack)
act_of number registers (Some instruction.LogStack) = logs_stack number registers (bytes_operand registers.stack)
act_of number registers (Some instruction.StartThread) = asks number registers awaits.Start (start_request registers.stack)
act_of number registers (Some instruction.WaitEmpty) = waits_empty number registers (bytes_operand registers.stack)

-- ---- going on

-- what a running machine does next: an instruction, or its end where all were run
abbrev pub next_act : Machine → Option (List ℕ) → Act
next_act machine None = Stops machine.registers end.Ended
next_act machine (Some value) = act_of machine.next machine.registers (instruction_under machine.options.api value)

abbrev pub advance_by : State → Machine → Progress
advance_by state.Running machine = acted machine (next_act machine (slice_get machine.instructions machine.next))
advance_by (state.Awaiting awaits) machine = silent machine
advance_by (state.Stopped end) machine = silent machine

-- a machine runs one instruction, or ends; one that awaits a reply or has stopped does nothing
unfoldable pub advance : Machine → Progress
advance machine = advance_by machine.state machine

-- ---- using a reply

-- the fixed texts, byte strings
abbrev pub result_not_present : Elem
result_not_present = elem.Bytes (codes "RESULT_NOT_PRESENT")

abbrev pub got_read_version : Elem
got_read_version = elem.Bytes (codes "GOT_READ_VERSION")

abbrev pub got_committed_version : Elem
got_committed_version = elem.Bytes (codes "GOT_COMMITTED_VERSION")

abbrev pub set_conflict_range : Elem
set_conflict_range = elem.Bytes (codes "SET_CONFLICT_RANGE")

abbrev pub set_conflict_key : Elem
set_conflict_key = elem.Bytes (codes "SET_CONFLICT_KEY")

abbrev pub waited_for_empty : Elem
waited_for_empty = elem.Bytes (codes "WAITED_FOR_EMPTY")

-- the item that tells of a code
abbrev pub error_item : ℕ → Elem
error_item code = elem.Bytes (spelling (Single (Bytes (codes "ERROR")) (Single (Bytes (decimal code)) Empty)))

abbrev pub value_or_text : Option (List ℕ) → Elem
value_or_text (Some value) = elem.Bytes value
value_or_text None = result_not_present

-- a key where it begins with the prefix; else the prefix where the key is less, and the end of the prefix's range where it is greater
abbrev pub key_within : List ℕ → List ℕ → List ℕ
key_within prefix key = if begins_with key prefix then key else if key_lt key prefix then prefix else prefix_end prefix

-- the keys and values of pairs in turn, as one packed tuple
unfoldable pub packed_pairs : Entries → Elem
packed_pairs pairs = elem.Bytes (spelling (tuple_of (flat_map (λ e. elem.Bytes e.0 ∷ elem.Bytes e.1 ∷ []) pairs)))

abbrev pub pairs_within : List ℕ → Entries → Entries
pairs_within prefix pairs = filter (λ e. begins_with e.0 prefix) pairs

-- what a reply is used for
pub data Use : Type 0 where
  Goes : Use
  Pushes : (element : Elem) → Use
  -- a version is kept as the last one seen, and an element pushed
  Keeps : (version : ℤ) (element : Elem) → Use
  -- a fault is noted by its word, and an element pushed
  Fails : (word : List ℕ) (element : Elem) → Use
  -- an item is pushed that waits for a life
  PushesWaiting : (life : ℕ) → Use
  -- LOG_STACK goes on
  LogsOn : (prefix : List ℕ) → Use
  -- no machine was started
  LacksMachine : Use
  -- an object is appended to the list of directories
  Appends : (object : Object) → Use
  -- a fault on the directories by its name, of an operation that appends an object or doesn't
  Faults : (appends : Bool) (name : List ℕ) → Use

-- the reply to a call of a layer
abbrev pub directory_use : (appends : Bool) → (DirReply → Use) → Reply → Use
directory_use appends told (reply.Dir answer) = told answer
directory_use appends told (reply.DirFault fault) = Faults appends (fault_name fault)
directory_use appends told reply = Goes

abbrev pub opened_use : Layer → DirReply → Use
opened_use layer (directory.Opened prefix path layer_name) = Appends (object.Directory layer path prefix layer_name)
opened_use layer answer = Goes

-- names as one packed tuple of Unicode strings
abbrev pub packed_names : List (List ℕ) → Elem
packed_names names = elem.Bytes (spelling (tuple_of (map elem.Text names)))

abbrev pub names_use : DirReply → Use
names_use (directory.Names names) = Pushes (packed_names names)
names_use answer = Goes

abbrev pub existence_use : DirReply → Use
existence_use (directory.Is is) = Pushes (one_or_zero is)
existence_use answer = Goes

-- the reply to a set that logs a subspace
abbrev pub subspace_use : Reply → Use
subspace_use (reply.Fault code) = Faults false (decimal code.0)
subspace_use reply = Goes

-- the reply to the start of a machine
abbrev pub start_use : Reply → Use
start_use reply.NoMachine = LacksMachine
start_use reply = Goes

-- a reply of another kind than the request's changes nothing but that the machine goes on; so does a code where a transaction is made
-- or a machine is started, which have none
abbrev pub use_of : Awaits → Reply → Use
use_of awaits.NewTransaction reply = Goes
use_of awaits.Start reply = start_use reply
use_of (awaits.Opened layer) reply = directory_use true (opened_use layer) reply
use_of awaits.DirectoryDone reply = directory_use false (λ answer. Goes) reply
use_of awaits.Names reply = directory_use false names_use reply
use_of awaits.Existence reply = directory_use false existence_use reply
use_of awaits.SubspaceLogged reply = subspace_use reply
use_of awaits (reply.Fault code) = Fails (decimal code.0) (error_item code.0)
use_of awaits.NotPresent reply.Done = Pushes result_not_present
use_of awaits.Value (reply.Value value) = Pushes (value_or_text value)
use_of (awaits.Key prefix) (reply.KeyIs key) = Pushes (elem.Bytes (key_within prefix key))
use_of awaits.Pairs (reply.PairsAre pairs) = Pushes (packed_pairs pairs)
use_of (awaits.PairsWithin prefix) (reply.PairsAre pairs) = Pushes (packed_pairs (pairs_within prefix pairs))
use_of (awaits.Logged prefix) reply.Done = LogsOn prefix
use_of awaits.ReadVersion (reply.Version version) = Keeps version got_read_version
use_of awaits.CommittedVersion (reply.Version version) = Keeps version got_committed_version
use_of awaits.ConflictRange reply.Done = Pushes set_conflict_range
use_of awaits.ConflictKey reply.Done = Pushes set_conflict_key
use_of awaits.Promise (reply.Life life) = PushesWaiting life
use_of awaits reply = Goes

-- in the instruction of this number
abbrev pub used : ℕ → Registers → Use → Act
used number registers Goes = Does registers
used number registers (Pushes element) = Does (pushing number registers element)
used number registers (Keeps version element) = Does (pushing number (record registers { last_seen = version }) element)
used number registers (Fails word element) = Does (failing number registers word element)
used number registers (PushesWaiting life) =
    Does (with_stack registers (record { value = value.Waits life; instruction = number } ∷ registers.stack))
used number registers (LogsOn prefix) = logs_on registers prefix
used number registers LacksMachine = Stops registers (end.MachineLimit number)
used number registers (Appends object) = Does (appending registers object)
used number registers (Faults appends name) = Does (faulting number appends registers name)

-- ---- using the reply to a poll

abbrev pub known_or : ItemValue → List Item → List Item → List Item
known_or (value.Known element) known others = others
known_or (value.Waits life) known others = known

-- the uppermost item that waits is this element from then on
abbrev pub with_known : Elem → List Item → List Item
with_known element [] = []
with_known element (item ∷ below) =
    known_or item.value (record item { value = value.Known element } ∷ below) (item ∷ with_known element below)

-- the items below the uppermost one that waits
abbrev pub below_waiting : List Item → List Item
below_waiting [] = []
below_waiting (item ∷ below) = known_or item.value below (below_waiting below)

abbrev pub knowing : Registers → Elem → Registers
knowing registers element = with_stack registers (with_known element registers.stack)

-- the instruction of this number polls again, or it has polled as often as it may
abbrev pub polls_on : Bool → ℕ → Registers → Wait → (Wait → Awaits) → Act
polls_on true number registers wait awaiting = Asks registers (request.PollStamp wait.life) (awaiting wait)
polls_on false number registers wait awaiting = Stops (with_stack registers (below_waiting registers.stack)) (end.WaitBound number)

abbrev pub polled_once : Wait → Wait
polled_once wait = record wait { polled = wait.polled + 1 }

-- the item that was polled for is the versionstamp, or the one that tells of a code, which is noted; then the instruction goes
-- on. A reply of another kind changes nothing but that the machine goes on
abbrev pub after_poll : (polls number : ℕ) → Registers → Wait → (again : Registers → Act) → (awaiting : Wait → Awaits) → Reply → Act
after_poll polls number registers wait again awaiting (reply.Stamp stamp) = again (knowing registers (elem.Bytes stamp))
after_poll polls number registers wait again awaiting (reply.Fault code) =
    again (knowing (noting number registers (decimal code.0)) (error_item code.0))
after_poll polls number registers wait again awaiting reply.NotYet =
    polls_on (nat_lt (wait.polled + 1) polls) number registers (polled_once wait) awaiting
after_poll polls number registers wait again awaiting reply = Does registers

-- the instruction of this number polls again whether no key begins with a prefix, or it has polled as often as it may
abbrev pub watches_on : Bool → ℕ → Registers → (prefix : List ℕ) → (polled : ℕ) → Act
watches_on true number registers prefix polled = Asks registers (request.PollEmpty prefix) (awaits.Empty prefix polled)
watches_on false number registers prefix polled = Stops registers (end.WaitBound number)

-- the reply to such a poll. One of another kind changes nothing but that the machine goes on
abbrev pub after_watch : (polls number : ℕ) → Registers → (prefix : List ℕ) → (polled : ℕ) → Reply → Act
after_watch polls number registers prefix polled reply.Empty = Does (pushing number registers waited_for_empty)
after_watch polls number registers prefix polled reply.NotYet =
    watches_on (nat_lt (polled + 1) polls) number registers prefix (polled + 1)
after_watch polls number registers prefix polled reply = Does registers

-- the instruction that a machine stands at
abbrev pub instruction_at : Machine → Option Instruction
instruction_at machine = option_and_then (instruction_under machine.options.api) (slice_get machine.instructions machine.next)

abbrev pub replied_act : Awaits → Machine → Reply → Act
replied_act (awaits.Stamp wait) machine reply =
    after_poll machine.options.polls machine.next machine.registers wait (λ registers. act_of machine.next registers (instruction_at machine)) awaits.Stamp reply
replied_act (awaits.LoggedStamp prefix wait) machine reply =
    after_poll machine.options.polls machine.next machine.registers wait (λ registers. logs_on registers prefix) (awaits.LoggedStamp prefix) reply
replied_act (awaits.Empty prefix polled) machine reply = after_watch machine.options.polls machine.next machine.registers prefix polled reply
replied_act awaits machine reply = used machine.next machine.registers (use_of awaits reply)

abbrev pub resumed_by : State → Machine → Reply → Progress
resumed_by state.Running machine reply = silent machine
resumed_by (state.Awaiting awaits) machine reply = acted machine (replied_act awaits machine reply)
resumed_by (state.Stopped end) machine reply = silent machine

-- the machine after the reply to what it asked, and what it asks next within the same instruction
unfoldable pub resumed : Machine → Reply → Progress
resumed machine reply = resumed_by machine.state machine reply
