-- The reply of each step fits its request, and none says that memory ran out.
use Rattle.std.proofs.Common.{◌≡◌, ℕ, Bool, true, false, cond, List, [], ◌∷◌, ◌++◌, length, Option, Some, None, Result, Ok, Err, refl, slice_index_or}
use Rattle.std.specs.Prelude.{nat_lt}
use Rattle.model_database.specs.declared.Code.{Code}
use Rattle.model_database.specs.declared.AtomicOp.{AtomicOp}
use Rattle.model_database.specs.declared.Phase.{Phase}
use Rattle.model_database.specs.declared.Phase.TheVariants as phase
use Rattle.model_database.specs.Atomics.{atomic_named}
use Rattle.model_database.specs.Databases.{Database, Mutation, Set, Clear, ClearRange}
use Rattle.model_database.specs.Histories.{Setting}
use Rattle.model_database.specs.Modes.{lacks_limit}
use Rattle.model_database.specs.Reads.{Read, Answer, answer}
use Rattle.model_database.specs.Reads as read
use Rattle.model_database.specs.Transactions.{Transaction, first_failing, read_code, set_code, clear_code, range_code, atomic_code, phase_code, set_version_code, commit_code, conflict_checks, is_read_only, is_cancelled, is_retryable, with_version, late_checks, view}
use Rattle.directory_types.specs.declared.DirArgs.{DirArgs}
use Rattle.directory_types.specs.declared.DirKind.{DirKind}
use Rattle.directory_types.specs.declared.DirReply.{DirReply}
use Rattle.directory_types.specs.declared.fault.DirFault.{DirFault}
use Rattle.directory_types.specs.declared.Layer.{Layer}
use Rattle.model_directory.specs.Calls.{effect}
use Rattle.fdb_calls.specs.declared.Outcome.{Outcome}
use Rattle.fdb_calls.specs.declared.Outcome.TheVariants as outcome
use Rattle.fdb_calls.specs.declared.Reply.{Reply}
use Rattle.fdb_calls.specs.declared.Reply.TheVariants as reply
use Rattle.fdb_calls.specs.declared.Request.{Request}
use Rattle.fdb_calls.specs.declared.Request.TheVariants as request
use Rattle.fdb_calls.specs.declared.TxnCall.{TxnCall}
use Rattle.fdb_calls.specs.declared.TxnCall.TheVariants as call
use Rattle.fdb_calls.specs.Calling.{Called, called, code_of, is_fault, in_turn, logs, set_called, reply_of, read_by, read_at_version, read_called, write_by, atomic_by, does_by, commit_by, commit_allowed, commit_at_version, commit_refused, on_error_by, error_handled}
use Rattle.model_machine.specs.declared.TheConstants.{MACHINES}
use Rattle.model_machine.specs.Worlds.{World, next_life, newest, has_key_with, transaction_of, with_named, fresh_at_last, called_apart, database_by, and_commit, directory_reply, directory_called, directory_step, refusing, with_drawn, promised, start_by, step}
use Rattle.client_core.specs.Lives.{drawn_in}
use Rattle.client_core.specs.Kinds.{tells_value, tells_pairs, fits_call, fits}
use Rattle.client_core.specs.Stands.{is_no_memory}

-- ---- a read: what holds of each answer that it may have, and of each code, holds of its reply

at_version_so : (P : Reply → Type 0) (code : Option ℕ) (setting : Setting) (transaction : Transaction) (snapshot : Bool) (its_read : Read)
    → ((database : Database) → P (reply_of (answer its_read database))) → ((refused : Code) → P (reply.Fault refused))
    → P (read_at_version code setting transaction snapshot its_read).reply
at_version_so P (Some code) setting transaction snapshot its_read answers refuses = refuses (code_of code)
at_version_so P None setting transaction snapshot its_read answers refuses = answers (view setting transaction)

read_so : (P : Reply → Type 0) (setting : Setting) (transaction : Transaction) (lacks snapshot : Bool) (its_read : Read)
    → ((database : Database) → P (reply_of (answer its_read database))) → ((refused : Code) → P (reply.Fault refused))
    → P (read_called setting transaction lacks snapshot its_read).reply
read_so P setting transaction lacks snapshot its_read answers refuses = by_code (read_code transaction.phase lacks its_read)
  where
    by_code : (code : Option ℕ) → P (read_by code setting transaction snapshot its_read).reply
    by_code (Some code) = refuses (code_of code)
    by_code None = at_version_so P (first_failing (late_checks setting (with_version setting transaction) its_read)) setting
        (with_version setting transaction) snapshot its_read answers refuses

-- ---- a reply fits its request

-- a call's reply fits it
called_fits : (setting : Setting) (life : ℕ) (transaction : Transaction) (its_call : TxnCall)
    → fits_call its_call (called setting life transaction its_call).reply ≡ true
unfolding called answer
called_fits setting life transaction (call.Get key snapshot) =
    read_so (λ given. tells_value given ≡ true) setting transaction false snapshot (read.Get key) (λ database. refl) (λ refused. refl)
called_fits setting life transaction (call.GetKey selector snapshot) = refl
called_fits setting life transaction (call.GetRange begin end options snapshot) =
    read_so (λ given. tells_pairs given ≡ true) setting transaction (lacks_limit options.mode options.limit) snapshot
    (read.GetRange begin end options.limit options.reverse) (λ database. refl) (λ refused. refl)
called_fits setting life transaction (call.GetKeyRange range options snapshot) =
    read_so (λ given. tells_pairs given ≡ true) setting transaction (lacks_limit options.mode options.limit) snapshot
    (read.GetKeyRange range.begin range.end options.limit options.reverse) (λ database. refl) (λ refused. refl)
called_fits setting life transaction (call.Set key value) = refl
called_fits setting life transaction (call.Clear key) = refl
called_fits setting life transaction (call.ClearRange range) = refl
called_fits setting life transaction (call.Atomic name key operand) = refl
called_fits setting life transaction (call.ReadConflict range) = refl
called_fits setting life transaction (call.WriteConflict range) = refl
called_fits setting life transaction call.NoWriteConflict = refl
called_fits setting life transaction call.ReadVersion = refl
called_fits setting life transaction (call.SetReadVersion version) = refl
called_fits setting life transaction call.CommittedVersion = refl
called_fits setting life transaction call.Versionstamp = refl
called_fits setting life transaction call.Commit = refl
called_fits setting life transaction (call.OnError code) = refl
called_fits setting life transaction call.Reset = refl
called_fits setting life transaction call.Cancel = refl

-- the reply of each step fits its request
pub step_fits : (world : World) (given : Request) → fits given (step world given).reply ≡ true
unfolding step
step_fits world (request.New name) = refl
step_fits world (request.On name its_call) =
    let named = with_named world name in
    called_fits named.setting (next_life named) (transaction_of named name) its_call
step_fits world (request.Database its_call) = refl
step_fits world (request.Directory name layer kind args) = refl
step_fits world (request.Log prefix entries) = refl
step_fits world (request.PollStamp life) = refl
step_fits world (request.PollEmpty prefix) = refl
step_fits world (request.Start prefix) = refl

-- ---- no reply is NoMemory

-- it isn't replied to with NoMemory
abbrev Speaks : Called → Type 0
Speaks called = is_no_memory called.reply ≡ false

answer_speaks : (answer : Answer) → is_no_memory (reply_of answer) ≡ false
answer_speaks (read.ValueIs value) = refl
answer_speaks (read.KeyIs key) = refl
answer_speaks (read.PairsAre pairs) = refl

read_speaks : (setting : Setting) (transaction : Transaction) (lacks snapshot : Bool) (its_read : Read)
    → Speaks (read_called setting transaction lacks snapshot its_read)
read_speaks setting transaction lacks snapshot its_read =
    read_so (λ given. is_no_memory given ≡ false) setting transaction lacks snapshot its_read
    (λ database. answer_speaks (answer its_read database)) (λ refused. refl)

write_speaks : (code : Option ℕ) (transaction : Transaction) (mutation : Mutation) → Speaks (write_by code transaction mutation)
write_speaks (Some code) transaction mutation = refl
write_speaks None transaction mutation = refl

atomic_speaks : (code : Option ℕ) (op : Option AtomicOp) (transaction : Transaction) (key operand : List ℕ)
    → Speaks (atomic_by code op transaction key operand)
atomic_speaks code None transaction key operand = refl
atomic_speaks (Some code) (Some op) transaction key operand = refl
atomic_speaks None (Some op) transaction key operand = refl

does_speaks : (code : Option ℕ) (transaction after : Transaction) (its_reply : Reply) → is_no_memory its_reply ≡ false
    → Speaks (does_by code transaction after its_reply)
does_speaks (Some code) transaction after its_reply speaks = refl
does_speaks None transaction after its_reply speaks = speaks

handled_speaks : (retryable : Bool) (life : ℕ) (transaction : Transaction) (code : Code)
    → Speaks (error_handled retryable life transaction code)
handled_speaks true life transaction code = refl
handled_speaks false life transaction code = refl

on_error_speaks : (cancelled : Bool) (life : ℕ) (transaction : Transaction) (code : Code)
    → Speaks (on_error_by cancelled life transaction code)
on_error_speaks true life transaction code = refl
on_error_speaks false life transaction code = handled_speaks (is_retryable code.0) life transaction code

refused_speaks : (its_phase : Phase) (code : ℕ) (transaction : Transaction) → Speaks (commit_refused its_phase code transaction)
refused_speaks phase.Active code transaction = refl
refused_speaks phase.Cancelled code transaction = refl
refused_speaks (phase.Tried outcome) code transaction = refl

conflict_speaks : (code : Option ℕ) (setting : Setting) (transaction : Transaction) → Speaks (commit_at_version code setting transaction)
conflict_speaks (Some code) setting transaction = refused_speaks transaction.phase code transaction
conflict_speaks None setting transaction = refl

allowed_speaks : (read_only : Bool) (setting : Setting) (transaction : Transaction) → Speaks (commit_allowed read_only setting transaction)
allowed_speaks true setting transaction = refl
allowed_speaks false setting transaction =
    conflict_speaks (first_failing (conflict_checks setting (with_version setting transaction))) setting (with_version setting transaction)

commit_speaks : (code : Option ℕ) (setting : Setting) (transaction : Transaction) → Speaks (commit_by code setting transaction)
commit_speaks (Some code) setting transaction = refused_speaks transaction.phase code transaction
commit_speaks None setting transaction = allowed_speaks (is_read_only transaction) setting transaction

called_speaks : (setting : Setting) (life : ℕ) (transaction : Transaction) (its_call : TxnCall)
    → Speaks (called setting life transaction its_call)
unfolding called
called_speaks setting life transaction (call.Get key snapshot) = read_speaks setting transaction false snapshot (read.Get key)
called_speaks setting life transaction (call.GetKey selector snapshot) = read_speaks setting transaction false snapshot (read.GetKey selector)
called_speaks setting life transaction (call.GetRange begin end options snapshot) =
    read_speaks setting transaction (lacks_limit options.mode options.limit) snapshot (read.GetRange begin end options.limit options.reverse)
called_speaks setting life transaction (call.GetKeyRange range options snapshot) =
    read_speaks setting transaction (lacks_limit options.mode options.limit) snapshot (read.GetKeyRange range.begin range.end options.limit options.reverse)
called_speaks setting life transaction (call.Set key value) =
    write_speaks (set_code transaction.phase key value) transaction (Set key value)
called_speaks setting life transaction (call.Clear key) = write_speaks (clear_code transaction.phase key) transaction (Clear key)
called_speaks setting life transaction (call.ClearRange range) =
    write_speaks (range_code transaction.phase range.begin range.end) transaction (ClearRange range.begin range.end)
called_speaks setting life transaction (call.Atomic name key operand) =
    atomic_speaks (atomic_code setting.options.api transaction.phase name key operand) (atomic_named setting.options.api name) transaction
    key operand
called_speaks setting life transaction (call.ReadConflict range) =
    does_speaks (range_code transaction.phase range.begin range.end) transaction _ reply.Done refl
called_speaks setting life transaction (call.WriteConflict range) =
    does_speaks (range_code transaction.phase range.begin range.end) transaction _ reply.Done refl
called_speaks setting life transaction call.NoWriteConflict = does_speaks (phase_code transaction.phase) transaction _ reply.Done refl
called_speaks setting life transaction call.ReadVersion = does_speaks (phase_code transaction.phase) transaction _ _ refl
called_speaks setting life transaction (call.SetReadVersion version) =
    does_speaks (set_version_code transaction.phase transaction.version version) transaction _ reply.Done refl
called_speaks setting life transaction call.CommittedVersion = refl
called_speaks setting life transaction call.Versionstamp = does_speaks (phase_code transaction.phase) transaction transaction _ refl
called_speaks setting life transaction call.Commit =
    commit_speaks (commit_code transaction.phase (is_read_only transaction) transaction.size) setting transaction
called_speaks setting life transaction (call.OnError code) = on_error_speaks (is_cancelled transaction.phase) life transaction code
called_speaks setting life transaction call.Reset = refl
called_speaks setting life transaction call.Cancel = refl

-- of two that aren't NoMemory neither is
either_speaks : (b : Bool) (first second : Reply) → is_no_memory first ≡ false → is_no_memory second ≡ false
    → is_no_memory (cond b first second) ≡ false
either_speaks true first second speaks other = speaks
either_speaks false first second speaks other = other

either_called : (b : Bool) (first second : Called) → Speaks first → Speaks second → Speaks (cond b first second)
either_called true first second speaks other = speaks
either_called false first second speaks other = other

logs_speak : (prefix : List ℕ) (entries : List (List ℕ × List ℕ)) (transaction : Transaction)
    → Speaks (in_turn (logs prefix entries) transaction)
logs_speak prefix [] transaction = refl
logs_speak prefix (entry ∷ entries) transaction =
    either_called (is_fault (set_called transaction (prefix ++ entry.0) entry.1).reply) (set_called transaction (prefix ++ entry.0) entry.1) _
    (write_speaks (set_code transaction.phase (prefix ++ entry.0) entry.1) transaction (Set (prefix ++ entry.0) entry.1))
    (logs_speak prefix entries (set_called transaction (prefix ++ entry.0) entry.1).transaction)

database_speaks : (fault : Bool) (world : World) (made committed : Called) → Speaks made → Speaks committed
    → is_no_memory (database_by fault world made committed).reply ≡ false
database_speaks true world made committed speaks other = speaks
database_speaks false world made committed speaks other =
    either_speaks (is_fault committed.reply) committed.reply made.reply other speaks

and_commit_speaks : (world : World) (made : World → Transaction → Called) → Speaks (made (drawn_in world) (fresh_at_last world))
    → is_no_memory (and_commit world made).reply ≡ false
and_commit_speaks world made speaks =
    let first = made (drawn_in world) (fresh_at_last world) in
    let between = called_apart (drawn_in world) (fresh_at_last world) first in
    database_speaks (is_fault first.reply) between first (called between.setting (next_life between) first.transaction call.Commit) speaks
    (called_speaks between.setting (next_life between) first.transaction call.Commit)

directory_speaks : (end : Result DirReply DirFault) → is_no_memory (directory_reply end) ≡ false
directory_speaks (Ok answer) = refl
directory_speaks (Err fault) = refl

refusing_speaks : (its_reply : Reply) → is_no_memory its_reply ≡ false → is_no_memory (refusing its_reply) ≡ false
refusing_speaks reply.Done speaks = refl
refusing_speaks (reply.Value value) speaks = refl
refusing_speaks (reply.KeyIs key) speaks = refl
refusing_speaks (reply.PairsAre pairs) speaks = refl
refusing_speaks (reply.Version version) speaks = refl
refusing_speaks (reply.Life life) speaks = refl
refusing_speaks (reply.Stamp stamp) speaks = refl
refusing_speaks reply.NotYet speaks = refl
refusing_speaks (reply.Fault code) speaks = refl
refusing_speaks reply.Empty speaks = refl
refusing_speaks (reply.Started machine instructions) speaks = refl
refusing_speaks (reply.Dir answer) speaks = refl
refusing_speaks (reply.DirFault fault) speaks = refl
refusing_speaks reply.NoMachine speaks = refl
refusing_speaks reply.NoMemory speaks = speaks

directory_step_speaks : (world : World) (name : Option (List ℕ)) (kind : DirKind) (layer : Layer) (args : DirArgs)
    → is_no_memory (directory_step world name kind layer args).reply ≡ false
directory_step_speaks world None kind layer args =
    let reached = effect kind layer args world.setting world.words (fresh_at_last world) in
    let made = and_commit (with_drawn world reached.words) (λ drawn transaction. directory_called reached) in
    refusing_speaks made.reply
    (and_commit_speaks (with_drawn world reached.words) (λ drawn transaction. directory_called reached) (directory_speaks reached.end))
directory_step_speaks world (Some name) kind layer args =
    let named = with_named world name in
    directory_speaks (effect kind layer args named.setting named.words (transaction_of named name)).end

promised_speaks : (its_outcome : Option Outcome) → is_no_memory (promised its_outcome) ≡ false
promised_speaks None = refl
promised_speaks (Some (outcome.HasStamp stamp)) = refl
promised_speaks (Some (outcome.Lacks code)) = refl

start_speaks : (there_is_room : Bool) (world : World) (prefix : List ℕ) → is_no_memory (start_by there_is_room world prefix).reply ≡ false
start_speaks true world prefix = refl
start_speaks false world prefix = refl

-- no step is replied to with NoMemory
pub step_speaks : (world : World) (given : Request) → is_no_memory (step world given).reply ≡ false
unfolding step
step_speaks world (request.New name) = refl
step_speaks world (request.On name its_call) =
    let named = with_named world name in
    called_speaks named.setting (next_life named) (transaction_of named name) its_call
step_speaks world (request.Database its_call) =
    and_commit_speaks world (λ drawn transaction. called drawn.setting (next_life drawn) transaction its_call)
    (called_speaks world.setting (next_life (drawn_in world)) (fresh_at_last world) its_call)
step_speaks world (request.Directory name layer kind args) = directory_step_speaks world name kind layer args
step_speaks world (request.Log prefix entries) =
    and_commit_speaks world (λ drawn transaction. in_turn (logs prefix entries) transaction) (logs_speak prefix entries (fresh_at_last world))
step_speaks world (request.PollStamp life) = promised_speaks (slice_index_or world.lives life None)
step_speaks world (request.PollEmpty prefix) = either_speaks (has_key_with prefix (newest world)) reply.NotYet reply.Empty refl refl
step_speaks world (request.Start prefix) = start_speaks (nat_lt (length world.started) MACHINES) world prefix
