-- The world, which all machines share, and the step that a request makes in it.
use Rattle.std.specs.Prelude.{◌≡◌, ℕ, ◌+◌, ◌==◌, nat_lt, Bool, true, false, if◌then◌else◌, List, [], ◌∷◌, ◌++◌, length, replicate, slice_set, slice_index_or, Option, Some, None, Result, Ok, Err, unwrap_or, is_some}
use Rattle.std.specs.FinMap as finite
use Rattle.std.specs.List.{filter, list_any}
use Rattle.key_bytes.specs.Keys.{begins_with, key_cmp, within}
use Rattle.model_database.specs.declared.options.DatabaseOptions.{DatabaseOptions}
use Rattle.model_database.specs.Databases.{Database}
use Rattle.model_database.specs.Histories.{Setting, at, last, loaded, grown_by}
use Rattle.model_database.specs.Slices.{Entries}
use Rattle.fdb_tuple.specs.Tuples.{Bytes, Empty, Single}
use Rattle.fdb_tuple.specs.Spelling.{spelling}
use Rattle.model_machine.specs.declared.TheConstants.{MACHINES}
use Rattle.model_commands.specs.declared.args.RunArgs.{RunArgs}
use Rattle.outside.specs.Seeds.{words_of_seed}
use Rattle.model_database.specs.Transactions.{Transaction, fresh, with_version}
use Rattle.model_database.specs.declared.TheConstants.{TRANSACTION_CANCELLED}
use Rattle.directory_types.specs.declared.Layer.{Layer}
use Rattle.directory_types.specs.declared.DirArgs.{DirArgs}
use Rattle.directory_types.specs.declared.DirKind.{DirKind}
use Rattle.directory_types.specs.declared.DirReply.{DirReply}
use Rattle.directory_types.specs.declared.fault.DirFault.{DirFault}
use Rattle.directory_types.specs.declared.fault.DirFault.TheVariants as fault
use Rattle.model_directory.specs.Courses.{Reached}
use Rattle.model_directory.specs.Calls.{effect}
use Rattle.fdb_calls.specs.declared.Outcome.{Outcome}
use Rattle.fdb_calls.specs.declared.Outcome.TheVariants as outcome
use Rattle.fdb_calls.specs.Outcomes.{outcome_of}
use Rattle.fdb_calls.specs.declared.TxnCall.{TxnCall}
use Rattle.fdb_calls.specs.declared.TxnCall.TheVariants as call
use Rattle.fdb_calls.specs.declared.Request.{Request}
use Rattle.fdb_calls.specs.declared.Request.TheVariants as request
use Rattle.fdb_calls.specs.declared.Reply.{Reply}
use Rattle.fdb_calls.specs.declared.Reply.TheVariants as reply
use Rattle.fdb_calls.specs.Calling.{Called, code_of, called, is_fault, in_turn, logs}

-- ---- the world

-- transactions by their names
abbrev pub Transactions : Type 0
Transactions = finite.FinMap key_cmp Transaction

pub record World : Type 0 where
  -- the history so far, and what the database was opened with
  pub setting : Setting
  pub transactions : Transactions
  -- what became of each life that was drawn, at its number, once it is decided
  pub lives : List (Option Outcome)
  -- the prefixes of the machines that were started, by their numbers
  pub started : List (List ℕ)
  -- the random words still to come, by their places from 0
  pub words : ℕ → ℕ

-- what the arguments of a run open the database with
abbrev pub database_options : RunArgs → DatabaseOptions
database_options arguments = record { api = arguments.api; window = arguments.window }

-- the setting at the beginning, where the pairs of the input are the first commit
abbrev pub setting_of : List (List ℕ × List ℕ) → RunArgs → Setting
setting_of pairs arguments = record { history = loaded pairs ∷ []; options = database_options arguments }

-- the world at the beginning: no name has a transaction, machine 0 was started under the prefix, and the random words are those
-- of the seed
abbrev pub begun : List (List ℕ × List ℕ) → RunArgs → World
begun pairs arguments = record {
  setting = setting_of pairs arguments;
  transactions = finite.empty;
  lives = [];
  started = arguments.prefix ∷ [];
  words = words_of_seed arguments.seed;
}

-- the map at the last version
abbrev pub newest : World → Database
newest world = at world.setting.history (last world.setting.history)

-- the number of the next life
abbrev pub next_life : World → ℕ
next_life world = length world.lives

-- these are the random words still to come
abbrev pub HasWords : World → (ℕ → ℕ) → Type 0
HasWords world words = (place : ℕ) → words place ≡ world.words place

-- ---- the step of a request

-- the world after a step, and the reply that is fixed there
pub record Stepped : Type 0 where
  pub world : World
  pub reply : Reply

-- a transaction stands under a name from now on
abbrev pub with_transaction : World → List ℕ → Transaction → World
with_transaction world name transaction = record world { transactions = finite.insert world.transactions name transaction }

-- ---- lives

-- so many lives more, which aren't decided yet
abbrev pub with_lives : List (Option Outcome) → ℕ → List (Option Outcome)
with_lives lives count = lives ++ replicate count None

abbrev pub first_of : Option Outcome → Option Outcome → Option Outcome
first_of (Some outcome) other = Some outcome
first_of None other = other

-- a life is decided so, unless it is decided already
abbrev pub decide : ℕ → Option Outcome → List (Option Outcome) → List (Option Outcome)
decide life outcome lives = slice_set lives life (first_of (slice_index_or lives life None) outcome)

-- what becomes of the life of a transaction by what stands in its place then: another life ends it
abbrev pub outcome_after : (before after : Transaction) → Option Outcome
outcome_after before after = if before.life == after.life then outcome_of after.phase else Some (outcome.Lacks (code_of TRANSACTION_CANCELLED))

-- the lives after so many more, where this transaction stands in the place of that one
abbrev pub lives_after : List (Option Outcome) → ℕ → (before after : Transaction) → List (Option Outcome)
lives_after lives count before after = decide before.life (outcome_after before after) (with_lives lives count)

-- ---- named transactions

-- the transaction of a name, a fresh one where the name has none
abbrev pub transaction_of : World → List ℕ → Transaction
transaction_of world name = unwrap_or (finite.get world.transactions name) (fresh (next_life world))

-- a transaction of a new life stands under a name, and ends the life of the one that stood there
abbrev pub with_new : World → List ℕ → World
with_new world name = record (with_transaction world name (fresh (next_life world))) {
  lives = lives_after world.lives 1 (transaction_of world name) (fresh (next_life world));
}

-- a name that has no transaction gets one
abbrev pub with_named : World → List ℕ → World
with_named world name = if is_some (finite.get world.transactions name) then world else with_new world name

-- what a call on the transaction of a name leaves
abbrev pub stepped : World → List ℕ → Called → Stepped
stepped world name called = record {
  world = record world {
    setting = grown_by world.setting called.commits;
    transactions = finite.insert world.transactions name called.transaction;
    lives = lives_after world.lives called.lives (transaction_of world name) called.transaction;
  };
  reply = called.reply;
}

abbrev pub call_named : World → List ℕ → TxnCall → Stepped
call_named world name call = stepped world name (called world.setting (next_life world) (transaction_of world name) call)

-- ---- transactions of their own

-- a transaction of its own, at the last version
abbrev pub fresh_at_last : World → Transaction
fresh_at_last world = with_version world.setting (fresh (next_life world))

-- the world after a call on a transaction that stands under no name
abbrev pub called_apart : World → (before : Transaction) → Called → World
called_apart world before called = record world {
  setting = grown_by world.setting called.commits;
  lives = lives_after world.lives called.lives before called.transaction;
}

-- the call's fault, else the commit's, else the call's reply; nothing is committed after a fault
abbrev pub database_by : Bool → (made : World) → Called → Called → Stepped
database_by true made called committed = record { world = made; reply = called.reply }
database_by false made called committed = record {
  world = called_apart made called.transaction committed;
  reply = if is_fault committed.reply then committed.reply else called.reply;
}

abbrev pub commit_made : World → Called → Stepped
commit_made made called' =
    database_by (is_fault called'.reply) made called' (called made.setting (next_life made) called'.transaction call.Commit)

-- a call on a transaction of its own, whose life is drawn first, and its commit
abbrev pub and_commit : World → (World → Transaction → Called) → Stepped
and_commit world made =
    let drawn = record world { lives = with_lives world.lives 1 } in
    let called' = made drawn (fresh_at_last world) in
    commit_made (called_apart drawn (fresh_at_last world) called') called'

-- ---- directories

-- what a call of a directory layer answered
abbrev pub directory_reply : Result DirReply DirFault → Reply
directory_reply (Ok answer) = reply.Dir answer
directory_reply (Err fault) = reply.DirFault fault

-- such a call on a transaction
abbrev pub directory_called : Reached DirReply → Called
directory_called reached = record { transaction = reached.transaction; commits = []; lives = 0; reply = directory_reply reached.end }

-- so many of the random words were drawn
abbrev pub with_drawn : World → (count : ℕ) → World
with_drawn world count = record world { words = λ place. world.words (count + place) }

-- on the transaction of a name
abbrev pub directory_named : World → (name : List ℕ) → DirKind → Layer → DirArgs → Stepped
directory_named world name kind layer args =
    let reached = effect kind layer args world.setting world.words (transaction_of world name) in
    stepped (with_drawn world reached.words) name (directory_called reached)

-- a commit that is refused refuses the call
abbrev pub refusing : Reply → Reply
refusing (reply.Fault code) = reply.DirFault (fault.Tr code)
refusing reply = reply

-- on a transaction of its own, which is committed where the call wasn't refused
abbrev pub directory_alone : World → DirKind → Layer → DirArgs → Stepped
directory_alone world kind layer args =
    let reached = effect kind layer args world.setting world.words (fresh_at_last world) in
    let made = and_commit (with_drawn world reached.words) (λ drawn transaction. directory_called reached) in
    record made { reply = refusing made.reply }

abbrev pub directory_step : World → Option (List ℕ) → DirKind → Layer → DirArgs → Stepped
directory_step world (Some name) kind layer args = directory_named (with_named world name) name kind layer args
directory_step world None kind layer args = directory_alone world kind layer args

-- ---- promises

-- the reply to a poll
abbrev pub promised : Option Outcome → Reply
promised None = reply.NotYet
promised (Some (outcome.HasStamp stamp)) = reply.Stamp stamp
promised (Some (outcome.Lacks code)) = reply.Fault code

-- ---- machines

-- whether a key begins with a prefix
abbrev pub has_key_with : (prefix : List ℕ) → Database → Bool
has_key_with prefix database = list_any (λ entry. begins_with entry.0 prefix) (finite.entries database)

-- the packed tuple of a prefix alone, with which the keys of its instructions begin
abbrev pub packed_prefix : List ℕ → List ℕ
packed_prefix prefix = spelling (Single (Bytes prefix) Empty)

-- the pairs of the instructions of a prefix: those in the range of the tuples that begin with it
abbrev pub instruction_pairs : (prefix : List ℕ) → Database → Entries
instruction_pairs prefix database =
    filter (λ entry. within (packed_prefix prefix ++ 0 ∷ []) (packed_prefix prefix ++ 255 ∷ []) entry.0) (finite.entries database)

-- one more machine, whose instructions are those of its prefix at the last version; none where there are as many as may be
abbrev pub start_by : Bool → World → (prefix : List ℕ) → Stepped
start_by true world prefix = record {
  world = record world { started = world.started ++ prefix ∷ [] };
  reply = reply.Started (length world.started) (instruction_pairs prefix (newest world));
}
start_by false world prefix = record { world = world; reply = reply.NoMachine }

unfoldable pub step : World → Request → Stepped
step world (request.New name) = record { world = with_new world name; reply = reply.Done }
step world (request.On name call) = call_named (with_named world name) name call
step world (request.Database call) = and_commit world (λ drawn transaction. called drawn.setting (next_life drawn) transaction call)
step world (request.Directory name layer kind args) = directory_step world name kind layer args
step world (request.Log prefix entries) = and_commit world (λ drawn transaction. in_turn (logs prefix entries) transaction)
step world (request.PollStamp life) = record { world = world; reply = promised (slice_index_or world.lives life None) }
step world (request.PollEmpty prefix) =
    record { world = world; reply = if has_key_with prefix (newest world) then reply.NotYet else reply.Empty }
step world (request.Start prefix) = start_by (nat_lt (length world.started) MACHINES) world prefix
