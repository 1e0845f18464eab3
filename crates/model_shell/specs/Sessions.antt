-- The table of the shell's commands, and what is printed for lines.
use Rattle.std.specs.Prelude.{ℕ, Bool, true, false, List, [], ◌∷◌, ◌++◌, Option, Some, None, codes}
use Rattle.key_bytes.specs.declared.range.KeyRange.{KeyRange}
use Rattle.model_commands.specs.declared.args.RunArgs.{RunArgs}
use Rattle.model_database.specs.declared.mode.Mode.TheVariants.{WantAll}
use Rattle.model_database.specs.declared.Api.TheVariants.{V630}
use Rattle.fdb_calls.specs.declared.TxnCall.{TxnCall}
use Rattle.fdb_calls.specs.declared.TxnCall.TheVariants as call
use Rattle.model_machine.specs.Worlds.{World, begun}
use Rattle.model_shell.specs.declared.command.Command.{Command}
use Rattle.model_shell.specs.declared.command.Command.TheVariants as command
use Rattle.model_shell.specs.Commands.{command_of}
use Rattle.model_shell.specs.declared.recipe.Recipe.{Recipe}
use Rattle.model_shell.specs.Recipes.{is_writing, recipe_done}
use Rattle.model_shell.specs.Requests.{Did, says, printed_line, error_line, value_said, pairs_said, silent, made, called, committed, followed, read_by, written_by}

-- a session: its world, and whether a transaction is open
pub record Session : Type 0 where
  pub world : World
  pub is_open : Bool

-- what a line leaves, and what is printed for it
pub record Answered : Type 0 where
  pub session : Session
  pub text : List ℕ

-- what requests did, where a transaction is open then or not
abbrev pub and_is_open : Bool → Did → Answered
and_is_open is_open did = record { session = record { world = did.world; is_open = is_open }; text = did.text }

-- a line that asks nothing of the database
abbrev pub only_says : (text : List ℕ) → Session → Answered
only_says text session = record { session = session; text = text }

-- ---- the calls

-- the pairs of a range in the order of their keys, so many at most, by the mode that wants all soon
abbrev pub range_call : KeyRange → (limit : ℕ) → TxnCall
range_call range limit = call.GetKeyRange range (record { limit = limit; reverse = false; mode = WantAll }) false

-- ---- the table: what is done while a transaction is open, and what outside

abbrev pub no_transaction : List ℕ
no_transaction = error_line (codes "No active transaction")

abbrev pub begun_by : (is_open : Bool) → Session → Answered
begun_by true session = only_says (error_line (codes "Already in transaction")) session
begun_by false session = and_is_open true (followed (made session.world) (says (printed_line (codes "Transaction started"))))

-- the transaction ends, whether the commit is refused or not
abbrev pub committed_by : (is_open : Bool) → Session → Answered
committed_by true session = and_is_open false (committed session.world)
committed_by false session = only_says no_transaction session

abbrev pub reset_by : (is_open : Bool) → Session → Answered
reset_by true session =
    and_is_open true (followed (called silent call.Reset session.world) (says (printed_line (codes "Transaction reset"))))
reset_by false session = only_says no_transaction session

-- what reads and what writes leaves a transaction open or none
abbrev pub reads : Session → (World → Did) → Answered
reads session act = and_is_open session.is_open (read_by session.is_open act session.world)

abbrev pub writes : Session → (World → Did) → Answered
writes session act = and_is_open session.is_open (written_by session.is_open act session.world)

-- a call of a layer writes or only reads
abbrev pub layer_by : (is_writing : Bool) → Session → (World → Did) → Answered
layer_by true session act = writes session act
layer_by false session act = reads session act

unfoldable pub done : Session → Command → Answered
done session command.Begin = begun_by session.is_open session
done session command.Commit = committed_by session.is_open session
done session command.Reset = reset_by session.is_open session
done session (command.Get key) = reads session (called (value_said key) (call.Get key false))
done session (command.GetRange range limit) = reads session (called pairs_said (range_call range limit))
done session (command.Set key value) = writes session (called silent (call.Set key value))
done session (command.Clear key) = writes session (called silent (call.Clear key))
done session (command.ClearRange range) = writes session (called silent (call.ClearRange range))
done session (command.Recipe recipe) = layer_by (is_writing recipe) session (recipe_done recipe)

-- ---- lines

abbrev pub done_if : Session → Option Command → Answered
done_if session (Some command) = done session command
done_if session None = only_says (error_line (codes "bad command")) session

-- one line, without its line feed
unfoldable pub answered : Session → (line : List ℕ) → Answered
answered session line = done_if session (command_of line)

-- lines, one after the other: what is printed for them, and the session behind them
unfoldable pub printed_for : Session → (lines : List (List ℕ)) → List ℕ
printed_for session [] = []
printed_for session (line ∷ lines) = (answered session line).text ++ printed_for (answered session line).session lines

unfoldable pub after_lines : Session → (lines : List (List ℕ)) → Session
after_lines session [] = session
after_lines session (line ∷ lines) = after_lines (answered session line).session lines

-- the core of a session speaks API version 630 and is loaded without pairs; each of its versions stays readable, and no machine
-- runs in it
abbrev pub shell_arguments : RunArgs
shell_arguments = record { prefix = []; api = V630; seed = 0; polls = 1; window = None }

-- the session at first: no transaction is open
abbrev pub first_session : Session
first_session = record { world = begun [] shell_arguments; is_open = false }

-- what the shell prints for lines
abbrev pub shell : (lines : List (List ℕ)) → List ℕ
shell lines = printed_for first_session lines
