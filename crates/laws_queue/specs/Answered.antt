-- What calls of the layers answered, over the commits: where a transaction that made one runs whole at its commit, the call is the one
-- that it would be on the database that the commits before it left.
use Rattle.std.specs.Prelude.{◌≡◌, ℕ, List, [], ◌++◌, None, Ok}
use Rattle.model_database.specs.Databases.{Database}
use Rattle.model_database.specs.Histories.{Script, Setting, written}
use Rattle.model_database.specs.States.{seen}
use Rattle.model_database.specs.Transactions.{Transaction, view}
use Rattle.laws_history.specs.Whole.{RunsWhole}
use Rattle.model_recipes.specs.Turns.{Call, ending}
use Rattle.model_recipes.specs.Queues.{push_call, pop_call, queue_of}
use Rattle.model_recipes.specs.Multimaps.{add_call, subtract_call, values_call}
use Rattle.model_recipes.specs.Blobs.{size_call, read_call, write_call}
use Rattle.laws_queue.specs.Scripts.{IsLetThrough, script_after}

-- A transaction made this call, of which nothing was refused, and its script grew further; run whole over a database, the script gets its
-- answers. Then the call that was made is the one on that database behind the transaction's writes before it: it has the same read, the
-- same writes, and the same reply or fault.
abbrev pub IsTheCallAtCommit : {X : Type 0} → (call : Database → Call X) → Type 0
IsTheCallAtCommit call = (setting : Setting) (transaction : Transaction) (more : Script) (database : Database)
    → IsLetThrough setting (call (view setting transaction)) transaction
    → RunsWhole database (script_after setting (call (view setting transaction)) transaction ++ more)
    → call (view setting transaction) ≡ call (seen (written transaction.script) database)

-- so it is with each call of each layer, whatever else the transaction does
pub record AreTheCallsAtCommit : Type 0 where
  pub push : (space value : List ℕ) → IsTheCallAtCommit (push_call space value)
  pub pop : (space : List ℕ) → IsTheCallAtCommit (pop_call space)
  pub add : (space key value : List ℕ) → IsTheCallAtCommit (add_call space key value)
  pub subtract : (space key value : List ℕ) → IsTheCallAtCommit (subtract_call space key value)
  pub values : (space key : List ℕ) → IsTheCallAtCommit (values_call space key)
  pub size : (space : List ℕ) → IsTheCallAtCommit (size_call space)
  pub read : (space : List ℕ) (from most : ℕ) → IsTheCallAtCommit (read_call space from most)
  pub write : (space : List ℕ) (at : ℕ) (piece : List ℕ) → IsTheCallAtCommit (write_call space at piece)

-- a pop answers that there is no item exactly where the queue is empty
abbrev pub AreNonePopped : Type 0
AreNonePopped = (space : List ℕ) (database : Database)
    → (ending (pop_call space database).turn ≡ Ok None → queue_of space database ≡ [])
    × (queue_of space database ≡ [] → ending (pop_call space database).turn ≡ Ok None)
