-- What holds of a core while memory never ran out.
use Rattle.std.specs.Prelude.{◌≡◌, ℕ, ◌≤◌, if◌then◌else◌, List, length, Option, Result, Ok, Err}
use Rattle.fdb_calls.specs.declared.fault.TrFault.{TrFault}
use Rattle.fdb_calls.specs.declared.fault.TrFault.TheVariants as fault
use Rattle.fdb_calls.specs.declared.Reply.{Reply}
use Rattle.fdb_calls.specs.declared.Reply.TheVariants as reply
use Rattle.fdb_calls.specs.declared.TxnCall.{TxnCall}
use Rattle.fdb_calls.specs.declared.Outcome.{Outcome}
use Rattle.model_database.specs.declared.options.DatabaseOptions.{DatabaseOptions}
use Rattle.model_database.specs.Histories.{Setting, last}
use Rattle.model_database.specs.Transactions.{Transaction}
use Rattle.fdb_calls.specs.Calling.{Called, called}
use Rattle.model_machine.specs.Worlds.{World, Stepped, HasWords, called_apart, decide, with_lives}
use Rattle.conflict_ranges.specs.Writes.{Index}
use Rattle.version_store.specs.Versions.{Versions}
use Rattle.txn_core.specs.Stands as txn
use Rattle.txn_core.specs.declared.answer.Answer.{Answer}
use Rattle.client_core.specs.Stands.{ContentsModel, KeepsWorld}
use Rattle.client_core.specs.Lives.{outcome_by}

-- A core stands for some world, whose history has at most this many commits.
pub record IsSound (core : ContentsModel) (commits : ℕ) : Type 0 where
  pub world : World
  pub stands : KeepsWorld core world
  pub few_commits : last world.setting.history ≤ commits

-- the reply is that of a step, and the core stands for its world
pub record Took (reply : Reply) (core : ContentsModel) (stepped : Stepped) : Type 0 where
  pub reply_is : reply ≡ stepped.reply
  pub stands : KeepsWorld core stepped.world

-- the same of a step that may start a machine or draw random words: the machines that were started, and the words still to come,
-- are those of its world
pub record TookWhole (reply : Reply) (core : ContentsModel) (started : List (List ℕ)) (words : ℕ → ℕ) (stepped : Stepped) : Type 0 where
  pub took : Took reply core stepped
  pub started_is : started ≡ stepped.world.started
  pub has_words : HasWords stepped.world words

-- the store and the index keep the history of each world for which these contents stood
abbrev pub StillKeeps : (old new : ContentsModel) → Type 0
StillKeeps old new = (world : World) → KeepsWorld old world → txn.Keeps new.store new.index world.setting

-- the same where a transaction under no name was called, which stood so, in a database with these options
abbrev pub StillKeepsOf : DatabaseOptions → (before : txn.Kept) → (store store_left : Versions) → (index index_left : Index) → Type 0
StillKeepsOf options before store store_left index index_left = (transaction : Transaction) (setting : Setting)
    → txn.StandsFor before transaction → txn.Keeps store index setting → setting.options ≡ options → txn.Keeps store_left index_left setting

-- the same of a step that may draw random words: those still to come are that world's
pub record TookDrawing (reply : Reply) (core : ContentsModel) (words : ℕ → ℕ) (stepped : Stepped) : Type 0 where
  pub took : Took reply core stepped
  pub has_words : HasWords stepped.world words

-- the same of a call on a transaction that stands under no name, which was this one before
pub record TookApart (reply : Reply) (kept : txn.Kept) (core : ContentsModel) (world : World) (before : Transaction) (called : Called) : Type 0 where
  pub reply_is : reply ≡ called.reply
  pub stands : txn.StandsFor kept called.transaction
  pub world_stands : KeepsWorld core (called_apart world before called)

-- A call on a transaction that was kept so was replied to so in a database with these options: what is left of it, of the store, of
-- the index, and of what became of each life.
pub record MadeOn (options : DatabaseOptions) (call : TxnCall) (reply : Reply) (before left : txn.Kept) (store store_left : Versions) (index index_left : Index)
    (lives lives_left : List (Option Outcome)) : Type 0 where
  pub answer : Answer
  pub reply_is : reply ≡ answer.reply
  pub answers : (transaction : Transaction) (setting : Setting) → txn.StandsFor before transaction → txn.Keeps store index setting
      → setting.options ≡ options
      → txn.Answers answer left store_left index_left setting (called setting (length lives) transaction call)
  pub lives_are : lives_left ≡ decide before.life (outcome_by before.life left.life left.phase)
      (with_lives lives (if answer.drew_life then 1 else 0))

-- writes are replied to as they were answered
abbrev pub Replies : {A : Type 0} → Result A TrFault → Reply → Type 0
Replies (Ok _) replied = replied ≡ reply.Done
Replies (Err (fault.Code code)) replied = replied ≡ reply.Fault code
Replies (Err fault.NoMemory) replied = ⊥
