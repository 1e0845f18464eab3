-- What a core stands for.
use Rattle.std.specs.Prelude.{◌≡◌, ℕ, ◌+◌, ◌≤◌, ⊤, Bool, true, false, List, length, Option, Some, None}
use Rattle.std.specs.FinMap as finite
use Rattle.fdb_calls.specs.declared.Outcome.{Outcome}
use Rattle.fdb_calls.specs.declared.Reply.{Reply}
use Rattle.fdb_calls.specs.declared.Reply.TheVariants as reply
use Rattle.key_bytes.specs.Keys.{key_cmp}
use Rattle.model_database.specs.declared.options.DatabaseOptions.{DatabaseOptions}
use Rattle.model_database.specs.Histories.{Setting}
use Rattle.model_database.specs.Transactions.{Transaction}
use Rattle.model_machine.specs.Worlds.{World, Stepped, HasWords}
use Rattle.model_machine.specs.declared.TheConstants.{MACHINES}
use Rattle.conflict_ranges.specs.Writes.{Index}
use Rattle.version_store.specs.Versions.{Versions}
use Rattle.txn_core.specs.Stands as txn

-- what is kept of transactions, by their names
abbrev pub KeptTransactions : Type 0
KeptTransactions = finite.FinMap key_cmp txn.Kept

-- what a core keeps of the database: what it was opened with, the store of its versions, the conflict set, the transactions by name,
-- what became of each life that was drawn, and how many requests it took
pub record ContentsModel : Type 0 where
  pub options : DatabaseOptions
  pub store : Versions
  pub index : Index
  pub transactions : KeptTransactions
  pub lives : List (Option Outcome)
  pub applied : ℕ

-- the same, the prefixes of the machines that were started, by their numbers, and whether memory ran out: a core that is spent
-- answers each request with NoMemory
pub record CoreModel : Type 0 where
  pub options : DatabaseOptions
  pub store : Versions
  pub index : Index
  pub transactions : KeptTransactions
  pub lives : List (Option Outcome)
  pub applied : ℕ
  pub started : List (List ℕ)
  pub is_spent : Bool

abbrev pub contents_in : CoreModel → ContentsModel
contents_in core = record {
  options = core.options;
  store = core.store;
  index = core.index;
  transactions = core.transactions;
  lives = core.lives;
  applied = core.applied;
}

-- both are none, or the first stands for the second
abbrev pub AreAlike : Option txn.Kept → Option Transaction → Type 0
AreAlike None None = ⊤
AreAlike None (Some transaction) = ⊥
AreAlike (Some kept) None = ⊥
AreAlike (Some kept) (Some transaction) = txn.StandsFor kept transaction

-- The store and the index keep the history of a world with the same options, in which the same became of each life, and in which
-- each name has a transaction that the kept one stands for, or none where none is kept.
pub record KeepsWorld (contents : ContentsModel) (world : World) : Type 0 where
  pub options : contents.options ≡ world.setting.options
  pub keeps : txn.Keeps contents.store contents.index world.setting
  pub transactions : (name : List ℕ) → AreAlike (finite.get contents.transactions name) (finite.get world.transactions name)
  pub lives : contents.lives ≡ world.lives

-- A core stands for each world that it keeps so, and in which the same machines were started.
pub record StandsFor (core : CoreModel) (world : World) : Type 0 where
  pub contents : KeepsWorld (contents_in core) world
  pub started : core.started ≡ world.started

-- the reply is that of a step, the core stands for its world, and the words still to come are that world's; or memory ran
-- out, and nothing is said of the core and of the words
abbrev pub Answers : Reply → CoreModel → (ℕ → ℕ) → Stepped → Type 0
Answers reply.Done core words stepped = (stepped.reply ≡ reply.Done) × StandsFor core stepped.world × HasWords stepped.world words
Answers (reply.Value value) core words stepped =
    (stepped.reply ≡ reply.Value value) × StandsFor core stepped.world × HasWords stepped.world words
Answers (reply.KeyIs key) core words stepped =
    (stepped.reply ≡ reply.KeyIs key) × StandsFor core stepped.world × HasWords stepped.world words
Answers (reply.PairsAre pairs) core words stepped =
    (stepped.reply ≡ reply.PairsAre pairs) × StandsFor core stepped.world × HasWords stepped.world words
Answers (reply.Version version) core words stepped =
    (stepped.reply ≡ reply.Version version) × StandsFor core stepped.world × HasWords stepped.world words
Answers (reply.Life life) core words stepped =
    (stepped.reply ≡ reply.Life life) × StandsFor core stepped.world × HasWords stepped.world words
Answers (reply.Stamp stamp) core words stepped =
    (stepped.reply ≡ reply.Stamp stamp) × StandsFor core stepped.world × HasWords stepped.world words
Answers reply.NotYet core words stepped = (stepped.reply ≡ reply.NotYet) × StandsFor core stepped.world × HasWords stepped.world words
Answers (reply.Fault code) core words stepped =
    (stepped.reply ≡ reply.Fault code) × StandsFor core stepped.world × HasWords stepped.world words
Answers reply.Empty core words stepped = (stepped.reply ≡ reply.Empty) × StandsFor core stepped.world × HasWords stepped.world words
Answers (reply.Started machine instructions) core words stepped =
    (stepped.reply ≡ reply.Started machine instructions) × StandsFor core stepped.world × HasWords stepped.world words
Answers (reply.Dir answer) core words stepped =
    (stepped.reply ≡ reply.Dir answer) × StandsFor core stepped.world × HasWords stepped.world words
Answers (reply.DirFault fault) core words stepped =
    (stepped.reply ≡ reply.DirFault fault) × StandsFor core stepped.world × HasWords stepped.world words
Answers reply.NoMachine core words stepped = (stepped.reply ≡ reply.NoMachine) × StandsFor core stepped.world × HasWords stepped.world words
Answers reply.NoMemory core words stepped = ⊤

-- a reply that memory ran out
abbrev pub is_no_memory : Reply → Bool
is_no_memory reply.NoMemory = true
is_no_memory _ = false

-- the second core keeps each history that the first one kept: its store has the same map at each version that can be read, and its
-- index has for each key the same newest commit behind the oldest of them
abbrev pub KeepsHistory : (old new : CoreModel) → Type 0
KeepsHistory old new = (setting : Setting) → txn.Keeps old.store old.index setting → txn.Keeps new.store new.index setting

-- how many machines were started before and after a request that starts one under this prefix, or starts none
abbrev pub HasStarted : (prefix : Option (List ℕ)) → Reply → (old new : List (List ℕ)) → Type 0
HasStarted None given old new = length new ≡ length old
HasStarted (Some prefix) (reply.Started machine instructions) old new = (length new ≡ length old + 1) × (length new ≤ MACHINES)
HasStarted (Some prefix) reply.NoMemory old new = ⊤
HasStarted (Some prefix) given old new = length new ≡ length old
