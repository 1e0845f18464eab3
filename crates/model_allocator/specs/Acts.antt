-- Calls of a transaction as data, and what they leave, made one after the other until one is refused.
use Rattle.std.specs.Prelude.{ℕ, ◌+◌, Bool, false, List, [], ◌∷◌, Option, Some, None, flat_map}
use Rattle.model_database.specs.declared.Code.{Code}
use Rattle.model_database.specs.Databases.{Mutation, Set, Clear, ClearRange, Atomic}
use Rattle.model_database.specs.Histories.{Setting}
use Rattle.model_database.specs.Intervals.{one}
use Rattle.model_database.specs.Reads.{Read}
use Rattle.model_database.specs.Transactions.{Transaction}
use Rattle.fdb_calls.specs.declared.Reply.{Reply}
use Rattle.fdb_calls.specs.declared.Reply.TheVariants as reply
use Rattle.fdb_calls.specs.Calling.{Called, answers, read_called, set_called, clear_called, clear_range_called, atomic_called, no_write_conflict_called, write_conflict_called}

-- what a layer above a transaction does: it calls the transaction, or draws a random word
pub data Act : Type 0 where
  -- the next random word
  Draws : Act
  -- a read, by snapshot or not
  Reads : (read : Read) (snapshot : Bool) → Act
  Writes : (mutation : Mutation) → Act
  -- the next write adds no write conflict range
  DisablesWriteConflict : Act
  -- a key gets a write conflict range, as if it were written
  AddsWriteConflict : (key : List ℕ) → Act

abbrev pub write_called : Transaction → Mutation → Called
write_called transaction (Set key value) = set_called transaction key value
write_called transaction (Clear key) = clear_called transaction key
write_called transaction (ClearRange begin end) = clear_range_called transaction begin end
write_called transaction (Atomic op key operand) = atomic_called transaction op key operand

-- what the call answers and leaves; a word that is drawn leaves the transaction as it is
abbrev pub act_called : Setting → Transaction → Act → Called
act_called setting transaction Draws = answers transaction reply.Done
act_called setting transaction (Reads read snapshot) = read_called setting transaction false snapshot read
act_called setting transaction (Writes mutation) = write_called transaction mutation
act_called setting transaction DisablesWriteConflict = no_write_conflict_called transaction
act_called setting transaction (AddsWriteConflict key) = write_conflict_called transaction (one key)

-- the code of a call that was refused
abbrev pub refusal : Reply → Option Code
refusal (reply.Fault code) = Some code
refusal _ = None

-- how many words it draws
abbrev pub words_of : Act → ℕ
words_of Draws = 1
words_of _ = 0

-- what acts leave: the transaction, the code of the one that was refused, if one was, and how many words were drawn
pub record Acted : Type 0 where
  pub transaction : Transaction
  pub refused : Option Code
  pub words : ℕ

-- an act that was refused is the last; behind any other come these
abbrev pub acted_by : Option Code → Transaction → (words : ℕ) → (others : Acted) → Acted
acted_by (Some code) transaction words others = record { transaction = transaction; refused = Some code; words = words }
acted_by None transaction words others = record others { words = words + others.words }

-- acts in their order, each on what the one before left, until one is refused
unfoldable pub all_acted : Setting → List Act → Transaction → Acted
all_acted setting [] transaction = record { transaction = transaction; refused = None; words = 0 }
all_acted setting (act ∷ acts) transaction =
    let called = act_called setting transaction act in
    acted_by (refusal called.reply) called.transaction (words_of act) (all_acted setting acts called.transaction)

-- the mutations that acts write, in their order
abbrev pub writing : Act → List Mutation
writing Draws = []
writing (Reads read snapshot) = []
writing (Writes mutation) = mutation ∷ []
writing DisablesWriteConflict = []
writing (AddsWriteConflict key) = []

abbrev pub written_by : List Act → List Mutation
written_by acts = flat_map writing acts
