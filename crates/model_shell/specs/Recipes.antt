-- The calls of layers: what each asks of the transaction, one call behind the other, and what is printed of it.
use Rattle.std.specs.Prelude.{ℕ, ◌==◌, Bool, true, false, if◌then◌else◌, List, [], ◌∷◌, ◌++◌, length, map, flat_map, Option, Some, None, Result, Ok, Err, codes, decimal}
use Rattle.model_lines.specs.Printing.{space}
use Rattle.model_database.specs.declared.options.RangeOptions.{RangeOptions}
use Rattle.model_database.specs.declared.mode.Mode.TheVariants.{WantAll}
use Rattle.model_database.specs.Databases.{Database, Mutation, Set, Clear, ClearRange, Atomic}
use Rattle.model_database.specs.Reads.{Read, Get, GetKey, GetKeyRange, GetRange}
use Rattle.model_database.specs.Transactions.{view}
use Rattle.fdb_tuple.specs.Tuples.{Empty, Single, Bytes}
use Rattle.fdb_tuple.specs.Spelling.{spelling}
use Rattle.fdb_calls.specs.declared.TxnCall.{TxnCall}
use Rattle.fdb_calls.specs.declared.TxnCall.TheVariants as call
use Rattle.model_machine.specs.Worlds.{World, transaction_of}
use Rattle.model_recipes.specs.declared.Count.{Count}
use Rattle.model_recipes.specs.declared.fault.RecipeFault.{RecipeFault}
use Rattle.model_recipes.specs.declared.fault.RecipeFault.TheVariants as fault
use Rattle.model_recipes.specs.Turns.{Turn, Call}
use Rattle.model_recipes.specs.Queues.{push_call, pop_call}
use Rattle.model_recipes.specs.Multimaps.{add_call, subtract_call, values_call}
use Rattle.model_recipes.specs.Blobs.{size_call, read_call, write_call}
use Rattle.model_shell.specs.declared.recipe.Recipe.{Recipe}
use Rattle.model_shell.specs.declared.recipe.Recipe.TheVariants as recipe
use Rattle.model_shell.specs.Tokens.{token}
use Rattle.model_shell.specs.Requests.{Did, says, printed_line, error_line, silent, name, called, followed}

-- ---- subspaces

-- that of the queue, the map of counts or the byte string of a name: the packed tuple of what it is and of the name
unfoldable pub space_of : (kind its_name : List ℕ) → List ℕ
space_of kind its_name = spelling (Single (Bytes kind) (Single (Bytes its_name) Empty))

abbrev pub queue_space : (queue : List ℕ) → List ℕ
queue_space queue = space_of (codes "queue") queue

abbrev pub multi_space : (multi : List ℕ) → List ℕ
multi_space multi = space_of (codes "multi") multi

abbrev pub blob_space : (blob : List ℕ) → List ℕ
blob_space blob = space_of (codes "blob") blob

-- ---- a call of a layer by calls of the transaction

abbrev pub all_options : (limit : ℕ) → (reverse : Bool) → RangeOptions
all_options limit reverse = record { limit = limit; reverse = reverse; mode = WantAll }

-- an ordinary read
abbrev pub read_of : Read → TxnCall
read_of (Get key) = call.Get key false
read_of (GetKey selector) = call.GetKey selector false
read_of (GetKeyRange begin end limit reverse) = call.GetKeyRange (record { begin = begin; end = end }) (all_options limit reverse) false
read_of (GetRange begin end limit reverse) = call.GetRange begin end (all_options limit reverse) false

-- a write; no layer here does an atomic operation, so none has a name
abbrev pub write_of : Mutation → TxnCall
write_of (Set key value) = call.Set key value
write_of (Clear key) = call.Clear key
write_of (ClearRange begin end) = call.ClearRange (record { begin = begin; end = end })
write_of (Atomic op key operand) = call.Atomic [] key operand

abbrev pub writes_behind : {X : Type 0} → Result (Turn X) RecipeFault → List TxnCall
writes_behind (Ok turn) = map write_of turn.writes
writes_behind (Err fault) = []

-- its read, and the writes behind it
abbrev pub calls_of : {X : Type 0} → Call X → List TxnCall
calls_of layer_call = read_of layer_call.read ∷ writes_behind layer_call.turn

-- calls one behind the other, until one is refused
unfoldable pub called_each : List TxnCall → World → Did
called_each [] world = says [] world
called_each (call ∷ calls) world = followed (called silent call world) (called_each calls)

-- ---- what is printed

abbrev pub fault_text : RecipeFault → List ℕ
fault_text (fault.BadKey key) = codes "BadKey"
fault_text fault.IndexEnd = codes "IndexEnd"
fault_text (fault.PastEnd size) = codes "PastEnd"
fault_text (fault.Tr code) = decimal code.0
fault_text fault.NoMemory = []

-- the end of a call of which no read or write was refused: its reply, or its fault
abbrev pub ended : {X : Type 0} → (said : X → List ℕ) → Result (Turn X) RecipeFault → World → Did
ended said (Ok turn) world = says (said turn.reply) world
ended said (Err fault) world = record { world = world; text = error_line (fault_text fault); is_refused = true }

-- the transaction of the shell's name sees a map, by which a layer asks and answers
unfoldable pub layered : {X : Type 0} → (Database → Call X) → (said : X → List ℕ) → World → Did
layered layer_call said world =
    let its = layer_call (view world.setting (transaction_of world name)) in
    followed (called_each (calls_of its) world) (ended said its.turn)

abbrev pub nothing_said : Unit {0} → List ℕ
nothing_said done = []

unfoldable pub item_said : Option (List ℕ) → List ℕ
item_said None = printed_line (codes "empty")
item_said (Some value) = printed_line (token value)

unfoldable pub count_text : Count → List ℕ
count_text count = token count.value ++ space ∷ printed_line (decimal count.count)

unfoldable pub counts_said : List Count → List ℕ
counts_said counts = if length counts == 0 then printed_line (codes "empty") else flat_map count_text counts

unfoldable pub bytes_said : List ℕ → List ℕ
bytes_said bytes = printed_line (token bytes)

unfoldable pub size_said : ℕ → List ℕ
size_said size = printed_line (decimal size)

-- ---- the calls

abbrev pub is_writing : Recipe → Bool
is_writing (recipe.Push queue value) = true
is_writing (recipe.Pop queue) = true
is_writing (recipe.Add multi key value) = true
is_writing (recipe.Subtract multi key value) = true
is_writing (recipe.Values multi key) = false
is_writing (recipe.Write blob at piece) = true
is_writing (recipe.Read blob from most) = false
is_writing (recipe.Size blob) = false

unfoldable pub recipe_done : Recipe → World → Did
recipe_done (recipe.Push queue value) = layered (push_call (queue_space queue) value) nothing_said
recipe_done (recipe.Pop queue) = layered (pop_call (queue_space queue)) item_said
recipe_done (recipe.Add multi key value) = layered (add_call (multi_space multi) key value) nothing_said
recipe_done (recipe.Subtract multi key value) = layered (subtract_call (multi_space multi) key value) nothing_said
recipe_done (recipe.Values multi key) = layered (values_call (multi_space multi) key) counts_said
recipe_done (recipe.Write blob at piece) = layered (write_call (blob_space blob) at piece) nothing_said
recipe_done (recipe.Read blob from most) = layered (read_call (blob_space blob) from most) bytes_said
recipe_done (recipe.Size blob) = layered (size_call (blob_space blob)) size_said
