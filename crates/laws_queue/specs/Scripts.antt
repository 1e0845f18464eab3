-- What a transaction pushed to a queue and popped from it, as its script tells.
use Rattle.std.specs.Prelude.{◌≡◌, ℕ, ⊤, Bool, true, false, List, [], ◌∷◌, ◌++◌, Option, Some, None, Result, Ok, Err}
use Rattle.model_database.specs.Databases.{Mutation, Set, Clear}
use Rattle.model_database.specs.Histories.{Script, Entry, Wrote, HasRead, Granted, Setting}
use Rattle.model_database.specs.KeyByKey.{modifies}
use Rattle.model_database.specs.Reads.{Read, GetKeyRange, PairsAre}
use Rattle.model_database.specs.Slices.{Entries}
use Rattle.model_database.specs.States.{covers, unreadable_by}
use Rattle.model_database.specs.Transactions.{Transaction, view}
use Rattle.model_allocator.specs.Acts.{all_acted}
use Rattle.model_recipes.specs.declared.fault.RecipeFault.{RecipeFault}
use Rattle.model_recipes.specs.Turns.{Call, acts, ending, is_inside, space_begin, space_end, first_pair}
use Rattle.model_recipes.specs.Queues.{next_key, push_call, pop_call}

-- ---- scripts

-- what a push reads, the last pair of the subspace, and what a pop reads, the first
abbrev pub last_read : (space : List ℕ) → Read
last_read space = GetKeyRange (space_begin space) (space_end space) 1 true

abbrev pub first_read : (space : List ℕ) → Read
first_read space = GetKeyRange (space_begin space) (space_end space) 1 false

-- A mutation leaves the keys of a subspace alone: it writes none of them, and makes none unreadable. One with a versionstamp may come
-- to write any key that it makes unreadable.
pub record LeavesAlone (space : List ℕ) (mutation : Mutation) : Type 0 where
  pub unwritten : (key : List ℕ) → is_inside space key ≡ true → modifies key mutation ≡ false
  pub readable : (key : List ℕ) → is_inside space key ≡ true → covers (unreadable_by mutation) key ≡ false

-- so does an entry of a script that wrote no other
abbrev pub IsElsewhere : (space : List ℕ) → Entry → Type 0
IsElsewhere space (Wrote mutation adds_conflict) = LeavesAlone space mutation
IsElsewhere space (HasRead read given) = ⊤
IsElsewhere space (Granted other number from) = ⊤

-- A transaction with this script pushed these values to the queue of a subspace and popped these, each in its order, and wrote nothing
-- else there. A push with a fault of its own, and a pop of an empty queue, only read.
pub data IsOfQueue (space : List ℕ) : Script → (pushed popped : List (List ℕ)) → Type 0 where
  ends : IsOfQueue space [] [] []
  -- it read the last pair, and set the key of the next item
  pushes : (given : Entries) (key value : List ℕ) (adds_conflict : Bool) (script : Script) (pushed popped : List (List ℕ))
      → next_key space (first_pair given) ≡ Ok key → IsOfQueue space script pushed popped
      → IsOfQueue space (HasRead (last_read space) (PairsAre given) ∷ Wrote (Set key value) adds_conflict ∷ script) (value ∷ pushed) popped
  -- it read the first pair, and cleared its key
  pops : (given : Entries) (key value : List ℕ) (adds_conflict : Bool) (script : Script) (pushed popped : List (List ℕ))
      → first_pair given ≡ Some (key, value) → IsOfQueue space script pushed popped
      → IsOfQueue space (HasRead (first_read space) (PairsAre given) ∷ Wrote (Clear key) adds_conflict ∷ script) pushed (value ∷ popped)
  -- it did anything else
  does : (entry : Entry) (script : Script) (pushed popped : List (List ℕ)) → IsElsewhere space entry → IsOfQueue space script pushed popped
      → IsOfQueue space (entry ∷ script) pushed popped

-- ---- calls

-- what a push of a value pushed that ended so, and what a pop popped
abbrev pub added_by : (value : List ℕ) → Result (Unit {0}) RecipeFault → List (List ℕ)
added_by value (Ok done) = value ∷ []
added_by value (Err fault) = []

abbrev pub taken_by : Result (Option (List ℕ)) RecipeFault → List (List ℕ)
taken_by (Ok (Some value)) = value ∷ []
taken_by (Ok None) = []
taken_by (Err fault) = []

-- no read and no write of a call is refused
abbrev pub IsLetThrough : {X : Type 0} → Setting → Call X → Transaction → Type 0
IsLetThrough setting call transaction = (all_acted setting (acts call) transaction).refused ≡ None

-- the script that a call leaves
abbrev pub script_after : {X : Type 0} → Setting → Call X → Transaction → Script
script_after setting call transaction = (all_acted setting (acts call) transaction).transaction.script

-- A transaction that pushed these values and popped these, and did nothing else to the queue, does nothing else to it by a push or a
-- pop that is let through, nor by any entry elsewhere.
pub record GoesOn (setting : Setting) (space : List ℕ) (transaction : Transaction) (pushed popped : List (List ℕ)) : Type 0 where
  pub push : (value : List ℕ) → IsLetThrough setting (push_call space value (view setting transaction)) transaction
      → IsOfQueue space (script_after setting (push_call space value (view setting transaction)) transaction)
      (pushed ++ added_by value (ending (push_call space value (view setting transaction)).turn)) popped
  pub pop : IsLetThrough setting (pop_call space (view setting transaction)) transaction
      → IsOfQueue space (script_after setting (pop_call space (view setting transaction)) transaction)
      pushed (popped ++ taken_by (ending (pop_call space (view setting transaction)).turn))
  pub other : (entry : Entry) → IsElsewhere space entry → IsOfQueue space (transaction.script ++ entry ∷ []) pushed popped

abbrev pub CallsGoOn : Type 0
CallsGoOn = (setting : Setting) (space : List ℕ) (transaction : Transaction) (pushed popped : List (List ℕ))
    → IsOfQueue space transaction.script pushed popped → GoesOn setting space transaction pushed popped
