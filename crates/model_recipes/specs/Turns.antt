-- A call of a layer as data: one ordinary read, the writes behind it and its reply; and what that leaves of a transaction.
use Rattle.std.specs.Prelude.{◌≡◌, ◌⊎◌, ⊤, ℕ, Bool, false, List, [], ◌∷◌, ◌++◌, map, take, Option, Some, None, Result, Ok, Err, OnOk}
use Rattle.std.specs.FinMap as finite
use Rattle.key_bytes.specs.Keys.{within}
use Rattle.model_database.specs.declared.Code.{Code}
use Rattle.model_database.specs.Databases.{Database, Mutation}
use Rattle.model_database.specs.Histories.{Setting}
use Rattle.model_database.specs.Reads.{Read}
use Rattle.model_database.specs.Slices.{Entries, span}
use Rattle.model_database.specs.Transactions.{Transaction, view}
use Rattle.model_allocator.specs.Acts.{Act, Reads, Writes, Acted, all_acted}
use Rattle.model_recipes.specs.declared.fault.RecipeFault.{RecipeFault}
use Rattle.model_recipes.specs.declared.fault.RecipeFault.TheVariants as fault

-- ---- calls

-- what a call does behind its read: its writes in their order, and its reply
pub record Turn (X : Type 0) : Type 0 where
  pub writes : List Mutation
  pub reply : X

-- A call: the read that it makes, and its turn by what that read is answered; or the fault that it answers instead, and then it
-- writes nothing.
pub record Call (X : Type 0) : Type 0 where
  pub read : Read
  pub turn : Result (Turn X) RecipeFault

-- what was found out, and what is done by it
abbrev pub turned_by : {A X : Type 0} → (A → Turn X) → Result A RecipeFault → Result (Turn X) RecipeFault
turned_by turn (Ok found) = Ok (turn found)
turned_by turn (Err fault) = Err fault

-- a turn of one write, and one that writes nothing
abbrev pub writing : {X : Type 0} → Mutation → X → Turn X
writing mutation reply = record { writes = mutation ∷ []; reply = reply }

abbrev pub replying : {X : Type 0} → X → Turn X
replying reply = record { writes = []; reply = reply }

abbrev pub written : List Mutation → List Act
written mutations = map (λ mutation. Writes mutation) mutations

abbrev pub acts_behind : {X : Type 0} → Result (Turn X) RecipeFault → List Act
acts_behind (Ok turn) = written turn.writes
acts_behind (Err fault) = []

-- the read, which is no read by snapshot, and the writes behind it
abbrev pub acts : {X : Type 0} → Call X → List Act
acts call = Reads call.read false ∷ acts_behind call.turn

-- how a call ends of which no read or write is refused
abbrev pub ending : {X : Type 0} → Result (Turn X) RecipeFault → Result X RecipeFault
ending (Ok turn) = Ok turn.reply
ending (Err fault) = Err fault

-- what a transaction sees after a call of which no read or write is refused
abbrev pub view_after : {X : Type 0} → Setting → Call X → Transaction → Database
view_after setting call transaction = view setting (all_acted setting (acts call) transaction).transaction

-- ---- what a call answers

-- no read or write was refused, it ended so, and it stands for the transaction that is said to be left
abbrev pub EndsIn : {X : Type 0} → Result X RecipeFault → (stands : Transaction → Type 0) → Call X → Acted → Type 0
EndsIn end stands call acted = (acted.refused ≡ None) × (ending call.turn ≡ end) × stands acted.transaction

-- the last of the reads and writes that were made was refused with this code
abbrev pub RefusedIn : Code → (stands : Transaction → Type 0) → Acted → Type 0
RefusedIn code stands acted = (acted.refused ≡ Some code) × stands acted.transaction

-- it stands for the transaction after so many of the acts, each of which was let through
pub record StopsIn (setting : Setting) (stands : Transaction → Type 0) (acts : List Act) (transaction : Transaction) : Type 0 where
  pub count : ℕ
  pub let_through : (all_acted setting (take count acts) transaction).refused ≡ None
  pub left : stands (all_acted setting (take count acts) transaction).transaction

-- A call by what it answers: its reply, or a fault of its own; or the code of the first of its reads and writes that is refused.
-- Where memory ran out, it stopped among them.
abbrev pub IsAnswered : {X : Type 0} → Result X RecipeFault → Setting → (stands : Transaction → Type 0) → Call X → Transaction → Type 0
IsAnswered (Ok reply) setting stands call transaction = EndsIn (Ok reply) stands call (all_acted setting (acts call) transaction)
IsAnswered (Err (fault.BadKey key)) setting stands call transaction =
    EndsIn (Err (fault.BadKey key)) stands call (all_acted setting (acts call) transaction)
IsAnswered (Err fault.IndexEnd) setting stands call transaction =
    EndsIn (Err fault.IndexEnd) stands call (all_acted setting (acts call) transaction)
IsAnswered (Err (fault.PastEnd size)) setting stands call transaction =
    EndsIn (Err (fault.PastEnd size)) stands call (all_acted setting (acts call) transaction)
IsAnswered (Err (fault.Tr code)) setting stands call transaction = RefusedIn code stands (all_acted setting (acts call) transaction)
IsAnswered (Err fault.NoMemory) setting stands call transaction = StopsIn setting stands (acts call) transaction

-- ---- the keys of a subspace, where this is its prefix

-- the range of the packed tuples behind a prefix
abbrev pub space_begin : (space : List ℕ) → List ℕ
space_begin space = space ++ 0 ∷ []

abbrev pub space_end : (space : List ℕ) → List ℕ
space_end space = space ++ 255 ∷ []

abbrev pub is_inside : (space key : List ℕ) → Bool
is_inside space key = within (space_begin space) (space_end space) key

-- its pairs, in the order of their keys
abbrev pub pairs_of : (space : List ℕ) → Database → Entries
pairs_of space database = span database (space_begin space) (space_end space) false

-- the first of some pairs, where there is one
abbrev pub first_pair : Entries → Option (List ℕ × List ℕ)
first_pair [] = None
first_pair (pair ∷ pairs) = Some pair

-- after each so many first of these acts every other key is seen as before
abbrev pub KeepsOthers : (space : List ℕ) → Setting → List Act → Transaction → Type 0
KeepsOthers space setting acts transaction =
    (count : ℕ) (key : List ℕ) → is_inside space key ≡ false
    → finite.get (view setting (all_acted setting (take count acts) transaction).transaction) key ≡ finite.get (view setting transaction) key

-- after each so many first of these acts every key is seen as before
abbrev pub KeepsAll : Setting → List Act → Transaction → Type 0
KeepsAll setting acts transaction =
    (count : ℕ) → view setting (all_acted setting (take count acts) transaction).transaction ≡ view setting transaction
