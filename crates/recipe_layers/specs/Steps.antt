-- What the steps of a call did: its read, what is found out by it, and its writes.
use Rattle.std.specs.Prelude.{◌≡◌, ⊤, ℕ, false, List, Option, Some, None, Result, Ok, Err}
use Rattle.key_bytes.specs.declared.pairs.Pair.{Pair}
use Rattle.key_bytes.specs.Entries.{entry_of}
use Rattle.model_database.specs.Databases.{Mutation}
use Rattle.model_database.specs.Histories.{Setting}
use Rattle.model_database.specs.Reads.{Read}
use Rattle.model_database.specs.Transactions.{Transaction}
use Rattle.model_allocator.specs.Acts.{Reads, act_called, all_acted, refusal}
use Rattle.model_recipes.specs.declared.fault.RecipeFault.{RecipeFault}
use Rattle.model_recipes.specs.declared.fault.RecipeFault.TheVariants as fault
use Rattle.model_recipes.specs.Turns.{RefusedIn, StopsIn, written}

-- a pair, as contracts see it
abbrev pub pair_of : Option Pair → Option (List ℕ × List ℕ)
pair_of None = None
pair_of (Some pair) = Some (entry_of pair)

-- The read was let through, what is answered is good, and it stands for the transaction behind the read; or the read was refused
-- with this code; or memory ran out before it.
abbrev pub IsRead : {A : Type 0} → (good : A → Type 0) → Result A RecipeFault → Setting → (stands : Transaction → Type 0) → Read → Transaction
    → Type 0
IsRead good (Ok value) setting stands read t =
    let called = act_called setting t (Reads read false) in
    (refusal called.reply ≡ None) × good value × stands called.transaction
IsRead good (Err (fault.Tr code)) setting stands read t =
    let called = act_called setting t (Reads read false) in
    (refusal called.reply ≡ Some code) × stands called.transaction
IsRead good (Err fault.NoMemory) setting stands read t = stands t
IsRead good (Err (fault.BadKey key)) setting stands read t = ⊥
IsRead good (Err fault.IndexEnd) setting stands read t = ⊥
IsRead good (Err (fault.PastEnd size)) setting stands read t = ⊥

-- what was found out is what is said, unless memory ran out; no code comes here
abbrev pub Tells : {A : Type 0} → Result A RecipeFault → (said : Result A RecipeFault) → Type 0
Tells (Ok value) said = said ≡ Ok value
Tells (Err fault.NoMemory) said = ⊤
Tells (Err (fault.BadKey key)) said = said ≡ Err (fault.BadKey key)
Tells (Err fault.IndexEnd) said = said ≡ Err fault.IndexEnd
Tells (Err (fault.PastEnd size)) said = said ≡ Err (fault.PastEnd size)
Tells (Err (fault.Tr code)) said = ⊥

-- Each of these writes was let through; or one of them was refused with this code; or memory ran out, and it stopped among them.
abbrev pub IsWritten : Result (Unit {0}) RecipeFault → Setting → (stands : Transaction → Type 0) → List Mutation → Transaction → Type 0
IsWritten (Ok done) setting stands mutations t =
    let acted = all_acted setting (written mutations) t in
    (acted.refused ≡ None) × stands acted.transaction
IsWritten (Err (fault.Tr code)) setting stands mutations t = RefusedIn code stands (all_acted setting (written mutations) t)
IsWritten (Err fault.NoMemory) setting stands mutations t = StopsIn setting stands (written mutations) t
IsWritten (Err (fault.BadKey key)) setting stands mutations t = ⊥
IsWritten (Err fault.IndexEnd) setting stands mutations t = ⊥
IsWritten (Err (fault.PastEnd size)) setting stands mutations t = ⊥
