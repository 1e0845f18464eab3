-- Why a key was not read.
use Rattle.std.specs.Prelude.{◌≡◌, ℕ, true, false, List}
use Rattle.model_database.specs.Databases.{Mutation}
use Rattle.model_database.specs.States.{covers, unreadable}
use Rattle.ryw_view.specs.declared.fault.ViewFault.{ViewFault}
use Rattle.ryw_view.specs.declared.fault.ViewFault.TheVariants.{Unreadable, NoMemory}

-- Unreadable exactly where the mutations make the key unreadable
abbrev pub IsUnread : List Mutation → List ℕ → ViewFault → Type 0
IsUnread mutations key Unreadable = covers (unreadable mutations) key ≡ true
IsUnread mutations key NoMemory = covers (unreadable mutations) key ≡ false
