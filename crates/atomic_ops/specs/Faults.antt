-- Why bytes got no versionstamp.
use Rattle.std.specs.Prelude.{◌≡◌, ℕ, true, false, List}
use Rattle.model_database.specs.declared.StampForm.{StampForm}
use Rattle.model_database.specs.States.{has_room}
use Rattle.atomic_ops.specs.declared.fault.StampFault.{StampFault}
use Rattle.atomic_ops.specs.declared.fault.StampFault.TheVariants.{NoRoom, NoMemory}

-- NoRoom exactly where they have no room for one
abbrev pub IsUnstamped : StampForm → List ℕ → StampFault → Type 0
IsUnstamped form bytes NoRoom = has_room form bytes ≡ false
IsUnstamped form bytes NoMemory = has_room form bytes ≡ true
