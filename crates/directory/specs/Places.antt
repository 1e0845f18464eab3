-- Where a path ends and what is moved, as the definitions say it.
use Rattle.std.specs.Prelude.{◌≡◌, ℕ, ⊤, ◌≤◌, ◌<◌, Bool, false, List, length, Option, option_map, Result, Ok, Err}
use Rattle.std.specs.Borrow.{Bor}
use Rattle.directory_types.specs.declared.fault.DirFault.{DirFault}
use Rattle.model_directory.specs.Steps as steps
use Rattle.model_directory.specs.Calls as calls
use Rattle.directory.specs.declared.moving.Move.{Move}
use Rattle.directory.specs.declared.reaching.Place.{Place}

abbrev pub place_as : Place → steps.Place
place_as place = steps.place place.layer place.path.now place.found

abbrev pub place_so : Result Place DirFault → Result steps.Place DirFault
place_so (Ok place) = Ok (place_as place)
place_so (Err fault) = Err fault

-- the path there is no longer, and where the root may not be meant, it has a name
abbrev pub IsWithin : Result Place DirFault → (path : List (List ℕ)) → (may_be_root : Bool) → Type 0
IsWithin (Ok place) path may_be_root = (length place.path.now ≤ length path) × (may_be_root ≡ false → 0 < length place.path.now)
IsWithin (Err fault) path may_be_root = ⊤

abbrev pub names_so : Result (Option (Bor (List (List ℕ)))) DirFault → Result (Option (List (List ℕ))) DirFault
names_so (Ok names) = Ok (option_map (λ names. names.now) names)
names_so (Err fault) = Err fault

abbrev pub move_as : Move → calls.Move
move_as at = record { layer = at.layer; path = at.path.now; new_path = at.new_path.now; moved = at.moved }

abbrev pub move_so : Result Move DirFault → Result calls.Move DirFault
move_so (Ok at) = Ok (move_as at)
move_so (Err fault) = Err fault

-- neither is the root
abbrev pub HasNames : Result Move DirFault → Type 0
HasNames (Ok at) = (0 < length at.path.now) × (0 < length at.new_path.now)
HasNames (Err fault) = ⊤
