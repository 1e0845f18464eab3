-- What a path leads to, as the definitions say it.
use Rattle.std.specs.Prelude.{◌≡◌, ℕ, ⊤, ◌⊎◌, ◌<◌, List, length, Option, Some, None, option_map, Result, Ok, Err}
use Rattle.directory_types.specs.declared.fault.DirFault.{DirFault}
use Rattle.model_directory.specs.Steps as steps
use Rattle.directory_nodes.specs.declared.finding.Found.{Found}

abbrev pub found_as : Found → steps.Found
found_as found = steps.found_at found.directory found.rest.now

abbrev pub found_so : Result (Option Found) DirFault → Result (Option steps.Found) DirFault
found_so (Ok found) = Ok (option_map found_as found)
found_so (Err fault) = Err fault

-- no name remains, or fewer than the path has; and nothing is found only of a path with names
abbrev pub IsLess : Result (Option Found) DirFault → (path : List (List ℕ)) → Type 0
IsLess (Ok (Some found)) path = (length found.rest.now ≡ 0) ⊎ (length found.rest.now < length path)
IsLess (Ok None) path = 0 < length path
IsLess (Err fault) path = ⊤
