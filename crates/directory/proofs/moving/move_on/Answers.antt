use Rattle.std.proofs.Common.{sym, subst}
use Rattle.std.specs.Prelude.{option_map}
use Rattle.model_directory.specs.Calls.{moves_on}
use Rattle.directory_nodes.specs.Places.{found_as}
use Rattle.directory.specs.Places.{names_so}
use Rattle.directory_nodes.specs.Runs.{Tells}
use Rattle.directory.proofs.moving.move_on.Goals as goal

pub returns-in-Some : goal.returns-in-Some
returns-in-Some c =
    subst (λ new. Tells (names_so c.move_inside.result) (moves_on (found_as c.args.old.now) (option_map found_as new))) (sym c.in-Some.is)
    c.move_inside.ensures
