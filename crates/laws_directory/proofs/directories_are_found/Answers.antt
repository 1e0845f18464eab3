use Rattle.laws_directory.proofs.Finding.{found_in_layer}
use Rattle.laws_directory.proofs.Insides.{done_inside, moved_inside}
use Rattle.laws_directory.proofs.Opening.{opened_is_found}
use Rattle.laws_directory.proofs.Removing.{removed_is_gone}
use Rattle.laws_directory.proofs.Staying.{all_else_stays}
use Rattle.laws_directory.proofs.directories_are_found.Goals as goal

pub returns-clause-found : goal.returns-clause-found
returns-clause-found c = found_in_layer

pub returns-clause-opened : goal.returns-clause-opened
returns-clause-opened c = opened_is_found

pub returns-clause-removed : goal.returns-clause-removed
returns-clause-removed c = removed_is_gone

pub returns-clause-others : goal.returns-clause-others
returns-clause-others c = all_else_stays

pub returns-clause-inside : goal.returns-clause-inside
returns-clause-inside c = done_inside

pub returns-clause-moved : goal.returns-clause-moved
returns-clause-moved c = moved_inside
