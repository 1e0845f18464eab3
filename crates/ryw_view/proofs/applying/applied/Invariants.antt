use Rattle.std.proofs.Common.{◌≡◌, option_copied, drop}
use Rattle.model_database.specs.States.{all_atoms}
use Rattle.write_map.specs.Edits.{edits_of}
use Rattle.ryw_view.proofs.applying.applied.Given as goal

-- what the operations that are left make of the value so far is what all make of the value at first
abbrev pub invariant-loop-edit : goal.invariant-loop-edit
invariant-loop-edit l =
    all_atoms (edits_of (drop l.edit-index l.rest)) l.value ≡ all_atoms (edits_of l.fn.edits) (option_copied l.fn.old)
