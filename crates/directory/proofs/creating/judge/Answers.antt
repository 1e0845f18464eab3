use Rattle.std.proofs.Common.{◌≡◌, ℕ, true, false, List, Option, None, Ok, Err, refl, sym, ap, subst, ◌∙◌}
use Rattle.directory_types.specs.declared.fault.DirFault.TheVariants as fault
use Rattle.model_directory.specs.declared.Directory.{Directory}
use Rattle.model_directory.specs.declared.OpenOptions.{OpenOptions}
use Rattle.model_directory.specs.Calls.{judged}
use Rattle.directory_nodes.specs.Runs.{Tells}
use Rattle.directory.proofs.creating.judge.Goals as goal

-- none is there, and one may be created, or may not
to_be_made : (options : OpenOptions) (layer_name : Option (List ℕ)) (found : Option Directory) → found ≡ None → options.may_create ≡ true
    → judged options layer_name found ≡ Ok None
to_be_made options layer_name found none may = ap (judged options layer_name) none ∙ rw may refl

not_made : (options : OpenOptions) (layer_name : Option (List ℕ)) (found : Option Directory) → found ≡ None → options.may_create ≡ false
    → judged options layer_name found ≡ Err fault.Missing
not_made options layer_name found none may = ap (judged options layer_name) none ∙ rw may refl

pub returns-in-Some : goal.returns-in-Some
returns-in-Some c =
    subst (λ (found : Option Directory). Tells c.open_found.result (judged c.args.options c.args.layer_name.now found)) (sym c.in-Some.is)
    c.open_found.ensures

pub returns-in-None : goal.returns-in-None
returns-in-None c = to_be_made c.args.options c.args.layer_name.now c.args.found c.in-None.is c.if-options.true

pub returns-in-None-2 : goal.returns-in-None-2
returns-in-None-2 c = not_made c.args.options c.args.layer_name.now c.args.found c.in-None-2.is c.if-options.false
