use Rattle.std.proofs.Common.{◌∙◌, Ok, Err, ap, sym}
use Rattle.key_bytes.specs.Keys.{begins_with}
use Rattle.directory_types.specs.declared.fault.DirFault.TheVariants as fault
use Rattle.model_directory.specs.Steps.{begins_so}
use Rattle.directory_nodes.proofs.Insides.{none_inside, first_inside}
use Rattle.directory_nodes.proofs.in_use.is_inside.Goals as goal

pub returns-in_default : goal.returns-in_default
returns-in_default c =
    none_inside c.args.layer.now c.args.prefix.now c.as_slice.result.now c.args.pairs.now c.as_slice.ensures c.in_default.ensures.value

pub returns-in-Some-2 : goal.returns-in-Some-2
returns-in-Some-2 c =
    let prefix = c.args.prefix.now in
    let pair = c.in-Some.pair.now in
    first_inside c.args.layer.now prefix pair c.as_slice.result.now c.args.pairs.now c.as_slice.ensures c.in-Some.ensures.value
    ∙ ap (begins_so prefix pair.key) (sym c.in_ok-other.ensures ∙ c.in-Some-2.is)
    ∙ ap Ok (ap (begins_with prefix) (sym c.as_slice-in-Some-2.ensures) ∙ sym c.starts_with.ensures)

pub returns-in_ok-copy-in-None : goal.returns-in_ok-copy-in-None
returns-in_ok-copy-in-None c =
    let prefix = c.args.prefix.now in
    let pair = c.in-Some.pair.now in
    first_inside c.args.layer.now prefix pair c.as_slice.result.now c.args.pairs.now c.as_slice.ensures c.in-Some.ensures.value
    ∙ ap (begins_so prefix pair.key) (sym c.in_ok-other.ensures ∙ c.in-None.is)
    ∙ ap (λ key. Err (fault.BadNode key)) (sym c.in_ok-copy-in-None.ensures)
