use Rattle.std.proofs.Common.{◌<◌, arith}
use Rattle.std.proofs.lemmas.List.Elements.{All-from_get_or}
use Rattle.machine_instructions.proofs.Names.{push_found, push_string}
use Rattle.machine_instructions.proofs.instruction.pushed_element.Goals as goal

pub returns-in-Ok-clause-pushes : goal.returns-in-Ok-clause-pushes
returns-in-Ok-clause-pushes c =
    push_found c.args.value.now c.in-Some.rest.now c.in-Ok.tuple c.into_vec.result.items c.only_element.result c.in-Some.ensures.cases.0
    c.in-Some.ensures.cases.1 c.in-Ok.ensures.found.0 c.in-Ok.ensures.found.1 c.into_vec.ensures.elements c.only_element.ensures

pub returns-in-Some-lone_string-clause-pushes : goal.returns-in-Some-lone_string-clause-pushes
returns-in-Some-lone_string-clause-pushes c =
    push_string c.args.value.now c.in-Some.rest.now c.in-Some-lone_string.bytes.now c.in_ok-bytes.bytes
    (All-from_get_or (λ b. b < 256) c.args.value.now 0 (λ k inside. omega (arith, c.type_inv.value k))) c.in-Some.ensures.cases.0 c.in-Some.ensures.cases.1
    c.in-Some-lone_string.ensures.packed c.in-Some-lone_string.ensures.whole c.in_ok-bytes.ensures
