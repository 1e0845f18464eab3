use Rattle.machine_instructions.proofs.Names.{name_alone}
use Rattle.machine_instructions.proofs.instruction.lone_name.Goals as goal

pub returns-in-Ok : goal.returns-in-Ok
returns-in-Ok c =
    name_alone c.args.value.now c.in_ok-name.name.now c.in_ok-name.ensures.packed c.in_ok-name.ensures.whole c.in-Ok.ensures.cases.1
