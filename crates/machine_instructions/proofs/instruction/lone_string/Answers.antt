use Rattle.std.proofs.Common.{sym, ◌∙◌}
use Rattle.machine_instructions.proofs.Names.{between, no_zero}
use Rattle.machine_instructions.proofs.instruction.lone_string.Goals as goal

pub returns-clause-packed : goal.returns-clause-packed
returns-clause-packed c =
    between c.args.value.now c.in_ok-strip_prefix.field-0.now c.in_ok-string.string.now c.args.code c.in_ok-strip_prefix.ensures.cases.0
    c.in_ok-strip_prefix.ensures.cases.1 c.in_ok-string.ensures.cases.0 c.in_ok-string.ensures.cases.1

pub returns-clause-whole : goal.returns-clause-whole
returns-clause-whole c = no_zero c.in_ok-string.string.now (sym c.contains.ensures.value ∙ c.if-contains.false)
