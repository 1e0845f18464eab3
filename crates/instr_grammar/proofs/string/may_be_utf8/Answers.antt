use Rattle.std.proofs.Common.{◌∙◌}
use Rattle.instr_grammar.proofs.Utf8.{valid_may_be, fault_may_be}
use Rattle.instr_grammar.proofs.string.may_be_utf8.Goals as goal

pub returns-in-Ok : goal.returns-in-Ok
returns-in-Ok c = valid_may_be c.args.bytes.now c.in-Ok.ensures.cases.1

pub returns-in-Err : goal.returns-in-Err
returns-in-Err c =
    fault_may_be c.args.bytes.now c.in-Err.ensures.cases.0 _ c.in-Err.ensures.valid_len c.error_len.result c.is_none.result
    (c.error_len.ensures ∙ c.in-Err.ensures.fault) c.is_none.ensures
