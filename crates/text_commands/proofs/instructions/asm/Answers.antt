use Rattle.std.proofs.Common.{sym, subst}
use Rattle.std.proofs.lemmas.Result.{err_from_is_err_and}
use Rattle.dump_text.specs.Reading.{Fails}
use Rattle.text_commands.proofs.Limits.{texts_past}
use Rattle.text_commands.proofs.instructions.asm.Goals as goal

pub returns-in_err-pairs-clause-past : goal.returns-in_err-pairs-clause-past
returns-in_err-pairs-clause-past c = λ rest long.
    let p = err_from_is_err_and c.from_residual.result c.from_residual.ensures.1 in
    let fault = c.in_err-pairs.field-0.0 in
    rw (p.1, p.2)
    (subst (λ read. Fails fault read) (sym (texts_past c.args.text.now rest long).same) c.in_err-pairs.ensures.exact)
