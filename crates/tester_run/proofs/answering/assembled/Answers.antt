use Rattle.std.proofs.Common.{refl}
use Rattle.std.proofs.lemmas.Result.{err_from_is_err_and}
use Rattle.model_commands.specs.declared.args.Args.TheVariants as args
use Rattle.tester_run.proofs.Reading.{unread_refused}
use Rattle.tester_run.proofs.answering.assembled.Goals as goal

pub returns-in_err-bytes-clause-refused : goal.returns-in_err-bytes-clause-refused
returns-in_err-bytes-clause-refused g c =
    let p = err_from_is_err_and c.from_residual.result c.from_residual.ensures.1 in
    rw (p.1, p.2) (unread_refused args.Asm c.in_err-bytes.field-0.0 _ _ _ _ refl c.in_err-bytes.ensures.refused)
