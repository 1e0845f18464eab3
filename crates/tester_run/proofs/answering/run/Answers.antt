use Rattle.std.proofs.Common.{refl}
use Rattle.std.proofs.lemmas.Result.{err_from_is_err_and}
use Rattle.model_commands.specs.declared.args.Args.TheVariants as args
use Rattle.model_input.specs.declared.input.Form.TheVariants as form
use Rattle.tester_run.proofs.Reading.{memory_refused, run_made, unfit_refused}
use Rattle.tester_run.proofs.answering.run.Goals as goal

pub returns-in_err-input-clause-refused : goal.returns-in_err-input-clause-refused
returns-in_err-input-clause-refused g c =
    let p = err_from_is_err_and c.from_residual.result c.from_residual.ensures.1 in
    rw (p.1, p.2)
    (unfit_refused (args.Run c.args.arguments.now) form.Run (λ bytes fault e. e) c.in_err-input.field-0.0 _ _ _ _ refl c.in_err-input.ensures.refused)
