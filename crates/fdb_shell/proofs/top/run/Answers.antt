use Rattle.std.proofs.lemmas.Result.{err_from_is_err_and}
use Rattle.fdb_shell.proofs.Steps.{finishes_at_once}
use Rattle.fdb_shell.proofs.top.run.Goals as goal

pub returns-in_err-reading-clause-finishes : goal.returns-in_err-reading-clause-finishes
returns-in_err-reading-clause-finishes g c =
    let p = err_from_is_err_and c.from_residual.result c.from_residual.ensures.1 in
    rw (p.1, p.2) (finishes_at_once _ _)

pub run-requires : goal.run-requires
run-requires g c = c.in_ok-reading.ensures
