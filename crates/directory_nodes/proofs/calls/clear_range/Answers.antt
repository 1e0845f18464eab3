use Rattle.std.proofs.Common.{subst, sym}
use Rattle.model_database.specs.Databases.{ClearRange}
use Rattle.model_directory.specs.Courses.{does}
use Rattle.directory_nodes.specs.Runs.{RunsTo}
use Rattle.directory_nodes.proofs.Single.{write_ran}
use Rattle.directory_nodes.proofs.calls.clear_range.Goals as goal

pub returns-clause-follows : goal.returns-clause-follows
returns-clause-follows g c words setting t stands =
    let after = g.T.Tr.stands c.clear_range.new.self setting in
    let mutation = ClearRange c.args.range.now.begin c.args.range.now.end in
    subst (λ result. RunsTo result setting after words words (does mutation) t) (sym c.from_tr.ensures)
    (write_ran c.clear_range.result setting after words mutation t (c.clear_range.ensures.answer setting t stands))
