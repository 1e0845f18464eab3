use Rattle.std.proofs.Common.{subst, sym}
use Rattle.model_directory.specs.Courses.{pairs_of}
use Rattle.directory_nodes.specs.Runs.{RunsTo}
use Rattle.directory_nodes.proofs.Single.{pairs_ran}
use Rattle.directory_nodes.proofs.calls.pairs_of.Goals as goal

pub returns-clause-follows : goal.returns-clause-follows
returns-clause-follows g c words setting t stands =
    let after = g.T.Tr.stands c.range.new.self setting in
    let range = c.args.range.now in
    subst (λ result. RunsTo result setting after words words
    (pairs_of c.args.snapshot range.begin range.end c.args.limit c.args.backward) t)
    (sym c.from_tr.ensures)
    (pairs_ran c.range.result setting after words c.args.snapshot c.args.backward range.begin range.end c.args.limit t
    (c.range.ensures.answer setting t stands))
