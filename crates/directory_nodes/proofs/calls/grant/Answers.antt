use Rattle.std.proofs.Common.{subst, sym}
use Rattle.model_directory.specs.Courses.{Gives, Allocates}
use Rattle.directory_nodes.specs.Runs.{RunsTo}
use Rattle.directory_nodes.proofs.Single.{grant_ran}
use Rattle.directory_nodes.proofs.calls.grant.Goals as goal

pub returns-clause-draws : goal.returns-clause-draws
returns-clause-draws g c setting t stands =
    let after = g.T.Tr.stands c.allocate.new.tr setting in
    let words = g.W.Words.words c.args.words.now in
    let left = g.W.Words.words c.allocate.new.words in
    let space = c.args.space.now.prefix in
    subst (λ result. RunsTo result setting after words left (Allocates space (λ number. Gives number)) t) (sym c.from_allocator.ensures)
    (grant_ran c.allocate.result setting after words left space t (c.allocate.ensures.allocates setting t stands))
