use Rattle.std.proofs.Common.{false, subst, sym}
use Rattle.model_database.specs.Reads.{Get}
use Rattle.fdb_calls.specs.declared.Reply.TheVariants as reply
use Rattle.fdb_calls.specs.Answers.{Answered}
use Rattle.fdb_calls.specs.Calling.{read_called}
use Rattle.model_directory.specs.Courses.{value_of}
use Rattle.directory_nodes.specs.Runs.{RunsTo}
use Rattle.directory_nodes.proofs.Single.{value_ran}
use Rattle.directory_nodes.proofs.calls.value_of.Goals as goal

pub returns-clause-follows : goal.returns-clause-follows
returns-clause-follows g c words setting t stands =
    let after = g.T.Tr.stands c.get.new.self setting in
    let key = c.args.key.now in
    subst (λ result. RunsTo result setting after words words (value_of c.args.snapshot key) t) (sym c.from_tr.ensures)
    (value_ran c.get.result setting after words c.args.snapshot key t
    (subst (λ key. Answered reply.Value c.get.result after t (read_called setting t false c.args.snapshot (Get key))) c.as_slice.ensures
    (c.get.ensures.answer setting t stands)))
