use Rattle.std.proofs.Common.{subst, sym}
use Rattle.model_database.specs.Databases.{Set}
use Rattle.fdb_calls.specs.declared.Reply.TheVariants as reply
use Rattle.fdb_calls.specs.Answers.{Answered}
use Rattle.model_allocator.specs.Acts.{Writes, act_called}
use Rattle.model_directory.specs.Courses.{does}
use Rattle.directory_nodes.specs.Runs.{RunsTo}
use Rattle.directory_nodes.proofs.Single.{write_ran}
use Rattle.directory_nodes.proofs.calls.set.Goals as goal

pub returns-clause-follows : goal.returns-clause-follows
returns-clause-follows g c words setting t stands =
    let after = g.T.Tr.stands c.set.new.self setting in
    let mutation = Set c.args.key.now c.args.value.now in
    subst (λ result. RunsTo result setting after words words (does mutation) t) (sym c.from_tr.ensures)
    (write_ran c.set.result setting after words mutation t
    (subst (λ key. Answered (λ (done : Unit {0}). reply.Done) c.set.result after t
    (act_called setting t (Writes (Set key c.args.value.now)))) c.as_slice.ensures
    (c.set.ensures.answer setting t stands)))
