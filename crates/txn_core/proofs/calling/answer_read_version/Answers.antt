use Rattle.std.proofs.lemmas.Result.{IfOk-weaker, on_err_weaker}
use Rattle.std.specs.Prelude.{pos}
use Rattle.model_database.specs.Transactions.{phase_code, version_in, with_version}
use Rattle.fdb_calls.specs.declared.Reply.TheVariants as reply
use Rattle.txn_core.proofs.Answering.{told_in_place, does_in_place, left_standing}
use Rattle.txn_core.proofs.calling.answer_read_version.Goals as goal

pub returns-clause-ok : goal.returns-clause-ok
returns-clause-ok c = IfOk-weaker c.of_version.result _ _ (λ answer tells t index setting stands keeps.
    told_in_place (λ version. reply.Version (pos version)) c.read_version.result answer c.read_version.new.self c.args.store.now index setting t _
    (does_in_place (phase_code t.phase) t (with_version setting t) (reply.Version (pos (version_in setting t)))) keeps (c.read_version.ensures.answer index setting keeps t stands) tells) c.of_version.ensures.ok

pub returns-clause-err : goal.returns-clause-err
returns-clause-err c = on_err_weaker c.of_version.result (λ refused t index setting stands keeps.
    (left_standing (λ version. reply.Version (pos version)) c.read_version.result c.read_version.new.self c.args.store.now index setting t _ refused
    (c.read_version.ensures.answer index setting keeps t stands) keeps).0) c.of_version.ensures.err
