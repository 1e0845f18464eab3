use Rattle.std.proofs.Common.{[]}
use Rattle.fdb_calls.specs.declared.Request.TheVariants as request
use Rattle.fdb_calls.specs.declared.TxnCall.TheVariants as call
use Rattle.model_shell.specs.Requests.{version_said}
use Rattle.fdb_shell.proofs.Doing.{done_through}
use Rattle.fdb_shell.proofs.session.Session.read_version.Goals as goal

pub returns : goal.returns
returns c = λ world stands.
    done_through version_said _ c.args.self.now c.call.new.self c.add_version.new.to world
    (request.On [] call.CommittedVersion) (c.in_ok-reply.ensures world stands) c.in_ok-add_version.ensures
