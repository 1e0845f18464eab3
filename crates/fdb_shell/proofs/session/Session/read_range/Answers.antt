use Rattle.std.proofs.Common.{[]}
use Rattle.fdb_calls.specs.declared.Request.TheVariants as request
use Rattle.model_shell.specs.Requests.{pairs_said}
use Rattle.model_shell.specs.Sessions.{range_call}
use Rattle.fdb_shell.proofs.Doing.{done_through}
use Rattle.fdb_shell.proofs.session.Session.read_range.Goals as goal

pub returns : goal.returns
returns c = λ world stands.
    done_through pairs_said _ c.args.self.now c.call.new.self c.add_range.new.to world
    (request.On [] (range_call c.args.range c.args.limit)) (c.in_ok-reply.ensures world stands) c.in_ok-add_range.ensures
