use Rattle.std.proofs.Common.{[]}
use Rattle.fdb_calls.specs.declared.Request.TheVariants as request
use Rattle.fdb_shell.proofs.Doing.{done_silently}
use Rattle.fdb_shell.proofs.session.Session.call_silently.Goals as goal

pub returns : goal.returns
returns c = λ world stands.
    done_silently _ c.args.self.now c.call.new.self world (request.On [] c.args.call) (c.in_ok-call.ensures world stands)
