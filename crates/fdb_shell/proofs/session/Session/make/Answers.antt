use Rattle.fdb_shell.proofs.Commands.{made_through}
use Rattle.fdb_shell.proofs.session.Session.make.Goals as goal

pub returns : goal.returns
returns c = λ world stands.
    made_through _ c.args.self.now c.ask.new.self world _ c.new-name.ensures (c.in_ok-ask.ensures world stands)
