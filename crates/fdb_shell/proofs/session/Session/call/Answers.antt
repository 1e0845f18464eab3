use Rattle.fdb_shell.proofs.Commands.{asks_by_name}
use Rattle.fdb_shell.proofs.session.Session.call.Goals as goal

pub returns : goal.returns
returns c = λ world stands.
    asks_by_name c.ask.result c.args.self.now c.ask.new.self world c.args.call _ c.new-name.ensures (c.ask.ensures world stands)
