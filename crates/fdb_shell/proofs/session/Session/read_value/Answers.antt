use Rattle.fdb_shell.proofs.Commands.{read_through}
use Rattle.fdb_shell.proofs.session.Session.read_value.Goals as goal

pub returns : goal.returns
returns c = λ world stands.
    read_through _ c.args.self.now c.call.new.self c.add_value.new.to world c.args.key.now _ _ c.in_ok-copy.ensures c.as_slice.ensures
    (c.in_ok-reply.ensures world stands) c.in_ok-add_value.ensures
