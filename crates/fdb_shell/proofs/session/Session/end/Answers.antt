use Rattle.fdb_shell.proofs.Commands.{ended, unended}
use Rattle.fdb_shell.proofs.session.Session.end.Goals as goal

pub returns-then-not-self : goal.returns-then-not-self
returns-then-not-self c = λ state is.
    unended _ c.args.self.now c.say_error.new.self state is c.if-not-self.true (c.say_error.ensures state.world is.stands)

pub returns : goal.returns
returns c = λ state is.
    ended _ c.args.self.now c.commit-done.new.self state is c.if-not-self.false (c.commit-done.ensures state.world is.stands)
