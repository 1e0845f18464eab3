use Rattle.std.proofs.Common.{true}
use Rattle.std.proofs.lemmas.Result.{err_from_is_err_and}
use Rattle.model_shell.specs.Requests.{made}
use Rattle.fdb_shell.proofs.Commands.{begun_again, begun_anew, stands_opened, unbegun}
use Rattle.fdb_shell.proofs.session.Session.begin.Goals as goal

pub returns-then-self : goal.returns-then-self
returns-then-self c = λ state is.
    begun_again _ c.args.self.now c.say_error.new.self state is c.if-self.true (c.say_error.ensures state.world is.stands)

pub returns-in_err-make : goal.returns-in_err-make
returns-in_err-make c =
    let p = err_from_is_err_and c.from_residual.result c.from_residual.ensures.1 in
    rw (p.1, p.2) (λ state is.
    unbegun _ c.args.self.now c.make.new.self state (c.in_err-make.ensures state.world is.stands))

pub returns : goal.returns
returns c = λ state is.
    let made_it = c.in_ok-make.ensures state.world is.stands in
    begun_anew _ c.args.self.now c.make.new.self c.say.new.self state is c.if-self.false made_it
    (c.say.ensures (made state.world).world (stands_opened c.make.new.self true (made state.world).world made_it.stands))
