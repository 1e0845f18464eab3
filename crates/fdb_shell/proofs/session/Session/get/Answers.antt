use Rattle.std.proofs.Common.{false}
use Rattle.std.proofs.lemmas.Result.{err_from_is_err_and}
use Rattle.fdb_calls.specs.declared.TxnCall.TheVariants as call
use Rattle.model_shell.specs.Requests.{called, made, value_said}
use Rattle.fdb_shell.proofs.Commands.{read_open, read_outside, read_unmade}
use Rattle.fdb_shell.proofs.session.Session.get.Goals as goal

pub returns-then-self : goal.returns-then-self
returns-then-self c = λ world stands.
    read_open c.args.self.now.is_open _ c.args.self.now c.read_value.new.self (called (value_said c.args.key.now) (call.Get c.args.key.now false)) world
    c.if-self.true (c.read_value.ensures world stands)

pub returns-in_err-make : goal.returns-in_err-make
returns-in_err-make c =
    let p = err_from_is_err_and c.from_residual.result c.from_residual.ensures.1 in
    rw (p.1, p.2) (λ world stands.
    read_unmade c.args.self.now.is_open _ c.args.self.now c.make.new.self (called (value_said c.args.key.now) (call.Get c.args.key.now false)) world
    c.if-self.false (c.in_err-make.ensures world stands))

pub returns : goal.returns
returns c = λ world stands.
    let made_it = c.in_ok-make.ensures world stands in
    read_outside c.args.self.now.is_open _ c.args.self.now c.make.new.self c.read_value-2.new.self (called (value_said c.args.key.now) (call.Get c.args.key.now false)) world
    c.if-self.false made_it (c.read_value-2.ensures (made world).world made_it.stands)
