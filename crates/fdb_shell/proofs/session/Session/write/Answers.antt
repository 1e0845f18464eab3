use Rattle.std.proofs.Common.{false, Err}
use Rattle.std.proofs.lemmas.Result.{err_from_is_err_and}
use Rattle.model_shell.specs.Requests.{called, followed, made, silent}
use Rattle.fdb_shell.proofs.Doing.{does_on, does_stopped, done_on}
use Rattle.fdb_shell.proofs.Commands.{unwritten_open, unwritten_outside, written_open, written_outside}
use Rattle.fdb_shell.proofs.session.Session.write.Goals as goal

pub returns-in_err-call_silently : goal.returns-in_err-call_silently
returns-in_err-call_silently c =
    let p = err_from_is_err_and c.from_residual.result c.from_residual.ensures.1 in
    rw (p.1, p.2) (λ world stands.
    unwritten_open c.args.self.now.is_open _ c.args.self.now c.call_silently.new.self (called silent c.args.call) world c.if-self.true
    (c.in_err-call_silently.ensures world stands))

pub returns-then-self : goal.returns-then-self
returns-then-self c = λ world stands.
    let called_it = c.in_ok-call_silently.ensures world stands in
    written_open c.args.self.now.is_open _ c.args.self.now c.call_silently.new.self c.say.new.self (called silent c.args.call) world c.if-self.true
    called_it (c.say.ensures (called silent c.args.call world).world called_it.stands)

pub returns-in_err-make : goal.returns-in_err-make
returns-in_err-make c =
    let p = err_from_is_err_and c.from_residual-in_err-make.result c.from_residual-in_err-make.ensures.1 in
    rw (p.1, p.2) (λ world stands.
    unwritten_outside c.args.self.now.is_open _ c.args.self.now c.make.new.self (called silent c.args.call) world c.if-self.false
    (does_stopped _ c.args.self.now c.make.new.self (made world) (called silent c.args.call) (c.in_err-make.ensures world stands)))

pub returns-in_err-call_silently-2 : goal.returns-in_err-call_silently-2
returns-in_err-call_silently-2 c =
    let p = err_from_is_err_and c.from_residual-in_err-call_silently-2.result c.from_residual-in_err-call_silently-2.ensures.1 in
    rw (p.1, p.2) (λ world stands.
    let made_it = c.in_ok-make.ensures world stands in
    unwritten_outside c.args.self.now.is_open _ c.args.self.now c.call_silently-2.new.self (called silent c.args.call) world c.if-self.false
    (does_on (Err c.in_err-call_silently-2.field-0.0) c.args.self.now c.make.new.self c.call_silently-2.new.self (made world) (called silent c.args.call) made_it
    (c.in_err-call_silently-2.ensures (made world).world made_it.stands)))

pub returns : goal.returns
returns c = λ world stands.
    let made_it = c.in_ok-make.ensures world stands in
    let did = done_on false c.args.self.now c.make.new.self c.call_silently-2.new.self (made world) (called silent c.args.call) made_it
    (c.in_ok-call_silently-2.ensures (made world).world made_it.stands) in
    written_outside c.args.self.now.is_open _ c.args.self.now c.call_silently-2.new.self c.commit.new.self (called silent c.args.call) world c.if-self.false
    did (c.commit.ensures (followed (made world) (called silent c.args.call)).world did.stands)
