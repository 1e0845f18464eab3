use Rattle.std.proofs.Common.{Err}
use Rattle.std.specs.Prelude.{codes}
use Rattle.std.proofs.lemmas.Result.{err_from_is_err_and}
use Rattle.fdb_calls.specs.declared.TxnCall.TheVariants as call
use Rattle.model_shell.specs.Requests.{called, printed_line, says, silent}
use Rattle.fdb_shell.proofs.Doing.{does_on, does_stopped}
use Rattle.fdb_shell.proofs.Commands.{reset, unreset}
use Rattle.fdb_shell.proofs.session.Session.reset.Goals as goal

pub returns-then-not-self : goal.returns-then-not-self
returns-then-not-self c = λ state is.
    unreset _ c.args.self.now c.say_error.new.self state is c.if-not-self.true (c.say_error.ensures state.world is.stands)

pub returns-in_err-call_silently : goal.returns-in_err-call_silently
returns-in_err-call_silently c =
    let p = err_from_is_err_and c.from_residual.result c.from_residual.ensures.1 in
    rw (p.1, p.2) (λ state is.
    reset (Err c.in_err-call_silently.field-0.0) c.args.self.now c.call_silently.new.self state is c.if-not-self.false
    (does_stopped c.in_err-call_silently.field-0.0 c.args.self.now c.call_silently.new.self (called silent call.Reset state.world)
    (says (printed_line (codes "Transaction reset"))) (c.in_err-call_silently.ensures state.world is.stands)))

pub returns : goal.returns
returns c = λ state is.
    let called_it = c.in_ok-call_silently.ensures state.world is.stands in
    reset _ c.args.self.now c.say.new.self state is c.if-not-self.false
    (does_on _ c.args.self.now c.call_silently.new.self c.say.new.self (called silent call.Reset state.world)
    (says (printed_line (codes "Transaction reset"))) called_it (c.say.ensures (called silent call.Reset state.world).world called_it.stands))
