use Rattle.std.proofs.lemmas.Result.{err_from_is_err_and}
use Rattle.fdb_calls.specs.declared.TxnCall.TheVariants as call
use Rattle.model_shell.specs.Requests.{called, committed, silent, version_said}
use Rattle.fdb_shell.proofs.Doing.{does_on, does_stopped}
use Rattle.fdb_shell.proofs.session.Session.commit.Goals as goal

pub returns-in_err-call_silently : goal.returns-in_err-call_silently
unfolding committed
returns-in_err-call_silently c =
    let p = err_from_is_err_and c.from_residual.result c.from_residual.ensures.1 in
    rw (p.1, p.2) (λ world stands.
    does_stopped _ c.args.self.now c.call_silently.new.self (called silent call.Commit world) (called version_said call.CommittedVersion)
    (c.in_err-call_silently.ensures world stands))

pub returns : goal.returns
unfolding committed
returns c = λ world stands.
    let committed_it = c.in_ok-call_silently.ensures world stands in
    does_on _ c.args.self.now c.call_silently.new.self c.read_version.new.self (called silent call.Commit world)
    (called version_said call.CommittedVersion) committed_it (c.read_version.ensures (called silent call.Commit world).world committed_it.stands)
