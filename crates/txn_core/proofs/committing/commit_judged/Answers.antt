use Rattle.std.proofs.Common.{Ok, inr, subst}
use Rattle.model_database.specs.Transactions.{with_version}
use Rattle.txn_calls.specs.declared.verdict.Verdict.{Verdict}
use Rattle.txn_calls.specs.Judging.{Judged}
use Rattle.txn_calls.specs.Stands.{StandsFor}
use Rattle.txn_core.proofs.Answering.{on_err_of, committed_read_only, committed_version}
use Rattle.txn_core.proofs.committing.commit_judged.Goals as goal

pub returns-in-ReadOnly-clause-ok : goal.returns-in-ReadOnly-clause-ok
returns-in-ReadOnly-clause-ok c t setting judged keeps within =
    let held = subst (λ (v : Verdict). Judged (Ok v) (StandsFor c.args.txn.now) setting t) c.in-ReadOnly.is judged in
    committed_read_only c.done.result c.tried.new.self c.args.store.now c.args.index.now setting t held.0 held.1 c.done.ensures.reply c.done.ensures.life
    (c.tried.ensures t held.2) keeps

pub returns-in_err-make_version-in-Commits-clause-err : goal.returns-in_err-make_version-in-Commits-clause-err
returns-in_err-make_version-in-Commits-clause-err c = on_err_of c.from_residual.result (λ t setting judged keeps.
    let held = subst (λ (v : Verdict). Judged (Ok v) (StandsFor c.args.txn.now) setting t) c.in-Commits.is judged in
    let left = (c.in_err-make_version-in-Commits.ensures {u = tt}).err setting (with_version setting t) held.2 keeps in
    (inr left.0, left.1))

pub returns-in_ok-make_version-in-Commits-clause-ok : goal.returns-in_ok-make_version-in-Commits-clause-ok
returns-in_ok-make_version-in-Commits-clause-ok c t setting judged keeps within =
    let held = subst (λ (v : Verdict). Judged (Ok v) (StandsFor c.args.txn.now) setting t) c.in-Commits.is judged in
    let made = (c.in_ok-make_version-in-Commits.ensures {u = tt}).ok setting (with_version setting t) held.2 keeps within in
    committed_version c.done-in-Commits.result c.make_version.new.self c.make_version.new.store c.make_version.new.index setting t held.0 held.1
    c.done-in-Commits.ensures.reply c.done-in-Commits.ensures.life made.0 made.1
