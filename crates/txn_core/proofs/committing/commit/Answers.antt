use Rattle.std.proofs.Common.{inl, Err, subst, sym}
use Rattle.std.proofs.lemmas.Result.{IfOk-weaker, on_err_weaker}
use Rattle.model_database.specs.declared.Code.{Code}
use Rattle.fdb_calls.specs.declared.fault.TrFault.{TrFault}
use Rattle.fdb_calls.specs.declared.fault.TrFault.TheVariants as fault
use Rattle.txn_calls.specs.Judging.{Judged}
use Rattle.txn_calls.specs.Stands.{StandsFor}
use Rattle.txn_core.proofs.committing.commit.Goals as goal

pub returns-in-Ok-clause-ok : goal.returns-in-Ok-clause-ok
returns-in-Ok-clause-ok c = IfOk-weaker c.commit_judged.result _ _ (λ answer does t setting stands keeps within.
    does t setting (c.in-Ok.ensures.verdict setting t stands keeps) keeps within) c.commit_judged.ensures.ok

pub returns-in-Ok-clause-err : goal.returns-in-Ok-clause-err
returns-in-Ok-clause-err c = on_err_weaker c.commit_judged.result (λ left t setting stands keeps.
    left t setting (c.in-Ok.ensures.verdict setting t stands keeps) keeps) c.commit_judged.ensures.err

pub returns-in-Err-Code-clause-ok : goal.returns-in-Err-Code-clause-ok
returns-in-Err-Code-clause-ok c t setting stands keeps within =
    c.answer_refusal.ensures t c.args.store.now c.args.index.now setting
    (subst (λ (code : Code). Judged (Err (fault.Code code)) (StandsFor c.judge.new.self) setting t) (sym c.in-Err-Code.code-is)
    (subst (λ (f : TrFault). Judged (Err f) (StandsFor c.judge.new.self) setting t) c.in-Err-Code.field-0-is (c.in-Err-Code.ensures.verdict setting t stands keeps)))
    keeps

pub returns-in-Err-NoMemory-clause-err : goal.returns-in-Err-NoMemory-clause-err
returns-in-Err-NoMemory-clause-err c t setting stands keeps =
    (inl (subst (λ (f : TrFault). Judged (Err f) (StandsFor c.judge.new.self) setting t) c.in-Err-NoMemory.field-0-is (c.in-Err-NoMemory.ensures.verdict setting t stands keeps)), keeps)
