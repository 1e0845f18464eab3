use Rattle.std.proofs.Common.{inl, inr}
use Rattle.model_database.specs.Transactions.{with_version}
use Rattle.fdb_calls.specs.Calling.{commit_called}
use Rattle.txn_core.specs.Stands.{Answers}
use Rattle.txn_core.proofs.Answering.{commit_refused_early, commit_refused_late}
use Rattle.txn_core.proofs.committing.answer_refusal.Goals as goal

pub returns : goal.returns
returns c t store index setting judged keeps =
    elim judged as (λ _. Answers c.refused.result c.refuse.new.self store index setting (commit_called setting t)) [
      | inl early ↦
          commit_refused_early c.refused.result c.refuse.new.self store index setting t c.args.code early.0 c.refused.ensures.reply
          c.refused.ensures.life (c.refuse.ensures t early.1) keeps
      | inr late ↦
          commit_refused_late c.refused.result c.refuse.new.self store index setting t c.args.code late.0 late.1 c.refused.ensures.reply
          c.refused.ensures.life (c.refuse.ensures (with_version setting t) late.2) keeps
    ]
