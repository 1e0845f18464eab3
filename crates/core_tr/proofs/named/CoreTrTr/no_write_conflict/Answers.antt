use Rattle.std.proofs.Common.{refl, sym}
use Rattle.model_database.specs.Transactions.{phase_code, with_write_conflict_disabled}
use Rattle.fdb_calls.specs.declared.TxnCall.TheVariants as call
use Rattle.fdb_calls.specs.Calling.{no_write_conflict_called}
use Rattle.core_tr.proofs.Calls.{does_plain, does_done, no_write_conflict_is, no_write_conflict_plain}
use Rattle.core_tr.proofs.Answering.{answers_silently, said_silently, keeps_rest_silently}
use Rattle.core_tr.proofs.named.CoreTrTr.no_write_conflict.Goals as goal

pub returns-clause-answer : goal.returns-clause-answer
returns-clause-answer c setting t stands =
    said_silently c.call_silently.new.self.is_spent c.call_silently.new.self.core.now c.args.self.now.name c.call_silently.new.self.name setting t (no_write_conflict_called t) c.call_silently.ensures.same_name
    (does_done (phase_code t.phase) t (with_write_conflict_disabled t)) c.call_silently.result
    (answers_silently c.args.self.now.is_spent c.call_silently.new.self.is_spent c.args.self.now.core.now c.call_silently.new.self.core.now c.args.self.now.name setting t
    (call.NoWriteConflict) (no_write_conflict_called t)
    (no_write_conflict_is setting t)
    (does_plain (phase_code t.phase) t (with_write_conflict_disabled t) _ refl refl)
    c.call_silently.result c.call_silently.ensures.spent c.call_silently.ensures.made stands)

pub returns-clause-same : goal.returns-clause-same
returns-clause-same c = (
  sym c.call_silently.ensures.same_core,
  keeps_rest_silently c.args.self.now.is_spent c.call_silently.new.self.is_spent c.args.self.now.core.now c.call_silently.new.self.core.now c.args.self.now.name c.call_silently.new.self.name (call.NoWriteConflict)
      (no_write_conflict_plain) c.call_silently.ensures.same_name c.call_silently.result c.call_silently.ensures.spent c.call_silently.ensures.made,
)
