use Rattle.std.proofs.Common.{refl, sym, ap, ◌∙◌}
use Rattle.key_bytes.specs.Keys.{after}
use Rattle.model_database.specs.Intervals.{one}
use Rattle.model_database.specs.Transactions.{range_code, with_write_range}
use Rattle.fdb_calls.specs.declared.TxnCall.TheVariants as call
use Rattle.fdb_calls.specs.Calling.{write_conflict_called}
use Rattle.core_tr.specs.StandLaws.{rest_itself}
use Rattle.core_tr.proofs.Calls.{does_plain, does_done, write_conflict_is, write_conflict_plain}
use Rattle.core_tr.proofs.Answering.{answers_silently, said_silently, keeps_rest_silently}
use Rattle.core_tr.proofs.named.CoreTrTr.write_conflict_key.Goals as goal

pub returns-in_err-key-clause-same : goal.returns-in_err-key-clause-same
returns-in_err-key-clause-same c = (refl, rest_itself c.args.self.now.is_spent c.args.self.now.core.now c.args.self.now.name)

pub returns-in_err-range-clause-same : goal.returns-in_err-range-clause-same
returns-in_err-range-clause-same c = (refl, rest_itself c.args.self.now.is_spent c.args.self.now.core.now c.args.self.now.name)

pub returns-clause-answer : goal.returns-clause-answer
returns-clause-answer c setting t stands =
    said_silently c.call_silently.new.self.is_spent c.call_silently.new.self.core.now c.args.self.now.name c.call_silently.new.self.name setting t (write_conflict_called t (one c.args.key.now)) c.call_silently.ensures.same_name
    (does_done (range_code t.phase c.args.key.now (after c.args.key.now)) t (with_write_range t (one c.args.key.now))) c.call_silently.result
    (answers_silently c.args.self.now.is_spent c.call_silently.new.self.is_spent c.args.self.now.core.now c.call_silently.new.self.core.now c.args.self.now.name setting t
    (call.WriteConflict c.in_ok-range.range) (write_conflict_called t (one c.args.key.now))
    (write_conflict_is setting t c.args.key.now c.in_ok-range.range
    ((c.in_ok-range.ensures {u = tt}).0 ∙ c.in_ok-key.ensures {u = tt})
    ((c.in_ok-range.ensures {u = tt}).1 ∙ ap after (c.in_ok-key.ensures {u = tt})))
    (does_plain (range_code t.phase c.args.key.now (after c.args.key.now)) t (with_write_range t (one c.args.key.now)) _ refl refl)
    c.call_silently.result c.call_silently.ensures.spent c.call_silently.ensures.made stands)

pub returns-clause-same : goal.returns-clause-same
returns-clause-same c = (
  sym c.call_silently.ensures.same_core,
  keeps_rest_silently c.args.self.now.is_spent c.call_silently.new.self.is_spent c.args.self.now.core.now c.call_silently.new.self.core.now c.args.self.now.name c.call_silently.new.self.name (call.WriteConflict c.in_ok-range.range)
      (write_conflict_plain c.in_ok-range.range) c.call_silently.ensures.same_name c.call_silently.result c.call_silently.ensures.spent c.call_silently.ensures.made,
)
