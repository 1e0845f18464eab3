use Rattle.std.proofs.Common.{refl, sym}
use Rattle.model_database.specs.Databases.{ClearRange}
use Rattle.model_database.specs.Transactions.{range_code}
use Rattle.fdb_calls.specs.declared.TxnCall.TheVariants as call
use Rattle.fdb_calls.specs.Calling.{clear_range_called}
use Rattle.core_tr.specs.StandLaws.{rest_itself}
use Rattle.core_tr.proofs.Calls.{write_plain, write_done, clear_range_is, clear_range_plain}
use Rattle.core_tr.proofs.Answering.{answers_silently, said_silently, keeps_rest_silently}
use Rattle.core_tr.proofs.named.CoreTrTr.clear_range.Goals as goal

pub returns-in_err-begin-clause-same : goal.returns-in_err-begin-clause-same
returns-in_err-begin-clause-same c = (refl, rest_itself c.args.self.now.is_spent c.args.self.now.core.now c.args.self.now.name)

pub returns-in_err-end-clause-same : goal.returns-in_err-end-clause-same
returns-in_err-end-clause-same c = (refl, rest_itself c.args.self.now.is_spent c.args.self.now.core.now c.args.self.now.name)

pub returns-clause-answer : goal.returns-clause-answer
returns-clause-answer c setting t stands =
    said_silently c.call_silently.new.self.is_spent c.call_silently.new.self.core.now c.args.self.now.name c.call_silently.new.self.name setting t (clear_range_called t c.args.range.now.begin c.args.range.now.end) c.call_silently.ensures.same_name
    (write_done (range_code t.phase c.args.range.now.begin c.args.range.now.end) t (ClearRange c.args.range.now.begin c.args.range.now.end)) c.call_silently.result
    (answers_silently c.args.self.now.is_spent c.call_silently.new.self.is_spent c.args.self.now.core.now c.call_silently.new.self.core.now c.args.self.now.name setting t
    (call.ClearRange (record { begin = c.in_ok-begin.begin; end = c.in_ok-end.end })) (clear_range_called t c.args.range.now.begin c.args.range.now.end)
    (clear_range_is setting t c.args.range.now.begin c.args.range.now.end c.in_ok-begin.begin c.in_ok-end.end (c.in_ok-begin.ensures {u = tt}) (c.in_ok-end.ensures {u = tt}))
    (write_plain (range_code t.phase c.args.range.now.begin c.args.range.now.end) t (ClearRange c.args.range.now.begin c.args.range.now.end))
    c.call_silently.result c.call_silently.ensures.spent c.call_silently.ensures.made stands)

pub returns-clause-same : goal.returns-clause-same
returns-clause-same c = (
  sym c.call_silently.ensures.same_core,
  keeps_rest_silently c.args.self.now.is_spent c.call_silently.new.self.is_spent c.args.self.now.core.now c.call_silently.new.self.core.now c.args.self.now.name c.call_silently.new.self.name (call.ClearRange (record { begin = c.in_ok-begin.begin; end = c.in_ok-end.end }))
      (clear_range_plain (record { begin = c.in_ok-begin.begin; end = c.in_ok-end.end })) c.call_silently.ensures.same_name c.call_silently.result c.call_silently.ensures.spent c.call_silently.ensures.made,
)
