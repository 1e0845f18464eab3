use Rattle.std.proofs.Common.{refl, sym}
use Rattle.model_database.specs.Databases.{Set}
use Rattle.model_database.specs.Transactions.{set_code}
use Rattle.fdb_calls.specs.declared.TxnCall.TheVariants as call
use Rattle.fdb_calls.specs.Calling.{set_called}
use Rattle.core_tr.specs.StandLaws.{rest_itself}
use Rattle.core_tr.proofs.Calls.{write_plain, write_done, set_is, set_plain}
use Rattle.core_tr.proofs.Answering.{answers_silently, said_silently, keeps_rest_silently}
use Rattle.core_tr.proofs.named.CoreTrTr.set.Goals as goal

pub returns-in_err-key-clause-same : goal.returns-in_err-key-clause-same
returns-in_err-key-clause-same c = (refl, rest_itself c.args.self.now.is_spent c.args.self.now.core.now c.args.self.now.name)

pub returns-in_err-value-clause-same : goal.returns-in_err-value-clause-same
returns-in_err-value-clause-same c = (refl, rest_itself c.args.self.now.is_spent c.args.self.now.core.now c.args.self.now.name)

pub returns-clause-answer : goal.returns-clause-answer
returns-clause-answer c setting t stands =
    said_silently c.call_silently.new.self.is_spent c.call_silently.new.self.core.now c.args.self.now.name c.call_silently.new.self.name setting t (set_called t c.args.key.now c.args.value.now) c.call_silently.ensures.same_name
    (write_done (set_code t.phase c.args.key.now c.args.value.now) t (Set c.args.key.now c.args.value.now)) c.call_silently.result
    (answers_silently c.args.self.now.is_spent c.call_silently.new.self.is_spent c.args.self.now.core.now c.call_silently.new.self.core.now c.args.self.now.name setting t
    (call.Set c.in_ok-key.key c.in_ok-value.value) (set_called t c.args.key.now c.args.value.now)
    (set_is setting t c.args.key.now c.args.value.now c.in_ok-key.key c.in_ok-value.value (c.in_ok-key.ensures {u = tt}) (c.in_ok-value.ensures {u = tt}))
    (write_plain (set_code t.phase c.args.key.now c.args.value.now) t (Set c.args.key.now c.args.value.now))
    c.call_silently.result c.call_silently.ensures.spent c.call_silently.ensures.made stands)

pub returns-clause-same : goal.returns-clause-same
returns-clause-same c = (
  sym c.call_silently.ensures.same_core,
  keeps_rest_silently c.args.self.now.is_spent c.call_silently.new.self.is_spent c.args.self.now.core.now c.call_silently.new.self.core.now c.args.self.now.name c.call_silently.new.self.name (call.Set c.in_ok-key.key c.in_ok-value.value)
      (set_plain c.in_ok-key.key c.in_ok-value.value) c.call_silently.ensures.same_name c.call_silently.result c.call_silently.ensures.spent c.call_silently.ensures.made,
)
