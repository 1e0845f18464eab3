use Rattle.std.proofs.Common.{refl, sym, ap, ◌∙◌}
use Rattle.model_database.specs.Atomics.{atomic_named}
use Rattle.model_database.specs.Databases.{Atomic}
use Rattle.model_database.specs.Transactions.{op_code}
use Rattle.fdb_calls.specs.declared.TxnCall.TheVariants as call
use Rattle.fdb_calls.specs.Calling.{atomic_called}
use Rattle.core_tr.specs.StandLaws.{rest_itself}
use Rattle.core_tr.proofs.Calls.{write_plain, write_done, atomic_is, atomic_plain}
use Rattle.core_tr.proofs.Answering.{answers_silently, said_silently, keeps_rest_silently}
use Rattle.core_tr.proofs.named.CoreTrTr.atomic.Goals as goal

pub returns-in_err-name-clause-same : goal.returns-in_err-name-clause-same
returns-in_err-name-clause-same c = (refl, rest_itself c.args.self.now.is_spent c.args.self.now.core.now c.args.self.now.name)

pub returns-in_err-key-clause-same : goal.returns-in_err-key-clause-same
returns-in_err-key-clause-same c = (refl, rest_itself c.args.self.now.is_spent c.args.self.now.core.now c.args.self.now.name)

pub returns-in_err-operand-clause-same : goal.returns-in_err-operand-clause-same
returns-in_err-operand-clause-same c = (refl, rest_itself c.args.self.now.is_spent c.args.self.now.core.now c.args.self.now.name)

pub returns-clause-answer : goal.returns-clause-answer
returns-clause-answer c setting t stands =
    said_silently c.call_silently.new.self.is_spent c.call_silently.new.self.core.now c.args.self.now.name c.call_silently.new.self.name setting t (atomic_called t c.args.op c.args.key.now c.args.operand.now) c.call_silently.ensures.same_name
    (write_done (op_code t.phase c.args.op c.args.key.now c.args.operand.now) t (Atomic c.args.op c.args.key.now c.args.operand.now)) c.call_silently.result
    (answers_silently c.args.self.now.is_spent c.call_silently.new.self.is_spent c.args.self.now.core.now c.call_silently.new.self.core.now c.args.self.now.name setting t
    (call.Atomic c.in_ok-name.name c.in_ok-key.key c.in_ok-operand.operand) (atomic_called t c.args.op c.args.key.now c.args.operand.now)
    (atomic_is setting t c.args.op c.in_ok-name.name c.args.key.now c.args.operand.now c.in_ok-key.key c.in_ok-operand.operand
    (ap (atomic_named setting.options.api) (c.in_ok-name.ensures {u = tt}) ∙ c.name_of.ensures setting.options.api)
    (c.in_ok-key.ensures {u = tt}) (c.in_ok-operand.ensures {u = tt}))
    (write_plain (op_code t.phase c.args.op c.args.key.now c.args.operand.now) t (Atomic c.args.op c.args.key.now c.args.operand.now))
    c.call_silently.result c.call_silently.ensures.spent c.call_silently.ensures.made stands)

pub returns-clause-same : goal.returns-clause-same
returns-clause-same c = (
  sym c.call_silently.ensures.same_core,
  keeps_rest_silently c.args.self.now.is_spent c.call_silently.new.self.is_spent c.args.self.now.core.now c.call_silently.new.self.core.now c.args.self.now.name c.call_silently.new.self.name (call.Atomic c.in_ok-name.name c.in_ok-key.key c.in_ok-operand.operand)
      (atomic_plain c.in_ok-name.name c.in_ok-key.key c.in_ok-operand.operand) c.call_silently.ensures.same_name c.call_silently.result c.call_silently.ensures.spent c.call_silently.ensures.made,
)
