use Rattle.std.proofs.Common.{false, refl, sym, subst}
use Rattle.model_database.specs.declared.mode.Mode.TheVariants.{WantAll}
use Rattle.std.proofs.lemmas.Result.{err_from_is_err_and}
use Rattle.model_database.specs.Reads as read
use Rattle.fdb_calls.specs.declared.Reply.TheVariants as reply
use Rattle.fdb_calls.specs.declared.TxnCall.TheVariants as call
use Rattle.fdb_calls.specs.Calling.{read_called}
use Rattle.core_tr.specs.StandLaws.{rest_itself}
use Rattle.core_tr.proofs.Calls.{read_plain, range_is, range_plain}
use Rattle.core_tr.proofs.Answering.{Answers, answers, refused_so, said_so, keeps_rest}
use Rattle.core_tr.proofs.named.CoreTrTr.range.Goals as goal

pub returns-in_err-begin-clause-same : goal.returns-in_err-begin-clause-same
returns-in_err-begin-clause-same c = (refl, rest_itself c.args.self.now.is_spent c.args.self.now.core.now c.args.self.now.name)

pub returns-in_err-end-clause-same : goal.returns-in_err-end-clause-same
returns-in_err-end-clause-same c = (refl, rest_itself c.args.self.now.is_spent c.args.self.now.core.now c.args.self.now.name)

pub returns-in_err-reply-clause-answer : goal.returns-in_err-reply-clause-answer
returns-in_err-reply-clause-answer c setting t stands =
    let p = err_from_is_err_and c.from_residual-in_err-reply.result c.from_residual-in_err-reply.ensures.1 in
    rw (p.1, p.2) (refused_so c.call.new.self.is_spent c.call.new.self.core.now c.args.self.now.name c.call.new.self.name setting t (read_called setting t false c.args.snapshot (read.GetKeyRange c.args.range.now.begin c.args.range.now.end c.args.limit c.args.reverse)) c.call.ensures.same_name reply.PairsAre c.in_err-reply.field-0.0
    (subst (λ result. Answers result c.call.new.self.is_spent c.call.new.self.core.now c.args.self.now.name setting t (read_called setting t false c.args.snapshot (read.GetKeyRange c.args.range.now.begin c.args.range.now.end c.args.limit c.args.reverse))) (c.in_err-reply.was {u = tt})
    (answers c.args.self.now.is_spent c.call.new.self.is_spent c.args.self.now.core.now c.call.new.self.core.now c.args.self.now.name setting t
    (call.GetKeyRange (record { begin = c.in_ok-begin.begin; end = c.in_ok-end.end }) (record { limit = c.args.limit; reverse = c.args.reverse; mode = WantAll }) c.args.snapshot) (read_called setting t false c.args.snapshot (read.GetKeyRange c.args.range.now.begin c.args.range.now.end c.args.limit c.args.reverse))
    (range_is setting t c.args.range.now.begin c.args.range.now.end c.in_ok-begin.begin c.in_ok-end.end c.args.limit c.args.reverse c.args.snapshot (c.in_ok-begin.ensures {u = tt}) (c.in_ok-end.ensures {u = tt}))
    (read_plain setting t false c.args.snapshot (read.GetKeyRange c.args.range.now.begin c.args.range.now.end c.args.limit c.args.reverse))
    c.call.result c.call.ensures.spent c.call.ensures.made stands)))

pub returns-in_err-reply-clause-same : goal.returns-in_err-reply-clause-same
returns-in_err-reply-clause-same c = (
  sym c.call.ensures.same_core,
  keeps_rest c.args.self.now.is_spent c.call.new.self.is_spent c.args.self.now.core.now c.call.new.self.core.now c.args.self.now.name c.call.new.self.name (call.GetKeyRange (record { begin = c.in_ok-begin.begin; end = c.in_ok-end.end }) (record { limit = c.args.limit; reverse = c.args.reverse; mode = WantAll }) c.args.snapshot)
      (range_plain (record { begin = c.in_ok-begin.begin; end = c.in_ok-end.end }) (record { limit = c.args.limit; reverse = c.args.reverse; mode = WantAll }) c.args.snapshot) c.call.ensures.same_name c.call.result c.call.ensures.spent c.call.ensures.made,
)

pub returns-clause-answer : goal.returns-clause-answer
returns-clause-answer c setting t stands =
    said_so c.call.new.self.is_spent c.call.new.self.core.now c.args.self.now.name c.call.new.self.name setting t (read_called setting t false c.args.snapshot (read.GetKeyRange c.args.range.now.begin c.args.range.now.end c.args.limit c.args.reverse)) c.call.ensures.same_name
    reply.PairsAre c.pairs_in.result c.in_ok-reply.reply c.pairs_in.ensures
    (subst (λ result. Answers result c.call.new.self.is_spent c.call.new.self.core.now c.args.self.now.name setting t (read_called setting t false c.args.snapshot (read.GetKeyRange c.args.range.now.begin c.args.range.now.end c.args.limit c.args.reverse))) (c.in_ok-reply.was {u = tt})
    (answers c.args.self.now.is_spent c.call.new.self.is_spent c.args.self.now.core.now c.call.new.self.core.now c.args.self.now.name setting t
    (call.GetKeyRange (record { begin = c.in_ok-begin.begin; end = c.in_ok-end.end }) (record { limit = c.args.limit; reverse = c.args.reverse; mode = WantAll }) c.args.snapshot) (read_called setting t false c.args.snapshot (read.GetKeyRange c.args.range.now.begin c.args.range.now.end c.args.limit c.args.reverse))
    (range_is setting t c.args.range.now.begin c.args.range.now.end c.in_ok-begin.begin c.in_ok-end.end c.args.limit c.args.reverse c.args.snapshot (c.in_ok-begin.ensures {u = tt}) (c.in_ok-end.ensures {u = tt}))
    (read_plain setting t false c.args.snapshot (read.GetKeyRange c.args.range.now.begin c.args.range.now.end c.args.limit c.args.reverse))
    c.call.result c.call.ensures.spent c.call.ensures.made stands))

pub returns-clause-same : goal.returns-clause-same
returns-clause-same c = (
  sym c.call.ensures.same_core,
  keeps_rest c.args.self.now.is_spent c.call.new.self.is_spent c.args.self.now.core.now c.call.new.self.core.now c.args.self.now.name c.call.new.self.name (call.GetKeyRange (record { begin = c.in_ok-begin.begin; end = c.in_ok-end.end }) (record { limit = c.args.limit; reverse = c.args.reverse; mode = WantAll }) c.args.snapshot)
      (range_plain (record { begin = c.in_ok-begin.begin; end = c.in_ok-end.end }) (record { limit = c.args.limit; reverse = c.args.reverse; mode = WantAll }) c.args.snapshot) c.call.ensures.same_name c.call.result c.call.ensures.spent c.call.ensures.made,
)
