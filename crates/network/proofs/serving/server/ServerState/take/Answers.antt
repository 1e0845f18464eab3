use Rattle.std.proofs.Common.{[], ◌∷◌, ◌++◌, sym, subst}
use Rattle.network.specs.ServerStates.{AddsAnswer, AddsReplyTo}
use Rattle.network.specs.Serving.{Replies, Serves}
use Rattle.network.proofs.Replied.{Replies-ask, Replies-over}
use Rattle.network.proofs.Runs.{Serves-answer}
use Rattle.network.proofs.serving.server.ServerState.take.Goals as goal

pub returns-in-Ask-clause-served : goal.returns-in-Ask-clause-served
returns-in-Ask-clause-served g c start posts served short =
    let answered = c.answer.ensures.answered short in
    let adds = subst (λ request. AddsAnswer g.S.Service.answers c.args.service.now c.answer.new.service c.in-Ask.machine request c.in-Ask.setter
    c.args.self.now.order c.args.self.now.receipts.items c.answer.new.self.order c.answer.new.self.receipts.items)
    c.request.ensures answered.1 in
    subst (λ post. Serves g.S.Service.answers start c.answer.new.service (posts ++ post ∷ []) c.answer.new.self.order c.answer.new.self.receipts.items)
    (sym c.in-Ask.is)
    (Serves-answer g.S.Service.answers start c.args.service.now c.answer.new.service posts c.args.self.now.order c.answer.new.self.order c.args.self.now.receipts.items c.answer.new.self.receipts.items c.in-Ask.machine c.in-Ask.request c.in-Ask.setter (served answered.0) adds)

pub returns-in-Ask-clause-replies : goal.returns-in-Ask-clause-replies
returns-in-Ask-clause-replies g c start posts so_far =
    let before = c.args.self.now in
    let after = c.answer.new.self in
    let adds = subst (λ request. AddsReplyTo g.S.Service.answers g.S.Service.notes c.args.service.now c.answer.new.service c.in-Ask.machine request
    c.in-Ask.setter before.short before.receipts.items after.short after.receipts.items) c.request.ensures c.answer.ensures.replied in
    subst (λ post. Replies g.S.Service.answers g.S.Service.notes start c.answer.new.service (posts ++ post ∷ []) after.short after.receipts.items)
    (sym c.in-Ask.is)
    (Replies-ask g.S.Service.answers g.S.Service.notes start c.args.service.now posts before.short before.receipts.items so_far
    c.answer.new.service c.in-Ask.machine c.in-Ask.request c.in-Ask.setter after.short after.receipts.items adds)

pub returns-in-Over-clause-replies : goal.returns-in-Over-clause-replies
returns-in-Over-clause-replies g c start posts so_far =
    let before = c.args.self.now in
    subst (λ post. Replies g.S.Service.answers g.S.Service.notes start c.args.service.now (posts ++ post ∷ []) before.short before.receipts.items)
    (sym c.in-Over.is)
    (Replies-over g.S.Service.answers g.S.Service.notes start c.args.service.now posts before.short before.receipts.items so_far c.in-Over.machine)
