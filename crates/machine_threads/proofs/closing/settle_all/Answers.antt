use Rattle.std.proofs.Common.{length, ◌∙◌, subst}
use Rattle.std.specs.List.{All}
use Rattle.std.proofs.lemmas.List.Elements.{All-map, All-push}
use Rattle.std.proofs.lemmas.Iterator.{YieldsList-from_zip}
use Rattle.std.proofs.lemmas.Iterator.Adapters.{YieldsList-from_vec}
use Rattle.std.proofs.lemmas.Iterator.Consumers.{YieldsList-at, YieldsList-turn, YieldsList-end}
use Rattle.machine_threads.proofs.Settling.{are_answered, as_many_waiters, cells_at, is_answered, IsAnswered}
use Rattle.machine_threads.proofs.closing.settle_all.Goals as goal

pub settle_in_place-requires : goal.settle_in_place-requires
settle_in_place-requires c =
    let receipts = c.args.receipts in
    let waiters = c.args.waiters in
    let road = YieldsList-at c.into_iter-receipt-iterator.ensures.into_iter_gives (YieldsList-from_zip
    (YieldsList-at c.zip-receipt-items.ensures.first (YieldsList-from_vec receipts.items c.into_iter.ensures.rest (c.into_iter.ensures.len ∙ receipts.ok.0)))
    (YieldsList-from_vec waiters.items c.zip-receipt-items.ensures.second.0 (c.zip-receipt-items.ensures.second.1 ∙ waiters.ok.0))) in
    let turn = YieldsList-turn road c.loop-receipt.yielded c.loop-receipt.receipt-iterator c.loop-receipt.yielded_by c.next.result c.next.new.self (c.in-Some.receipt, c.in-Some.waiter) c.in-Some.is c.next.ensures.steps in
    cells_at receipts.items waiters.items (length c.loop-receipt.yielded) (c.in-Some.receipt, c.in-Some.waiter) c.requires turn.0 turn.1

pub loop-receipt-preserved : goal.loop-receipt-preserved
loop-receipt-preserved c = All-push IsAnswered c.loop-receipt.yielded (c.in-Some.receipt, c.in-Some.waiter) c.loop-receipt.invariant
    (is_answered c.in-Some.receipt c.in-Some.waiter c.settle_in_place.result.value c.settle_in_place.ensures.value c.settle_in_place.ensures.shown)

pub returns : goal.returns
returns c =
    let receipts = c.args.receipts in
    let waiters = c.args.waiters in
    let road = YieldsList-at c.into_iter-receipt-iterator.ensures.into_iter_gives (YieldsList-from_zip
    (YieldsList-at c.zip-receipt-items.ensures.first (YieldsList-from_vec receipts.items c.into_iter.ensures.rest (c.into_iter.ensures.len ∙ receipts.ok.0)))
    (YieldsList-from_vec waiters.items c.zip-receipt-items.ensures.second.0 (c.zip-receipt-items.ensures.second.1 ∙ waiters.ok.0))) in
    let end = YieldsList-end road c.loop-receipt.yielded c.loop-receipt.receipt-iterator c.loop-receipt.yielded_by c.next.result c.next.new.self c.in-None.is c.next.ensures.steps in
    are_answered receipts.items waiters.items (as_many_waiters receipts.items waiters.items c.requires)
    (subst (All IsAnswered) end.0 (All-map IsAnswered _ c.loop-receipt.yielded c.loop-receipt.invariant))
