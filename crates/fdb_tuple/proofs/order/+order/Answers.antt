use Rattle.std.proofs.Common.{sym, ◌∙◌, length}
use Rattle.std.proofs.lemmas.Slice.Zip.{either_empty_from_Zip}
use Rattle.fdb_tuple.proofs.ElementOrder.{tuple_cmp-ended}
use Rattle.fdb_tuple.proofs.order.+order.Goals as goal

pub tuple_order-returns : goal.tuple_order-returns
tuple_order-returns t c =
    let ended = either_empty_from_Zip c.loop-x.x-iterator c.next.new.self _ c.in-None.is c.next.ensures.steps in
    let left = tuple_cmp-ended _ _ (length c.as_slice-left.result.now) (length c.as_slice-right.result.now) ended c.loop-x.invariant.1 in
    c.cmp.ensures ∙ sym (c.loop-x.invariant.0 ∙ left)
