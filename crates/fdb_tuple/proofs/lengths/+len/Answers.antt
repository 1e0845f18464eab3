use Rattle.std.proofs.Common.{ap, arith, length-append}
use Rattle.fdb_tuple.specs.Tuples.{weight}
use Rattle.fdb_tuple.proofs.Spellings.{spelled_in_more}
use Rattle.fdb_tuple.proofs.Weights.{weight_within}
use Rattle.fdb_tuple.proofs.lengths.+len.Goals as goal

pub tuple_len-element_len-requires : goal.tuple_len-element_len-requires
tuple_len-element_len-requires t c =
    let items = c.as_slice-element-items.result.now in
    let within = weight_within items c.loop-element.element-index c.element-item.result (omega arith) c.element-item.is in
    (omega (arith, within, ap weight c.as_slice-element-items.ensures.tuple), tt)

pub tuple_len-loop-element-preserved : goal.tuple_len-loop-element-preserved
tuple_len-loop-element-preserved t c =
    let items = c.as_slice-element-items.result.now in
    let more = spelled_in_more c.args.nested items c.loop-element.element-index c.element-item.result (omega arith) c.element-item.is in
    rw (more, length-append) (omega arith)
