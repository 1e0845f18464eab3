use Rattle.std.proofs.Common.{ap, arith}
use Rattle.fdb_tuple.specs.Tuples.{weight}
use Rattle.fdb_tuple.proofs.StampPlaces.{length-spelled_in_left}
use Rattle.fdb_tuple.proofs.Weights.{weight_within}
use Rattle.fdb_tuple.proofs.places.Walk.+walk.Goals as goal

pub over_tuple-over_element-requires : goal.over_tuple-over_element-requires
over_tuple-over_element-requires t c =
    let items = c.as_slice-element-items.result.now in
    let index = c.loop-element.element-index in
    let element = c.element-item.result in
    let within = weight_within items index element (omega arith) c.element-item.is in
    let left = length-spelled_in_left c.args.nested items index element (omega arith) c.element-item.is in
    (omega (arith, within, ap weight c.as_slice-element-items.ensures.tuple), omega (arith, left))
