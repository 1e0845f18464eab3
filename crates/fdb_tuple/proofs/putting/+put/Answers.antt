use Rattle.std.proofs.Common.{ap, arith, append_assoc, refl}
use Rattle.std.proofs.lemmas.Result.{err_from_is_err_and}
use Rattle.fdb_tuple.specs.Tuples.{weight}
use Rattle.fdb_tuple.proofs.Fronts.{front_kept}
use Rattle.fdb_tuple.proofs.Spellings.{spelled_in_more}
use Rattle.fdb_tuple.proofs.Weights.{weight_within}
use Rattle.fdb_tuple.proofs.putting.+put.Goals as goal

pub put_tuple-put_element-requires : goal.put_tuple-put_element-requires
put_tuple-put_element-requires t c =
    let items = c.as_slice-element-items.result.now in
    let within = weight_within items c.loop-element.element-index c.element-item.result (omega arith) c.element-item.is in
    (omega (arith, within, ap weight c.as_slice-element-items.ensures.tuple), tt)

pub put_tuple-returns-in_err-put_element-clause-err : goal.put_tuple-returns-in_err-put_element-clause-err
put_tuple-returns-in_err-put_element-clause-err t c =
    let refused = err_from_is_err_and c.from_residual.result c.from_residual.ensures.1 in
    rw refused.1 (front_kept _ _ _ _ c.loop-element.invariant c.in_err-put_element.ensures.err)

pub put_tuple-loop-element-preserved : goal.put_tuple-loop-element-preserved
put_tuple-loop-element-preserved t c =
    let items = c.as_slice-element-items.result.now in
    let more = spelled_in_more c.args.nested items c.loop-element.element-index c.element-item.result (omega arith) c.element-item.is in
    rw (more, c.in_ok-put_element.ensures.ok, c.loop-element.invariant, append_assoc) refl
