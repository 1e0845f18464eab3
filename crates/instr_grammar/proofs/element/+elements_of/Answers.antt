use Rattle.std.proofs.Common.{add-one, arith}
use Rattle.std.proofs.lemmas.Result.{err_from_is_err_and}
use Rattle.instr_grammar.proofs.Elements.{reading_ends, reading_holds, reading_opens, reading_deeper, reading_stops, reading_stops_inside, held_is_element, inner_is_element}
use Rattle.instr_grammar.proofs.element.+elements_of.Goals as goal

pub returns-in_err-part : goal.returns-in_err-part
returns-in_err-part t c =
    let p = err_from_is_err_and c.from_residual.result c.from_residual.ensures.1 in
    rw (p.1, p.2)
    (reading_stops c.args.around c.args.bytes.now c.loop-tuple.rest.now c.loop-tuple.tuple c.loop-tuple.first c.loop-tuple.invariant c.in_err-part.field-0.0 c.in_err-part.ensures)

pub returns-in-Ends : goal.returns-in-Ends
returns-in-Ends t c =
    let ends = rw c.in-Ends.is at c.in_ok-part.ensures in
    reading_ends c.args.around c.args.bytes.now c.loop-tuple.rest.now c.loop-tuple.tuple c.loop-tuple.first c.loop-tuple.invariant c.in_ok-part.after.now ends

pub elements_of-requires : goal.elements_of-requires
elements_of-requires t c =
    let opens = rw c.in-Opens.is at c.in_ok-part.ensures in
    let deeper = reading_deeper c.args.around c.args.bytes.now c.loop-tuple.rest.now c.loop-tuple.tuple c.loop-tuple.first c.loop-tuple.invariant c.in_ok-part.after.now opens in
    omega (arith, deeper.1)

pub returns-in_err-inner-in-Opens : goal.returns-in_err-inner-in-Opens
returns-in_err-inner-in-Opens t c =
    let opens = rw c.in-Opens.is at c.in_ok-part.ensures in
    let p = err_from_is_err_and c.from_residual-in_err-inner-in-Opens.result c.from_residual-in_err-inner-in-Opens.ensures.1 in
    let inside = rw add-one at c.in_err-inner-in-Opens.ensures in
    rw (p.1, p.2)
    (reading_stops_inside c.args.around c.args.bytes.now c.loop-tuple.rest.now c.loop-tuple.tuple c.loop-tuple.first c.loop-tuple.invariant c.in_ok-part.after.now c.in_err-inner-in-Opens.field-0.0 opens inside)

pub add-requires : goal.add-requires
add-requires t c =
    let opens = rw c.in-Opens.is at c.in_ok-part.ensures in
    let deeper = reading_deeper c.args.around c.args.bytes.now c.loop-tuple.rest.now c.loop-tuple.tuple c.loop-tuple.first c.loop-tuple.invariant c.in_ok-part.after.now opens in
    inner_is_element c.args.around c.in_ok-part.after.now c.in_ok-inner-in-Opens.others.now c.in_ok-inner-in-Opens.inner (omega (arith, deeper.1)) (rw add-one at c.in_ok-inner-in-Opens.ensures)

pub loop-tuple-smaller-in_ok-add-in-Opens : goal.loop-tuple-smaller-in_ok-add-in-Opens
loop-tuple-smaller-in_ok-add-in-Opens t c =
    let opens = rw c.in-Opens.is at c.in_ok-part.ensures in
    (reading_opens c.args.around c.args.bytes.now c.loop-tuple.rest.now c.loop-tuple.tuple c.loop-tuple.first c.loop-tuple.invariant c.in_ok-part.after.now c.in_ok-inner-in-Opens.inner c.in_ok-inner-in-Opens.others.now c.add.new.tuple opens
    (rw add-one at c.in_ok-inner-in-Opens.ensures) c.in_ok-add-in-Opens.ensures.added).1

pub loop-tuple-preserved-in_ok-add-in-Opens : goal.loop-tuple-preserved-in_ok-add-in-Opens
loop-tuple-preserved-in_ok-add-in-Opens t c =
    let opens = rw c.in-Opens.is at c.in_ok-part.ensures in
    (reading_opens c.args.around c.args.bytes.now c.loop-tuple.rest.now c.loop-tuple.tuple c.loop-tuple.first c.loop-tuple.invariant c.in_ok-part.after.now c.in_ok-inner-in-Opens.inner c.in_ok-inner-in-Opens.others.now c.add.new.tuple opens
    (rw add-one at c.in_ok-inner-in-Opens.ensures) c.in_ok-add-in-Opens.ensures.added).0

pub add-requires-in-Holds : goal.add-requires-in-Holds
add-requires-in-Holds t c = held_is_element c.args.around c.args.bytes.now c.loop-tuple.rest.now c.loop-tuple.tuple c.loop-tuple.first c.loop-tuple.invariant c.in-Holds.element c.in_ok-part.after.now (rw c.in-Holds.is at c.in_ok-part.ensures)

pub loop-tuple-smaller : goal.loop-tuple-smaller
loop-tuple-smaller t c =
    (reading_holds c.args.around c.args.bytes.now c.loop-tuple.rest.now c.loop-tuple.tuple c.loop-tuple.first c.loop-tuple.invariant c.in-Holds.element c.in_ok-part.after.now c.add-in-Holds.new.tuple
    (rw c.in-Holds.is at c.in_ok-part.ensures) c.in_ok-add-in-Holds.ensures.added).1

pub loop-tuple-preserved : goal.loop-tuple-preserved
loop-tuple-preserved t c =
    (reading_holds c.args.around c.args.bytes.now c.loop-tuple.rest.now c.loop-tuple.tuple c.loop-tuple.first c.loop-tuple.invariant c.in-Holds.element c.in_ok-part.after.now c.add-in-Holds.new.tuple
    (rw c.in-Holds.is at c.in_ok-part.ensures) c.in_ok-add-in-Holds.ensures.added).0
