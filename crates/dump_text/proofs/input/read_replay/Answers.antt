use Rattle.std.proofs.Common.{◌≡◌, ◌∷◌, ◌++◌, [], Ok, sym, arith}
use Rattle.std.proofs.lemmas.Result.{err_from_is_err_and}
use Rattle.model_lines.specs.Reading.{start, lines_of}
use Rattle.model_input.specs.Orders.{read_machine}
use Rattle.model_input.specs.Forms.{read_replay}
use Rattle.model_input.proofs.Machines.{is_read}
use Rattle.dump_text.specs.InputLines.{line_is}
use Rattle.dump_text.specs.Places.{place_at}
use Rattle.dump_text.proofs.Replays.{machine_goes_on, machine_ends, pairs_follow, pairs_end}
use Rattle.dump_text.proofs.input.read_replay.Goals as goal

pub returns-in_err-machine : goal.returns-in_err-machine
returns-in_err-machine c =
    let p = err_from_is_err_and c.from_residual.result c.from_residual.ensures.1 in
    let fault = c.in_err-machine.field-0.0 in
    let bytes = c.args.bytes.now in
    let left = c.loop-place.left.now in
    let place = place_at c.loop-place.number bytes left [] in
    let fails = rw c.first_of_order.ensures.number at c.in_err-machine.ensures in
    rw (p.1, p.2)
    (machine_ends fault place left c.first_of_order.result.1.now c.loop-place.order (line_is c.first_of_order.result.0)
    (read_replay start (lines_of bytes)) (sym c.loop-place-test.ensures) c.first_of_order.ensures.lines fails c.loop-place.invariant.all)

pub loop-place-smaller : goal.loop-place-smaller
loop-place-smaller c = omega (arith, c.first_of_order.ensures.less)

pub loop-place-preserved : goal.loop-place-preserved
loop-place-preserved c =
    let bytes = c.args.bytes.now in
    let left = c.loop-place.left.now in
    let rest = c.first_of_order.result.1.now in
    let line = line_is c.first_of_order.result.0 in
    let machine = c.in_ok-machine.machine in
    let front = c.loop-place.order in
    let read : read_machine (place_at c.loop-place.number bytes left []) line ≡ Ok machine =
    rw c.first_of_order.ensures.number at c.in_ok-machine.ensures in
    let order_is : c.push.new.self ≡ front ++ machine ∷ [] = c.in_ok-push.ensures.ok in
    let size = (is_read (place_at c.loop-place.number bytes left []) line machine read).size in
    let all = machine_goes_on c.loop-place.number bytes left rest front machine line (read_replay start (lines_of bytes))
    (sym c.loop-place-test.ensures) c.first_of_order.ensures.lines c.first_of_order.ensures.size c.loop-place.invariant.within read
    c.loop-place.invariant.all in
    record {
      all = rw order_is all;
      within = omega (arith, c.first_of_order.ensures.size);
      counted = omega (arith, c.first_of_order.ensures.less);
      size = omega (arith, c.first_of_order.ensures.size, size);
    }

pub returns-in_err-pairs : goal.returns-in_err-pairs
returns-in_err-pairs c =
    let p = err_from_is_err_and c.from_residual-in_err-pairs.result c.from_residual-in_err-pairs.ensures.1 in
    let bytes = c.args.bytes.now in
    let left = c.loop-place.left.now in
    rw (p.1, p.2)
    (pairs_end c.in_err-pairs.field-0.0 (place_at c.loop-place.number bytes left []) left c.loop-place.order
    (read_replay start (lines_of bytes)) (sym c.loop-place-test.ensures) c.in_err-pairs.ensures c.loop-place.invariant.all)

pub returns : goal.returns
returns c = pairs_follow (place_at c.loop-place.number c.args.bytes.now c.loop-place.left.now []) c.loop-place.left.now c.loop-place.order
    c.in_ok-pairs.pairs (read_replay start (lines_of c.args.bytes.now)) (sym c.loop-place-test.ensures) c.in_ok-pairs.ensures
    c.loop-place.invariant.all
