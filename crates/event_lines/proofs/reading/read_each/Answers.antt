use Rattle.std.proofs.Common.{◌≡◌, ◌+◌, ◌≤◌, ◌∷◌, ◌++◌, [], Ok, length, sym, arith}
use Rattle.std.proofs.lemmas.Bool.{eqb-true}
use Rattle.std.proofs.lemmas.Result.{err_from_is_err_and}
use Rattle.model_lines.specs.Reading.{lines_of, input_limit, size_of}
use Rattle.model_events.specs.Events.{start, read_event, read_events, events_of}
use Rattle.dump_text.specs.InputLines.{line_is}
use Rattle.event_lines.specs.Lines.{place_is}
use Rattle.event_lines.proofs.EventReading.{line_goes_on, line_ends, all_read, before_nothing, within_limit}
use Rattle.event_lines.proofs.reading.read_each.Goals as goal

pub loop-left-init : goal.loop-left-init
loop-left-init c =
    record {
      all = rw c.new-events.ensures (before_nothing (read_events start (lines_of c.args.bytes.now)));
      within = omega arith;
      stands = omega arith;
      counted = omega arith;
      size = omega arith;
      pairs = omega arith;
      watches = omega arith;
    }

pub loop-left-smaller : goal.loop-left-smaller
loop-left-smaller c = omega (arith, c.first_line.ensures.less)

pub loop-left-preserved : goal.loop-left-preserved
loop-left-preserved c =
    let left = c.loop-left.left.now in
    let rest = c.first_line.result.1.now in
    let line = line_is c.first_line.result.0 in
    let event = c.in_ok-event.event in
    let front = c.loop-left.events in
    let place = place_is c.loop-left.number c.loop-left.place in
    let read : read_event place line ≡ Ok event = rw c.first_line.ensures.number at c.in_ok-event.ensures in
    let events_are : c.push.new.self ≡ front ++ event ∷ [] = c.in_ok-push.ensures.ok in
    let size : c.loop-left.place.bytes + size_of line ≤ input_limit = within_limit place line event read in
    let next = rw c.first_line.ensures.number at c.behind-place.ensures.next in
    let all = line_goes_on place (place_is (c.loop-left.number + 1) c.behind-place.result) left rest front event line
    (read_events start (lines_of c.args.bytes.now)) c.first_line.ensures.lines read next c.loop-left.invariant.all in
    record {
      all = rw events_are all;
      within = omega (arith, c.first_line.ensures.size, c.loop-left.invariant.within);
      stands = omega (arith, c.first_line.ensures.size, c.behind-place.ensures.bytes, c.loop-left.invariant.stands, c.loop-left.invariant.within);
      counted = omega (arith, c.first_line.ensures.less, c.loop-left.invariant.counted, c.loop-left.invariant.within);
      size = omega (arith, c.first_line.ensures.size, size, c.loop-left.invariant.stands, c.loop-left.invariant.within);
      pairs = omega (arith, c.behind-place.ensures.pairs, c.loop-left.invariant.pairs);
      watches = omega (arith, c.behind-place.ensures.watches, c.loop-left.invariant.watches);
    }

pub returns-in_err-event : goal.returns-in_err-event
unfolding events_of
returns-in_err-event c =
    let p = err_from_is_err_and c.from_residual.result c.from_residual.ensures.1 in
    let fault = c.in_err-event.field-0.0 in
    let rest = c.first_line.result.1.now in
    let line = line_is c.first_line.result.0 in
    let place = place_is c.loop-left.number c.loop-left.place in
    let fails = rw c.first_line.ensures.number at c.in_err-event.ensures in
    rw (p.1, p.2)
    (line_ends fault place c.loop-left.left.now rest c.loop-left.events line (read_events start (lines_of c.args.bytes.now))
    c.first_line.ensures.lines fails c.loop-left.invariant.all)

pub returns : goal.returns
unfolding events_of
returns c =
    all_read c.loop-left.left.now c.loop-left.events (place_is c.loop-left.number c.loop-left.place)
    (read_events start (lines_of c.args.bytes.now))
    (eqb-true (length c.loop-left.left.now) 0 (sym c.loop-left-test.ensures)) c.loop-left.invariant.all
