use Rattle.std.proofs.Common.{◌≡◌, ◌+◌, ◌∷◌, ◌++◌, [], Ok, length, ap, sym, arith}
use Rattle.std.proofs.lemmas.Bool.{eqb-true}
use Rattle.std.proofs.lemmas.Result.{err_from_is_err_and}
use Rattle.model_lines.specs.Reading.{Place, start, next_place, lines_of, is_pair}
use Rattle.dump_reading.specs.Dumps.{read_line, read_lines, dump_in}
use Rattle.dump_reading.specs.Seen.{line_is, place_is}
use Rattle.dump_reading.proofs.DumpSteps.{is_read, before_nothing, line_goes_on, line_ends, all_read}
use Rattle.dump_reading.proofs.PairLines.{length-feed}
use Rattle.dump_reading.proofs.dump.read_all.Goals as goal

pub loop-left-init : goal.loop-left-init
unfolding dump_in
loop-left-init c = record {
  all = rw c.new-lines.ensures (before_nothing (read_lines 0 start (lines_of c.args.bytes.now)));
  sum = omega arith;
  size = omega arith;
  counted = omega arith;
  few = omega arith;
}

pub returns-in_err-value : goal.returns-in_err-value
returns-in_err-value c =
    let p = err_from_is_err_and c.from_residual.result c.from_residual.ensures.1 in
    let place = place_is c.loop-left.number c.loop-left.place in
    let fails = rw c.first_line.ensures.number at c.in_err-value.ensures in
    rw (p.1, p.2)
    (line_ends c.in_err-value.field-0.0 c.loop-left.rank place c.loop-left.left.now c.first_line.result.1.now c.loop-left.lines
    (line_is c.first_line.result.0) (dump_in c.args.bytes.now) c.first_line.ensures.lines fails c.loop-left.invariant.all)

pub loop-left-preserved : goal.loop-left-preserved
loop-left-preserved c =
    let rank = c.loop-left.rank in
    let place = place_is c.loop-left.number c.loop-left.place in
    let line = line_is c.first_line.result.0 in
    let front = c.loop-left.lines in
    let value = c.in_ok-value.value in
    let read : read_line rank place line ≡ Ok value = rw c.first_line.ensures.number at c.in_ok-value.ensures in
    let lines_are : c.push.new.self ≡ front ++ value ∷ [] = c.in_ok-push.ensures.ok in
    let behind : place_is (c.loop-left.number + 1) c.place_behind-place.result ≡ next_place place line =
    rw c.first_line.ensures.number at c.place_behind-place.ensures in
    let bytes_are = ap (λ (x : Place). x.bytes) behind in
    let pairs_are = ap (λ (x : Place). x.pairs) behind in
    let size = (is_read rank place line value read).0.size in
    let all = line_goes_on rank place c.loop-left.left.now c.first_line.result.1.now front value line (dump_in c.args.bytes.now)
    c.first_line.ensures.lines read c.loop-left.invariant.all in
    record {
      all = rw (lines_are, behind, c.rank_of-rank.ensures) all;
      sum = omega (arith, bytes_are, c.first_line.ensures.size, c.loop-left.invariant.sum);
      size = omega (arith, bytes_are, size);
      counted = omega (arith, bytes_are, c.first_line.ensures.size, c.first_line.ensures.less, c.loop-left.invariant.counted);
      few = omega (arith, pairs_are, length-feed (is_pair line.bytes), c.loop-left.invariant.few);
    }

pub returns : goal.returns
returns c =
    all_read c.loop-left.rank (place_is c.loop-left.number c.loop-left.place) c.loop-left.left.now c.loop-left.lines (dump_in c.args.bytes.now)
    (eqb-true (length c.loop-left.left.now) 0 (sym c.loop-left-test.ensures)) c.loop-left.invariant.all
