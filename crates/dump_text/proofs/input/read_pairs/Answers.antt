use Rattle.std.proofs.Common.{◌≡◌, ◌∷◌, ◌++◌, [], Ok, length, sym, arith}
use Rattle.std.proofs.lemmas.Bool.{eqb-true}
use Rattle.std.proofs.lemmas.Result.{err_from_is_err_and}
use Rattle.key_bytes.specs.Entries.{entry_of}
use Rattle.model_lines.specs.Reading.{lines_of, read_line, read_lines}
use Rattle.dump_text.specs.InputLines.{line_is}
use Rattle.dump_text.specs.Places.{place_at}
use Rattle.dump_text.proofs.Inputs.{line_goes_on, line_ends, all_read, before_nothing}
use Rattle.model_lines.proofs.ReadLines.{is_read}
use Rattle.dump_text.proofs.input.read_pairs.Goals as goal

pub loop-left-init : goal.loop-left-init
loop-left-init c =
    let args = c.args in
    record {
      all = rw c.new-pairs.ensures (before_nothing (read_lines (place_at args.number args.bytes.now args.left.now []) (lines_of args.left.now)));
      within = c.requires.within;
      counted = c.requires.counted;
      size = c.requires.size;
    }

pub returns-in_err-pair : goal.returns-in_err-pair
returns-in_err-pair c =
    let p = err_from_is_err_and c.from_residual.result c.from_residual.ensures.1 in
    let fault = c.in_err-pair.field-0.0 in
    let bytes = c.args.bytes.now in
    let left = c.loop-left.left.now in
    let rest = c.first_line.result.1.now in
    let line = line_is c.first_line.result.0 in
    let front = c.loop-left.pairs in
    let place = place_at c.loop-left.number bytes left front in
    let fails = rw (c.first_line.ensures.number, c.len.ensures) at c.in_err-pair.ensures in
    rw (p.1, p.2)
    (line_ends fault place left rest front line (read_lines (place_at c.args.number bytes c.args.left.now []) (lines_of c.args.left.now)) c.first_line.ensures.lines fails c.loop-left.invariant.all)

pub loop-left-smaller : goal.loop-left-smaller
loop-left-smaller c = omega (arith, c.first_line.ensures.less)

pub loop-left-preserved : goal.loop-left-preserved
loop-left-preserved c =
    let bytes = c.args.bytes.now in
    let left = c.loop-left.left.now in
    let rest = c.first_line.result.1.now in
    let line = line_is c.first_line.result.0 in
    let entry = entry_of c.in_ok-pair.pair in
    let front = c.loop-left.pairs in
    let read : read_line (place_at c.loop-left.number bytes left front) line ≡ Ok entry =
    rw (c.first_line.ensures.number, c.len.ensures) at c.in_ok-pair.ensures in
    let pairs_are : c.push.new.self ≡ front ++ entry ∷ [] = c.in_ok-push.ensures.ok in
    let size = (is_read (place_at c.loop-left.number bytes left front) line entry read).size in
    let all = line_goes_on c.loop-left.number bytes left rest front entry line
    (read_lines (place_at c.args.number bytes c.args.left.now []) (lines_of c.args.left.now)) c.first_line.ensures.lines c.first_line.ensures.size c.loop-left.invariant.within read c.loop-left.invariant.all in
    record {
      all = rw pairs_are all;
      within = omega (arith, c.first_line.ensures.size);
      counted = omega (arith, c.first_line.ensures.less);
      size = omega (arith, c.first_line.ensures.size, size);
    }

pub returns : goal.returns
returns c = all_read c.loop-left.left.now c.loop-left.pairs
    (place_at c.loop-left.number c.args.bytes.now c.loop-left.left.now c.loop-left.pairs) (read_lines (place_at c.args.number c.args.bytes.now c.args.left.now []) (lines_of c.args.left.now))
    (eqb-true (length c.loop-left.left.now) 0 (sym c.loop-left-test.ensures)) c.loop-left.invariant.all
