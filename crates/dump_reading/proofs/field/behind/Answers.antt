use Rattle.std.proofs.Common.{get_or, arith}
use Rattle.std.proofs.lemmas.Bool.{eq-eqb, ne_eqb}
use Rattle.std.proofs.lemmas.List.{take_rest}
use Rattle.dump_reading.specs.Fields.{behind}
use Rattle.dump_reading.proofs.FieldSteps.{next_matches, next_differs, none_is_next, word_ends}
use Rattle.dump_reading.proofs.field.behind.Goals.{then-i-bytes-via-then-i-bytes, then-i-bytes-via-else-i-bytes+then-bytes-i}
use Rattle.dump_reading.proofs.field.behind.Goals as goal

pub returns-then-i-bytes : goal.returns-then-i-bytes
returns-then-i-bytes c =
    let word = c.args.word.now in
    let bytes = c.args.bytes.now in
    let i = c.loop-i.i in
    elim c.then-i-bytes.branch [
      | then-i-bytes-via-then-i-bytes w ↦ none_is_next word bytes i (behind word bytes) (omega (arith, c.loop-i-test.true)) (omega (arith, w.if-i-bytes.true)) c.loop-i.invariant.all
      | then-i-bytes-via-else-i-bytes+then-bytes-i w ↦ next_differs word bytes i (behind word bytes) (omega (arith, c.loop-i-test.true)) (omega (arith, w.if-i-bytes.false))
          (ne_eqb (get_or bytes i 0) (get_or word i 0) w.if-bytes-i.true) c.loop-i.invariant.all
    ]

pub loop-i-preserved : goal.loop-i-preserved
loop-i-preserved c =
    let word = c.args.word.now in
    let bytes = c.args.bytes.now in
    let i = c.loop-i.i in
    record {
      all = next_matches word bytes i (behind word bytes) (omega (arith, c.loop-i-test.true)) (omega (arith, c.if-i-bytes.false))
          (eq-eqb (get_or bytes i 0) (get_or word i 0) c.if-bytes-i.false) c.loop-i.invariant.all;
      in_word = omega (arith, c.loop-i-test.true);
      within = omega (arith, c.if-i-bytes.false);
    }

pub returns : goal.returns
returns c = rw (take_rest c.args.bytes.now c.loop-i.i)
    (word_ends c.args.word.now c.args.bytes.now c.loop-i.i (behind c.args.word.now c.args.bytes.now) (omega (arith, c.loop-i-test.false)) c.loop-i.invariant.all)
