use Rattle.std.proofs.Common.{◌-◌, ◌++◌, take, drop, length, slice_index_or, append_assoc, refl, ◌∙◌, arith}
use Rattle.model_lines.specs.Printing.{printed, printable}
use Rattle.dump_text.proofs.Runs.{print_first, print_done}
use Rattle.dump_text.proofs.room.put_forms.Goals as goal

pub loop-left-preserved : goal.loop-left-preserved
loop-left-preserved c =
    let left = c.loop-left.left.now in
    let front = take c.loop-left.end c.loop-left.room in
    let total = take c.args.at c.args.room.now ++ printable c.args.bytes.now in
    let byte = slice_index_or left 0 0 in
    let rest = take (length left - 1) (drop 1 left) in
    let put = c.put_form-end.ensures in
    record {
      all = rw put.front (append_assoc front (printed byte) (printable rest)
          ∙ print_first front left total byte c.in-len1-up.len_at_least refl c.loop-left.invariant.all);
      fits = omega (arith, put.end, c.loop-left.invariant.fits, c.in-len1-up.len_at_least);
    }

pub returns-clause-front : goal.returns-clause-front
returns-clause-front c =
    print_done (take c.loop-left.end c.loop-left.room) c.loop-left.left.now
    (take c.args.at c.args.room.now ++ printable c.args.bytes.now) c.in_default.len_below c.loop-left.invariant.all
