use Rattle.std.proofs.Common.{◌≡◌, ◌++◌, sym, ◌∙◌, arith, rules}
use Rattle.std.proofs.lemmas.Bool.{eqb-true}
use Rattle.model_lines.specs.Printing.{printable}
use Rattle.dump_text.proofs.Runs.{parts_printed, print_done}
use Rattle.dump_text.proofs.printing.add_printable.Goals as goal

pub returns-then-is_empty-clause-ok : goal.returns-then-is_empty-clause-ok
returns-then-is_empty-clause-ok c =
    let s = c.split_plain in
    let to = c.args.to.now.items in
    let bytes = c.args.bytes.now in
    let none = eqb-true _ 0 (sym c.is_empty.ensures ∙ c.if-is_empty.true) in
    let whole : to ++ s.result.0.now ≡ to ++ printable bytes =
    print_done (to ++ s.result.0.now) s.result.1.now (to ++ printable bytes) (omega (arith, none))
    (parts_printed to bytes s.result.0.now s.result.1.now s.ensures.front s.ensures.rest) in
    rw (← whole) (search rules)
