use Rattle.std.proofs.Common.{◌≡◌, [], ◌++◌, get_or, length, take, ap, ◌∙◌, arith}
use Rattle.model_lines.specs.Printing.{printed}
use Rattle.dump_text.specs.declared.room.TheConstants.{FORMS, LENGTHS}
use Rattle.dump_text.proofs.Rooms.{front_placed, form_is, form_long, form_short}
use Rattle.dump_text.proofs.room.put_form.Goals as goal

pub returns-clause-front : goal.returns-clause-front
returns-clause-front c =
    let byte = c.args.byte in
    let row = get_or FORMS byte [] in
    let four : length row ≡ 4 = form_long byte (omega arith) in
    let count : c.from-3.result ≡ get_or LENGTHS byte 0 = rw c.from-2.ensures at c.from-3.ensures in
    let form : take c.from-3.result row ≡ printed byte = ap (λ n. take n row) count ∙ form_is byte (omega arith) in
    rw c.from.ensures
    (front_placed c.args.at c.from-3.result 4 c.args.room.now row (omega (arith, four))
    (omega (arith, count, form_short byte (omega arith))) (omega (arith, four)) ∙ ap (λ x. take c.args.at c.args.room.now ++ x) form)

pub returns-clause-end : goal.returns-clause-end
returns-clause-end c =
    let count : c.from-3.result ≡ get_or LENGTHS c.args.byte 0 = rw c.from-2.ensures at c.from-3.ensures in
    omega (arith, count, form_short c.args.byte (omega arith))
