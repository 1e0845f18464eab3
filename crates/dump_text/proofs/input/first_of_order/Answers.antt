use Rattle.std.proofs.Common.{sym, ◌∙◌}
use Rattle.std.proofs.lemmas.List.{take_rest}
use Rattle.dump_text.proofs.Orders.{three_bytes}
use Rattle.dump_text.proofs.input.first_of_order.Goals as goal

pub returns-clause-lines : goal.returns-clause-lines
returns-clause-lines c =
    let bytes = c.args.bytes.now in
    rw (take_rest bytes 4) (three_bytes bytes (sym c.has_three.ensures ∙ c.if-not-has_three.false))
