use Rattle.std.proofs.Common.{ap, is_lt, sym, ◌∙◌}
use Rattle.std.proofs.lemmas.Bool.{not-true}
use Rattle.key_bytes.proofs.Orders.{lt_le}
use Rattle.ryw_view.proofs.near.is_up_to.Goals as goal

pub returns-in-Some : goal.returns-in-Some
returns-in-Some c = rw c.in-Some.is
    (λ is q below. lt_le q c.args.key.now c.in-Some.boundary.now below
    (sym (c.is_lt.ensures ∙ ap is_lt c.cmp.ensures) ∙ not-true c.is_lt.result is))
