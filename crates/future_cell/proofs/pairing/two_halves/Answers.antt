use Rattle.std.proofs.Common.{ap, rules}
use Rattle.future_cell.proofs.Steps.{parts}
use Rattle.future_cell.proofs.pairing.two_halves.Goals as goal

pub split_seat-other-requires : goal.split_seat-other-requires
split_seat-other-requires g c =
    (search rules, search rules, parts _ _ (ap (λ m. m.0) c.in_ok-table.ensures.4))
