use Rattle.std.proofs.Common.{ap}
use Rattle.future_cell.proofs.Steps.{fits, doubles}
use Rattle.future_cell.proofs.half.Half.split_over.Goals as goal

pub split_seat-requires : goal.split_seat-requires
split_seat-requires g c =
    let h = c.args.self.now in
    let at = fits _ _ _ h.sized (ap (λ t. t.shared.table_id) c.deref.ensures) h.seated in
    (at.0, at.1, doubles _ _ (ap (λ m. m.0) c.requires))
