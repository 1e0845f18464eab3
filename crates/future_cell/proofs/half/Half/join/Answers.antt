use Rattle.std.proofs.Common.{sym, ap, ◌∙◌}
use Rattle.future_cell.proofs.Steps.{fits, meets}
use Rattle.future_cell.proofs.half.Half.join.Goals as goal

pub join_seat-requires : goal.join_seat-requires
join_seat-requires g c =
    let h = c.args.self in
    let at = fits _ _ _ h.sized (ap (λ t. t.shared.table_id) c.deref.ensures) h.seated in
    (at.0, sym c.requires.cell ∙ at.0, ap (λ m. m.1) c.requires.waits, at.1, meets _ _ _ _ _ _ (ap (λ m. m.0) c.requires.set.1.1) (ap (λ m. m.0) c.requires.waits))
