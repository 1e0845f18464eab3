use Rattle.std.proofs.Common.{sym, ap, ◌∙◌}
use mathlib.Core.Option.{some-injective}
use lib.ListN.{get_elem?}
use Rattle.future_cell.proofs.Steps.{rests}
use Rattle.future_cell.proofs.pairing.free_table.Goals as goal

pub expect_empty-requires : goal.expect_empty-requires
expect_empty-requires g c =
    let end = rests _ _ _ _ c.close_with-closed.ensures.values.2 c.requires.rests in
    some-injective _ _ (sym c.take.ensures.value ∙ end.0)

pub expect_empty-requires-2 : goal.expect_empty-requires-2
expect_empty-requires-2 g c =
    let end = rests _ _ _ _ c.close_with-closed.ensures.values.2 c.requires.rests in
    some-injective _ _ (sym c.take-2.ensures.value ∙ (ap (λ xs. get_elem? xs 1) c.take.ensures.others.0 ∙ end.1))
