use Rattle.std.proofs.Common.{◌≡◌, true, false, is_lt, refl, sym, ap, subst, ◌∙◌}
use Rattle.std.specs.Option.{option_copied}
use Rattle.key_bytes.proofs.Orders.{lt_le, lt_trans}
use Rattle.ryw_view.specs.Walks.{is_inside}
use Rattle.ryw_view.proofs.near.nearer.Goals as goal

pub returns-in-None-clause-below : goal.returns-in-None-clause-below
returns-in-None-clause-below c q below = (below, subst (λ boundary. is_inside (option_copied boundary) false q ≡ true) (sym c.in-None.is) refl)

pub returns-then-is_lt-clause-below : goal.returns-then-is_lt-clause-below
returns-then-is_lt-clause-below c q below = (
  lt_trans q c.in-Some.boundary.now c.args.end.now below (ap is_lt (sym c.cmp.ensures) ∙ sym c.is_lt.ensures ∙ c.if-is_lt.true),
  subst (λ boundary. is_inside (option_copied boundary) false q ≡ true) (sym c.in-Some.is) below,
)

pub returns-then-is_lt-clause-nearest : goal.returns-then-is_lt-clause-nearest
returns-then-is_lt-clause-nearest c q _ inside = subst (λ boundary. is_inside (option_copied boundary) false q ≡ true) c.in-Some.is inside

pub returns-else-is_lt-clause-below : goal.returns-else-is_lt-clause-below
returns-else-is_lt-clause-below c q below = (
  below,
  subst (λ boundary. is_inside (option_copied boundary) false q ≡ true) (sym c.in-Some.is)
      (lt_le q c.args.end.now c.in-Some.boundary.now below (ap is_lt (sym c.cmp.ensures) ∙ sym c.is_lt.ensures ∙ c.if-is_lt.false)),
)
