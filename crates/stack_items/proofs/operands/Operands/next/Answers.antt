use Rattle.std.proofs.Common.{◌≡◌, List, ◌∷◌, reverse, drop, sym, ap, ◌∙◌}
use Rattle.model_machine.specs.declared.Item.{Item}
use Rattle.stack_items.specs.Looks.{Look, left_in}
use Rattle.stack_items.proofs.Below.{drop_next}
use Rattle.stack_items.proofs.Reversals.{drop-reverse_within}
use Rattle.stack_items.proofs.operands.Operands.next.Goals as goal

pub returns : goal.returns
returns c =
    let items = reverse c.self.inside.items.now in
    let popped = c.self.inside.popped in
    let item = c.in_ok-item.item.now in
    let below = c.in_ok-item.ensures.0 in
    let lies : drop popped items ≡ item ∷ below = drop-reverse_within popped c.self.inside.items.now c.self.invariant ∙ c.in_ok-item.ensures.1 in (
      ap (λ (look : Look). look.whole) c.self.view_is,
      ap left_in (sym c.self.view_is) ∙ lies ∙ ap (λ (rest : List Item). item ∷ rest) (sym (drop_next popped items item below lies)),
    )
