use Rattle.std.proofs.Common.{◌≡◌, length, sym, ap, ◌∙◌, arith}
use Rattle.std.proofs.lemmas.List.{length-reverse}
use Rattle.stack_items.specs.Items.{IsItem}
use Rattle.stack_items.proofs.Reversals.{reverse-swap_last, all-swap}
use Rattle.stack_items.proofs.stack.Stack.swap_top.Goals as goal

pub invariant_of-self : goal.invariant_of-self
invariant_of-self c =
    let items = c.self.inside.items in
    let same : length items.items ≡ length c.args.self.now = sym (length-reverse items.items) ∙ ap length c.self.view_is in
    rw c.swap.ensures.items (all-swap IsItem items.items _ _ (omega (arith, items.ok.0)) (omega (arith, items.ok.0)) c.self.invariant)

pub returns : goal.returns
returns c =
    let items = c.self.inside.items in
    let same : length items.items ≡ length c.args.self.now = sym (length-reverse items.items) ∙ ap length c.self.view_is in
    rw (← c.self.view_is, c.swap.ensures.items, c.len-top.ensures, items.ok.0) (reverse-swap_last items.items c.args.depth (omega arith))
