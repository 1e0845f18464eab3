use Rattle.std.proofs.Common.{reverse, ap, sym, ◌∙◌}
use Rattle.std.proofs.lemmas.List.{reverse-reverse}
use Rattle.stack_items.specs.Items.{known_at}
use Rattle.stack_items.proofs.Decided.{known_at-set}
use Rattle.stack_items.proofs.stack.Stack.decide.Goals as goal

pub returns : goal.returns
returns c =
    let items = c.self.inside.items.items in
    reverse-reverse _ ∙ known_at-set c.args.i c.args.value items c.index_mut.result.now c.index_mut.ensures.value
    ∙ ap (known_at c.args.i c.args.value) (sym (reverse-reverse items) ∙ ap reverse c.self.view_is)
