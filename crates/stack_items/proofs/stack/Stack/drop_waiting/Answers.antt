use Rattle.std.proofs.Common.{sym, ap, take, reverse, ◌∙◌}
use Rattle.stack_items.proofs.Decided.{kept_below}
use Rattle.stack_items.proofs.stack.Stack.drop_waiting.Goals as goal

pub returns : goal.returns
returns c =
    kept_below c.first_waiting.result c.args.self.now c.keep_oldest.new.self (sym c.first_waiting.ensures.value)
    (c.keep_oldest.ensures ∙ ap (λ n. take n (reverse c.args.self.now)) c.unwrap_or-below.ensures)
