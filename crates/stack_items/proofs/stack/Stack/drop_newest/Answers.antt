use Rattle.std.proofs.Common.{◌≡◌, ◌-◌, length, take, reverse, ap, ◌∙◌, arith}
use Rattle.stack_items.proofs.Reversals.{kept_is}
use Rattle.stack_items.proofs.stack.Stack.drop_newest.Goals as goal

pub returns : goal.returns
returns c =
    let stack = c.args.self.now in
    let first : c.saturating_sub.result ≡ length stack - c.args.count = omega arith in
    kept_is c.args.count stack c.keep_oldest.new.self (c.keep_oldest.ensures ∙ ap (λ n. take n (reverse stack)) first)
