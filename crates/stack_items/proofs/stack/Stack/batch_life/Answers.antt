use Rattle.std.proofs.Common.{◌≡◌, ◌-◌, length, drop, take, reverse, ap, ◌∙◌, arith}
use Rattle.std.proofs.lemmas.List.{take_rest, reverse-reverse}
use Rattle.model_machine.specs.declared.TheConstants.{LOG_BATCH}
use Rattle.model_machine.specs.Machines.{first_life}
use Rattle.stack_items.proofs.Reversals.{drop-reverse}
use Rattle.stack_items.proofs.stack.Stack.batch_life.Goals as goal

pub returns : goal.returns
returns c =
    let stack = c.args.self.now in
    let place = c.saturating_sub-first.result in
    let first : place ≡ length stack - LOG_BATCH = omega arith in
    c.uppermost_life.ensures
    ∙ ap (λ items. first_life (reverse items)) (take_rest c.as_slice.result.now place ∙ ap (drop place) c.as_slice.ensures.items)
    ∙ ap (λ n. first_life (reverse (drop n (reverse stack)))) first
    ∙ ap (λ items. first_life (reverse items)) (drop-reverse LOG_BATCH stack)
    ∙ ap first_life (reverse-reverse (take LOG_BATCH stack))
