use Rattle.std.proofs.Common.{◌≡◌, ◌-◌, length, map, drop, take, reverse, ap, ◌∙◌, arith}
use Rattle.std.specs.List.{enumerate_from}
use Rattle.std.proofs.lemmas.List.{take_rest}
use Rattle.model_machine.specs.declared.TheConstants.{LOG_BATCH}
use Rattle.model_machine.specs.Calls.{log_entry}
use Rattle.stack_items.proofs.Reversals.{drop-reverse}
use Rattle.stack_items.proofs.stack.Stack.take_log.Goals as goal

pub returns-clause-entries : goal.returns-clause-entries
returns-clause-entries c =
    let stack = c.args.self.now in
    let place = c.saturating_sub-first.result in
    let first : place ≡ length stack - LOG_BATCH = omega arith in
    let items : take (length c.as_slice.result.now - place) (drop place c.as_slice.result.now) ≡ drop place (reverse stack) =
    take_rest c.as_slice.result.now place ∙ ap (drop place) c.as_slice.ensures.items in
    c.in_ok-entries.ensures
    ∙ ap (λ items. map log_entry (enumerate_from place items)) items
    ∙ ap (λ n. map log_entry (enumerate_from n (drop n (reverse stack)))) first
    ∙ ap (λ items. map log_entry (enumerate_from (length stack - LOG_BATCH) items)) (drop-reverse LOG_BATCH stack)
