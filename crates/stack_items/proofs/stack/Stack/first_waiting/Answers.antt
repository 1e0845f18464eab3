use Rattle.std.proofs.Common.{◌≡◌, reverse, ap, ◌∙◌}
use Rattle.std.proofs.lemmas.List.{reverse-reverse}
use Rattle.stack_items.specs.Items.{waiting_place}
use Rattle.stack_items.proofs.Decided.{place_within, place_waits}
use Rattle.stack_items.proofs.stack.Stack.first_waiting.Goals as goal
use Rattle.stack_items.proofs.stack.Stack.first_waiting.Goals.{After-uppermost_waiting}

found : (c : After-uppermost_waiting) → c.uppermost_waiting.result ≡ waiting_place c.args.self.now
found c = c.uppermost_waiting.ensures ∙ ap waiting_place (ap reverse c.as_slice.ensures.items ∙ reverse-reverse c.args.self.now)

pub returns-clause-within : goal.returns-clause-within
returns-clause-within c = place_within c.uppermost_waiting.result c.args.self.now (found c)

pub returns-clause-waits : goal.returns-clause-waits
returns-clause-waits c = place_waits c.uppermost_waiting.result c.args.self.now (found c)
