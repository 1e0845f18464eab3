use Rattle.std.proofs.Common.{reverse, ap, sym, ◌∙◌}
use Rattle.std.proofs.lemmas.List.{reverse-reverse}
use Rattle.model_machine.specs.Machines.{with_known}
use Rattle.stack_items.proofs.Decided.{decided, none_decided}
use Rattle.stack_items.proofs.stack.Stack.decide_first.Goals as goal

pub returns-in-Some : goal.returns-in-Some
returns-in-Some c =
    sym (reverse-reverse c.decide.new.self)
    ∙ ap reverse (c.decide.ensures ∙ sym (decided c.args.value c.args.self.now c.in-Some.place (sym c.in-Some.ensures.value)))
    ∙ reverse-reverse (with_known c.args.value c.args.self.now)

pub returns-in_default : goal.returns-in_default
returns-in_default c = sym (none_decided c.args.value c.args.self.now (sym c.in_default.ensures.value))
