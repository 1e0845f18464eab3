use Rattle.std.proofs.Common.{◌≡◌, [], ◌∷◌, ap}
use Rattle.std.proofs.lemmas.Result.{IfErr-at_err}
use Rattle.model_machine.specs.Operands.{left_of}
use Rattle.stack_items.proofs.Pushing.{pushed-EndsIn}
use Rattle.stack_items.proofs.stack.Stack.tuple_range.Goals as goal

pub returns-clause-memory : goal.returns-clause-memory
returns-clause-memory c e =
    let unchanged = IfErr-at_err (λ _. c.push-2.new.self ≡ c.push.new.self) e c.push-2.ensures.err in
    rw (ap (left_of c.args.self.now) c.in_ok-tuple.ensures.popped, unchanged, c.in_ok-push.ensures.ok) (pushed-EndsIn c.args.instruction (_ ∷ []) c.pop_tuple.new.self)
