use Rattle.std.proofs.Common.{◌≡◌, [], ◌∷◌}
use Rattle.std.specs.Prelude.{codes}
use Rattle.std.proofs.lemmas.Result.{on_err_weaker}
use Rattle.model_machine.specs.StackOperations.{text}
use Rattle.stack_items.proofs.Pushing.{pushed-EndsIn}
use Rattle.stack_items.proofs.stack.Stack.push_stamped.Goals as goal

pub returns-in_ok-push_text-in-Ok-clause-err : goal.returns-in_ok-push_text-in-Ok-clause-err
returns-in_ok-push_text-in-Ok-clause-err c =
    on_err_weaker c.push.result
    (λ (same : c.push.new.self ≡ c.push_text.new.self). rw (same, c.in_ok-push_text-in-Ok.ensures.ok) (pushed-EndsIn c.args.instruction (text (codes "OK") ∷ []) c.args.self.now))
    c.push.ensures.err
