use Rattle.std.proofs.Common.{ℕ, List, subst}
use Rattle.model_database.specs.Transactions.{view}
use Rattle.model_recipes.specs.Turns.{IsAnswered}
use Rattle.model_recipes.specs.Queues.{push_call}
use Rattle.model_shell.specs.Recipes.{queue_space, nothing_said}
use Rattle.shell_recipes.proofs.Ending.{ends}
use Rattle.shell_recipes.proofs.calls.push_item.Goals as goal

pub returns-clause-ended : goal.returns-clause-ended
returns-clause-ended g c setting t stands =
    ends nothing_said setting (g.T.Tr.stands c.push-answer.new.tr setting) (push_call (queue_space c.args.queue.now) c.args.value.now (view setting t)) t
    c.args.text.now c.finish.new.text c.push-answer.result c.finish.result
    (subst (λ (space : List ℕ). IsAnswered c.push-answer.result setting (g.T.Tr.stands c.push-answer.new.tr setting)
    (push_call space c.args.value.now (view setting t)) t) (c.in_ok-space.ensures {u = tt})
    (subst (λ (bytes : List ℕ). IsAnswered c.push-answer.result setting (g.T.Tr.stands c.push-answer.new.tr setting)
    (push_call c.in_ok-space.space.prefix bytes (view setting t)) t) c.as_slice.ensures
    (c.push-answer.ensures.pushed setting t stands).answered))
    c.finish.ensures
