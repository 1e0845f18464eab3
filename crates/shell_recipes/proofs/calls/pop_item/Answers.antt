use Rattle.std.proofs.Common.{ℕ, List, subst}
use Rattle.model_database.specs.Transactions.{view}
use Rattle.model_recipes.specs.Turns.{IsAnswered}
use Rattle.model_recipes.specs.Queues.{pop_call}
use Rattle.model_shell.specs.Recipes.{queue_space, item_said}
use Rattle.shell_recipes.proofs.Ending.{ends}
use Rattle.shell_recipes.proofs.calls.pop_item.Goals as goal

pub returns-clause-ended : goal.returns-clause-ended
returns-clause-ended g c setting t stands =
    ends item_said setting (g.T.Tr.stands c.pop-answer.new.tr setting) (pop_call (queue_space c.args.queue.now) (view setting t)) t
    c.args.text.now c.finish_item.new.text c.pop-answer.result c.finish_item.result
    (subst (λ (space : List ℕ). IsAnswered c.pop-answer.result setting (g.T.Tr.stands c.pop-answer.new.tr setting)
    (pop_call space (view setting t)) t) (c.in_ok-space.ensures {u = tt})
    (c.pop-answer.ensures.popped setting t stands).answered)
    c.finish_item.ensures
