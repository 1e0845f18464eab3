use Rattle.std.proofs.Common.{ℕ, List, subst}
use Rattle.model_database.specs.Transactions.{view}
use Rattle.model_recipes.specs.Turns.{IsAnswered}
use Rattle.model_recipes.specs.Multimaps.{values_call}
use Rattle.model_shell.specs.Recipes.{multi_space, counts_said}
use Rattle.shell_recipes.proofs.Ending.{ends}
use Rattle.shell_recipes.proofs.calls.read_values.Goals as goal

pub returns-clause-ended : goal.returns-clause-ended
returns-clause-ended g c setting t stands =
    ends counts_said setting (g.T.Tr.stands c.values-answer.new.tr setting) (values_call (multi_space c.args.multi.now) c.args.key.now (view setting t)) t
    c.args.text.now c.finish_counts.new.text c.values-answer.result c.finish_counts.result
    (subst (λ (space : List ℕ). IsAnswered c.values-answer.result setting (g.T.Tr.stands c.values-answer.new.tr setting)
    (values_call space c.args.key.now (view setting t)) t) (c.in_ok-space.ensures {u = tt})
    (subst (λ (bytes : List ℕ). IsAnswered c.values-answer.result setting (g.T.Tr.stands c.values-answer.new.tr setting)
    (values_call c.in_ok-space.space.prefix bytes (view setting t)) t) c.as_slice.ensures
    (c.values-answer.ensures.told setting t stands).answered))
    c.finish_counts.ensures
