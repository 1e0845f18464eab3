use Rattle.std.proofs.Common.{ℕ, List, subst}
use Rattle.model_database.specs.Transactions.{view}
use Rattle.model_recipes.specs.Turns.{IsAnswered}
use Rattle.model_recipes.specs.Multimaps.{add_call}
use Rattle.model_shell.specs.Recipes.{multi_space, nothing_said}
use Rattle.shell_recipes.proofs.Ending.{ends}
use Rattle.shell_recipes.proofs.calls.add_pair.Goals as goal

pub returns-clause-ended : goal.returns-clause-ended
returns-clause-ended g c setting t stands =
    ends nothing_said setting (g.T.Tr.stands c.add-answer.new.tr setting) (add_call (multi_space c.args.multi.now) c.args.key.now c.args.value.now (view setting t)) t
    c.args.text.now c.finish.new.text c.add-answer.result c.finish.result
    (subst (λ (space : List ℕ). IsAnswered c.add-answer.result setting (g.T.Tr.stands c.add-answer.new.tr setting)
    (add_call space c.args.key.now c.args.value.now (view setting t)) t) (c.in_ok-space.ensures {u = tt})
    (subst (λ (bytes : List ℕ). IsAnswered c.add-answer.result setting (g.T.Tr.stands c.add-answer.new.tr setting)
    (add_call c.in_ok-space.space.prefix c.args.key.now bytes (view setting t)) t) c.as_slice-2.ensures
    (subst (λ (bytes : List ℕ). IsAnswered c.add-answer.result setting (g.T.Tr.stands c.add-answer.new.tr setting)
    (add_call c.in_ok-space.space.prefix bytes c.as_slice-2.result.now (view setting t)) t) c.as_slice.ensures
    (c.add-answer.ensures.added setting t stands).answered)))
    c.finish.ensures
