use Rattle.std.proofs.Common.{ℕ, List, subst}
use Rattle.model_database.specs.Transactions.{view}
use Rattle.model_recipes.specs.Turns.{IsAnswered}
use Rattle.model_recipes.specs.Blobs.{size_call}
use Rattle.model_shell.specs.Recipes.{blob_space, size_said}
use Rattle.shell_recipes.proofs.Ending.{ends}
use Rattle.shell_recipes.proofs.calls.read_size.Goals as goal

pub returns-clause-ended : goal.returns-clause-ended
returns-clause-ended g c setting t stands =
    ends size_said setting (g.T.Tr.stands c.size-answer.new.tr setting) (size_call (blob_space c.args.blob.now) (view setting t)) t
    c.args.text.now c.finish_size.new.text c.size-answer.result c.finish_size.result
    (subst (λ (space : List ℕ). IsAnswered c.size-answer.result setting (g.T.Tr.stands c.size-answer.new.tr setting)
    (size_call space (view setting t)) t) (c.in_ok-space.ensures {u = tt})
    (c.size-answer.ensures.sized setting t stands).answered)
    c.finish_size.ensures
