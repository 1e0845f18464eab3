use Rattle.std.proofs.Common.{ℕ, List, subst}
use Rattle.model_database.specs.Transactions.{view}
use Rattle.model_recipes.specs.Turns.{IsAnswered}
use Rattle.model_recipes.specs.Blobs.{read_call}
use Rattle.model_shell.specs.Recipes.{blob_space, bytes_said}
use Rattle.shell_recipes.proofs.Ending.{ends}
use Rattle.shell_recipes.proofs.calls.read_bytes.Goals as goal

pub returns-clause-ended : goal.returns-clause-ended
returns-clause-ended g c setting t stands =
    ends bytes_said setting (g.T.Tr.stands c.read-answer.new.tr setting) (read_call (blob_space c.args.blob.now) c.args.from c.args.most (view setting t)) t
    c.args.text.now c.finish_bytes.new.text c.read-answer.result c.finish_bytes.result
    (subst (λ (space : List ℕ). IsAnswered c.read-answer.result setting (g.T.Tr.stands c.read-answer.new.tr setting)
    (read_call space c.args.from c.args.most (view setting t)) t) (c.in_ok-space.ensures {u = tt})
    (c.read-answer.ensures.part setting t stands).answered)
    c.finish_bytes.ensures
