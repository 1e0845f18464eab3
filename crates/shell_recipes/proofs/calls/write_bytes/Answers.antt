use Rattle.std.proofs.Common.{ℕ, List, subst}
use Rattle.model_database.specs.Transactions.{view}
use Rattle.model_recipes.specs.Turns.{IsAnswered}
use Rattle.model_recipes.specs.Blobs.{write_call}
use Rattle.model_shell.specs.Recipes.{blob_space, nothing_said}
use Rattle.shell_recipes.proofs.Ending.{ends}
use Rattle.shell_recipes.proofs.calls.write_bytes.Goals as goal

pub returns-clause-ended : goal.returns-clause-ended
returns-clause-ended g c setting t stands =
    ends nothing_said setting (g.T.Tr.stands c.write-answer.new.tr setting) (write_call (blob_space c.args.blob.now) c.args.at c.args.piece.now (view setting t)) t
    c.args.text.now c.finish.new.text c.write-answer.result c.finish.result
    (subst (λ (space : List ℕ). IsAnswered c.write-answer.result setting (g.T.Tr.stands c.write-answer.new.tr setting)
    (write_call space c.args.at c.args.piece.now (view setting t)) t) (c.in_ok-space.ensures {u = tt})
    (subst (λ (bytes : List ℕ). IsAnswered c.write-answer.result setting (g.T.Tr.stands c.write-answer.new.tr setting)
    (write_call c.in_ok-space.space.prefix c.args.at bytes (view setting t)) t) c.as_slice.ensures
    (c.write-answer.ensures.overwritten setting t stands).answered))
    c.finish.ensures
