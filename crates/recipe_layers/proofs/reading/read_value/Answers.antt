use Rattle.std.proofs.Common.{◌≡◌, false, subst, sym}
use Rattle.std.specs.FinMap as finite
use Rattle.model_database.specs.Reads.{Get}
use Rattle.model_database.specs.Transactions.{view}
use Rattle.fdb_calls.specs.declared.Reply.TheVariants as reply
use Rattle.fdb_calls.specs.Answers.{Answered}
use Rattle.fdb_calls.specs.Calling.{read_called}
use Rattle.recipe_layers.specs.Steps.{IsRead}
use Rattle.recipe_layers.proofs.Answering.{value_is_read}
use Rattle.recipe_layers.proofs.reading.read_value.Goals as goal

pub returns-clause-read : goal.returns-clause-read
returns-clause-read g c setting t stands =
    let after = g.T.Tr.stands c.get.new.self setting in
    let key = c.args.key.now in
    subst (λ result. IsRead (λ value. value ≡ finite.get (view setting t) key) result setting after (Get key) t) (sym c.from_tr.ensures)
    (value_is_read c.get.result setting after key t
    (subst (λ key. Answered reply.Value c.get.result after t (read_called setting t false false (Get key))) c.as_slice.ensures
    (c.get.ensures.answer setting t stands)))
