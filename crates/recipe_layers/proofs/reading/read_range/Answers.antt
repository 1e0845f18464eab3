use Rattle.std.proofs.Common.{◌≡◌, subst, sym}
use Rattle.model_database.specs.Reads.{GetKeyRange}
use Rattle.model_database.specs.Slices.{slice}
use Rattle.model_database.specs.Transactions.{view}
use Rattle.recipe_layers.specs.Steps.{IsRead}
use Rattle.recipe_layers.proofs.Answering.{pairs_are_read}
use Rattle.recipe_layers.proofs.reading.read_range.Goals as goal

pub returns-clause-read : goal.returns-clause-read
returns-clause-read g c setting t stands =
    let after = g.T.Tr.stands c.range.new.self setting in
    let range = c.args.range.now in
    subst (λ result. IsRead (λ pairs. pairs ≡ slice (view setting t) range.begin range.end c.args.limit c.args.reverse) result setting after
    (GetKeyRange range.begin range.end c.args.limit c.args.reverse) t)
    (sym c.from_tr.ensures)
    (pairs_are_read c.range.result setting after range.begin range.end c.args.limit c.args.reverse t (c.range.ensures.answer setting t stands))
