use Rattle.std.proofs.Common.{List, ℕ, subst, sym}
use Rattle.std.specs.List.{AllByRecursion}
use Rattle.model_lines.specs.Inputs.{IsSmall}
use Rattle.generator.proofs.Small.{gen_pairs_small}
use Rattle.generator.proofs.pairs.gen_pairs.Goals as goal

pub returns-clause-small : goal.returns-clause-small
returns-clause-small c = λ within.
    subst (λ (pairs : List (List ℕ × List ℕ)). AllByRecursion IsSmall pairs) (sym c.in_ok-pairs.ensures) (gen_pairs_small c.args.count within)
