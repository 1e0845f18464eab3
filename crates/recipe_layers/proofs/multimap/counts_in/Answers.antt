use Rattle.std.proofs.Common.{List, Result, Err, sym, ap, subst, ◌∙◌}
use Rattle.std.proofs.lemmas.Result.{err_from_is_err_and}
use Rattle.model_recipes.specs.declared.fault.RecipeFault.{RecipeFault}
use Rattle.model_recipes.specs.declared.Count.{Count}
use Rattle.model_recipes.specs.Multimaps.{counts_in}
use Rattle.recipe_layers.specs.Steps.{Tells}
use Rattle.recipe_layers.proofs.Counts.{count_more, count_spoiled, counts_found}
use Rattle.recipe_layers.proofs.multimap.counts_in.Goals as goal

pub returns-in_err-count_in : goal.returns-in_err-count_in
returns-in_err-count_in c =
    let p = err_from_is_err_and c.from_residual.result c.from_residual.ensures.1 in
    let all = counts_in c.args.front.now.prefix c.args.pairs.now in
    subst (λ (result : Result (List Count) RecipeFault). Tells result all) (sym (p.1 ∙ ap Err p.2))
    (count_spoiled c.args.front.now.prefix c.as_slice-pair-items.result.now c.loop-pair.pair-index c.pair-item.result c.loop-pair.counts
    c.in_err-count_in.field-0.0 all c.loop-pair-test.true c.pair-item.is c.in_err-count_in.ensures c.loop-pair.invariant)

pub loop-pair-preserved : goal.loop-pair-preserved
loop-pair-preserved c =
    count_more c.args.front.now.prefix c.as_slice-pair-items.result.now c.loop-pair.pair-index c.pair-item.result c.loop-pair.counts
    c.push.new.self c.in_ok-count_in.field-0 (counts_in c.args.front.now.prefix c.args.pairs.now) c.loop-pair-test.true c.pair-item.is
    c.in_ok-count_in.ensures c.in_ok-push.ensures.ok c.loop-pair.invariant

pub returns : goal.returns
returns c =
    counts_found c.args.front.now.prefix c.as_slice-pair-items.result.now c.loop-pair.pair-index c.loop-pair.counts
    (counts_in c.args.front.now.prefix c.args.pairs.now) c.loop-pair-test.false c.loop-pair.invariant
