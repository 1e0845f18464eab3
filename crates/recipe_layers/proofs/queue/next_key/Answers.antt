use Rattle.std.proofs.Common.{sym, ◌∙◌, arith}
use Rattle.model_recipes.proofs.Indexes.{index_in_is}
use Rattle.recipe_layers.proofs.queue.next_key.Goals as goal

pub overflow_add-index : goal.overflow_add-index
overflow_add-index c =
    let read = index_in_is c.args.s.now.prefix c.in-Some.pair.key c.in-Some-2.index (sym c.in_ok-index_in.ensures ∙ c.in-Some-2.is) in
    omega (arith, read.1)
