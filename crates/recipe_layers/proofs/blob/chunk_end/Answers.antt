use Rattle.std.proofs.Common.{◌+◌, ◌-◌, ◌/◌, cond, sym, ap}
use Rattle.std.specs.Prelude.{Bool}
use Rattle.std.proofs.lemmas.Bool.{eq-eqb, ne_eqb}
use Rattle.model_recipes.specs.declared.TheConstants.{CHUNK_BYTES}
use Rattle.model_recipes.specs.Blobs.{chunk_end}
use Rattle.recipe_layers.proofs.blob.chunk_end.Goals as goal

pub returns-then-size-eq0-clause-end : goal.returns-then-size-eq0-clause-end
unfolding chunk_end
returns-then-size-eq0-clause-end c =
    sym (ap (λ (none : Bool). cond none (c.args.at / CHUNK_BYTES) ((c.args.at + c.args.size - 1) / CHUNK_BYTES + 1)) (eq-eqb c.args.size 0 c.if-size-eq0.true))

pub returns-clause-end : goal.returns-clause-end
unfolding chunk_end
returns-clause-end c =
    sym (ap (λ (none : Bool). cond none (c.args.at / CHUNK_BYTES) ((c.args.at + c.args.size - 1) / CHUNK_BYTES + 1)) (ne_eqb c.args.size 0 c.if-size-eq0.false))
