use Rattle.std.proofs.Common.{ℕ, ◌++◌, List, Ok, Err, sym, ap, ◌∙◌}
use Rattle.model_recipes.specs.declared.fault.RecipeFault.TheVariants as fault
use Rattle.recipe_layers.proofs.Chunks.{reads_more, reads_spoiled, reads_all_bytes}
use Rattle.recipe_layers.proofs.blob.bytes_in.Goals as goal

pub returns-then-not-branch : goal.returns-then-not-branch
returns-then-not-branch c =
    reads_spoiled c.args.s.now.prefix c.as_slice-pairs.result.now c.loop-place.place c.index-pairs-place.result c.loop-place.bytes.items c.args.pairs.now
    c.loop-place-test.true c.index-pairs-place.is
    (sym c.in_ok-is_chunk.ensures ∙ c.if-not-branch.true) c.as_slice-pairs.ensures c.loop-place.invariant
    ∙ ap (λ (key : List ℕ). Err (fault.BadKey key)) (sym c.in_ok-copy.ensures)

pub loop-place-preserved : goal.loop-place-preserved
loop-place-preserved c =
    reads_more c.args.s.now.prefix c.as_slice-pairs.result.now c.loop-place.place c.index-pairs-place.result c.loop-place.bytes.items
    c.extend_from_slice.new.self.items c.loop-place-test.true c.index-pairs-place.is
    (sym c.in_ok-is_chunk.ensures ∙ c.if-not-branch.false)
    (c.in_ok-extend_from_slice.ensures.items ∙ ap (λ (value : List ℕ). c.loop-place.bytes.items ++ value) c.as_slice.ensures) c.loop-place.invariant

pub returns : goal.returns
returns c =
    reads_all_bytes c.args.s.now.prefix c.as_slice-pairs.result.now c.loop-place.place c.loop-place.bytes.items c.args.pairs.now
    c.loop-place-test.false c.as_slice-pairs.ensures c.loop-place.invariant
    ∙ ap (λ (bytes : List ℕ). Ok bytes) (sym c.in_ok-from_vec.ensures)
