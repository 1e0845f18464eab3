use Rattle.std.proofs.Common.{◌∙◌, ◌^◌, refl}
use Rattle.std.proofs.lemmas.Bool.{le-ltb}
use Rattle.atomic_ops.proofs.Stamps.{little_is_low}
use Rattle.prefix_allocator.proofs.Halves.{half_where_positive, no_half_where_negative}
use Rattle.prefix_allocator.proofs.windows.is_half.Goals as goal

pub returns-then-count-lt-LEAST_NEGATIVE : goal.returns-then-count-lt-LEAST_NEGATIVE
returns-then-count-lt-LEAST_NEGATIVE c long =
    let is = c.read_u64-count.ensures ∙ little_is_low 8 c.args.count.now long in
    half_where_positive c.args.start c.args.count.now c.read_u64-count.result c.window.result is c.if-count-lt-LEAST_NEGATIVE.true
    c.window.ensures

pub returns-else-count-lt-LEAST_NEGATIVE : goal.returns-else-count-lt-LEAST_NEGATIVE
returns-else-count-lt-LEAST_NEGATIVE c long =
    let is = c.read_u64-count.ensures ∙ little_is_low 8 c.args.count.now long in
    no_half_where_negative c.args.start c.args.count.now c.read_u64-count.result _ is refl
    (le-ltb c.read_u64-count.result (2 ^ 63) c.if-count-lt-LEAST_NEGATIVE.false)
