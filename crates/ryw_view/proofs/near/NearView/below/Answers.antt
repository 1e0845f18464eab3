use Rattle.std.proofs.Common.{refl}
use Rattle.ryw_view.proofs.Segments.{bare_backward, tells_bare}
use Rattle.ryw_view.proofs.near.NearView.below.Goals as goal

pub knowing-requires : goal.knowing-requires
knowing-requires c = λ q is_on inside. tells_bare c.args.view.edits.now.mutations q ((c.in_default.ensures {u = tt}).bare refl q inside)

pub knowing-requires-in-Unmodified : goal.knowing-requires-in-Unmodified
knowing-requires-in-Unmodified c =
    bare_backward c.args.view.edits.now.mutations c.args.key.now c.in-Some.boundary.now (c.in-Unmodified.ensures {u = tt})
    (c.in-Some.ensures {u = tt}).alike
