use Rattle.std.proofs.Common.{option_copied}
use Rattle.ryw_view.proofs.Segments.{bare_up}
use Rattle.ryw_view.proofs.near.NearView.above.Goals as goal

pub knowing-requires : goal.knowing-requires
knowing-requires c =
    let next = c.around.ensures in
    bare_up c.args.view.edits.now.mutations c.args.key.now (option_copied c.around.result.1) (rw c.in-Unmodified.is at next.state) next.alike
