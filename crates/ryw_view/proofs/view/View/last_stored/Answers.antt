use Rattle.std.proofs.Common.{true, sym, subst, option_copied, option_map}
use Rattle.std.specs.Map.Iter.{deref_pair}
use Rattle.ryw_view.specs.Views.{stored_of}
use Rattle.ryw_view.specs.Walks.{IsFirstMet}
use Rattle.ryw_view.proofs.Firsts.{last_met}
use Rattle.ryw_view.proofs.Segments.{met_inside}
use Rattle.ryw_view.proofs.view.View.last_stored.Goals as goal

pub returns : goal.returns
returns c =
    let database = stored_of c.args.self.now in let until = c.args.until.now in let boundary = option_copied c.args.boundary in
    let pair = option_map deref_pair c.in-Ok.pair in
    subst (IsFirstMet database until true boundary) (sym c.inside.ensures)
    (met_inside database until true boundary pair (last_met database until pair c.in-Ok.ensures.ok.1))
