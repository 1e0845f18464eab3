use Rattle.std.proofs.Common.{false, option_map, sym, subst}
use Rattle.std.specs.Map.Iter.{deref_pair}
use Rattle.ryw_view.specs.Views.{stored_of}
use Rattle.ryw_view.specs.Walks.{IsFirstMet}
use Rattle.ryw_view.proofs.Segments.{bare_first, untouched_up}
use Rattle.ryw_view.proofs.near.NearView.next_near.Goals as goal

pub returns-then-is_inside-2 : goal.returns-then-is_inside-2
returns-then-is_inside-2 c =
    let near = c.args.self.now in let mutations = near.view.edits.now.mutations in let stored = stored_of near.view in
    let key = c.args.key.now in let low = c.in-Some.low in let pair = option_map deref_pair c.first_stored.result in
    bare_first mutations stored key false near.high
    (untouched_up mutations low key near.high (near.untouched low c.in-Some.is) (sym (c.if-is_inside.ensures {u = tt}))) pair
    (subst (λ high. IsFirstMet stored key false high pair) c.as_ref-high.ensures.value c.first_stored.ensures)
