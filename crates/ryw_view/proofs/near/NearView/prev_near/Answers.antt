use Rattle.std.proofs.Common.{◌≡◌, ℕ, List, true, false, Some, option_map, subst}
use Rattle.std.specs.Map.Iter.{deref_pair}
use Rattle.key_bytes.specs.Keys.{key_lt}
use Rattle.ryw_view.specs.Views.{stored_of}
use Rattle.ryw_view.specs.Walks.{is_inside}
use Rattle.ryw_view.proofs.Segments.{bare_first, untouched_backward}
use Rattle.ryw_view.proofs.near.NearView.prev_near.Goals as goal

pub returns-then-is_up_to : goal.returns-then-is_up_to
returns-then-is_up_to c =
    let near = c.args.self.now in let mutations = near.view.edits.now.mutations in
    let key = c.args.key.now in let low = c.in-Some.low in
    bare_first mutations (stored_of near.view) key true (Some low)
    (untouched_backward mutations low key near.high (near.untouched low c.in-Some.is)
    (subst (λ high. (q : List ℕ) → key_lt q key ≡ true → is_inside high false q ≡ true) c.as_ref.ensures.value
    (c.is_up_to.ensures c.if-is_up_to.true))) (option_map deref_pair c.last_stored.result) c.last_stored.ensures
