use Rattle.std.proofs.Common.{◌≡◌, length, sym, ap, subst, ◌∙◌, arith}
use Rattle.std.specs.Iterator.{UpTo, at_most}
use Rattle.std.specs.Option.{IfSome}
use Rattle.std.specs.Vec.Iter.{into_iter_items, into_iter_len}
use Rattle.version_store.proofs.Loads.{length-places_from}
use Rattle.version_store.proofs.loading.PlacesIterator.size_hint.Goals as goal
use Rattle.version_store.proofs.loading.PlacesIterator.size_hint.Goals.{After-size_hint}

-- as many places are left as there are pairs
left : (c : After-size_hint) → into_iter_len c.self.inside.left ≡ length c.args.self.now
left c =
    let it = c.self.inside in
    c.self.invariant.0 ∙ sym (length-places_from it.place (into_iter_items it.left)) ∙ ap length c.self.view_is

pub returns-clause-lower : goal.returns-clause-lower
returns-clause-lower c _ = omega (arith, left c, c.size_hint.ensures.lower tt)

pub returns-clause-upper : goal.returns-clause-upper
returns-clause-upper c = subst (λ n. IfSome c.size_hint.result.1 (UpTo (at_most n))) (left c) c.size_hint.ensures.upper
