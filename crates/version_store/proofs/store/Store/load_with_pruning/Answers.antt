use Rattle.std.proofs.Common.{[], sym, subst, arith}
use Rattle.version_store.specs.Dues.{AreDues, AreNoted}
use Rattle.version_store.specs.Versions.{at, later_of, nodes_of, oldest_of, HasFew}
use Rattle.version_store.proofs.Bounds.{few-noted, total-later_none}
use Rattle.version_store.proofs.store.Store.load_with_pruning.Goals as goal

pub returns-clause-loaded : goal.returns-clause-loaded
unfolding at later_of
returns-clause-loaded c = (c.in_ok-tree.ensures {u = tt}).later

pub returns-clause-latest : goal.returns-clause-latest
unfolding later_of
returns-clause-latest c version later =
    total-later_none c.load_places.new.nodes.slots c.in_ok-tree.tree.entries 2 version (omega (arith, later))
    (c.in_ok-tree.ensures {u = tt}).sound

pub returns-clause-few : goal.returns-clause-few
unfolding at later_of nodes_of oldest_of HasFew
returns-clause-few c =
    let made = c.in_ok-tree.ensures {u = tt} in
    few-noted 0 1 [] c.load_places.new.nodes.slots c.in_ok-tree.tree.entries made.sound.rising tt made.noted

pub invariant_of-result : goal.invariant_of-result
invariant_of-result c =
    let made = c.in_ok-tree.ensures {u = tt} in let slots = c.load_places.new.nodes.slots in let places = c.in_ok-tree.tree.entries in (
      made.sound,
      omega arith,
      omega arith,
      omega (arith, made.few, c.len-given.ensures.len),
      omega (arith, c.len-given.ensures.small),
      λ noting. subst (λ dues. AreDues 1 1 dues × AreNoted dues slots places) (sym c.new.ensures.empty) (tt, made.noted),
      few-noted 0 1 [] slots places made.sound.rising tt made.noted,
    )
