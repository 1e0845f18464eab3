use Rattle.std.proofs.Common.{length, ap, subst, ◌∙◌, arith}
use Rattle.key_map.proofs.Spans.{filter-unbounded}
use Rattle.version_store.specs.Chains.{total}
use Rattle.version_store.specs.Versions.{at, later_of, nodes_of, oldest_of, HasFew}
use Rattle.version_store.proofs.store.Store.nodes.Goals as goal

pub count_values-requires : goal.count_values-requires
count_values-requires c =
    let store = c.self.inside in
    let all = ap (total length store.nodes.slots) (c.range.ensures.between tt ∙ filter-unbounded store.tree.entries) in
    omega (arith, all, c.self.invariant.3, c.self.invariant.4)

pub returns-clause-counts : goal.returns-clause-counts
unfolding nodes_of
returns-clause-counts c =
    let store = c.self.inside in
    c.count_values.ensures
    ∙ ap (total length store.nodes.slots) (c.range.ensures.between tt ∙ filter-unbounded store.tree.entries)
    ∙ ap nodes_of c.self.view_is

pub returns-clause-few : goal.returns-clause-few
unfolding at later_of nodes_of oldest_of HasFew
returns-clause-few c = subst HasFew c.self.view_is c.self.invariant.6
