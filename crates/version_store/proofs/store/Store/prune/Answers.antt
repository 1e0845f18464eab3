use Rattle.std.proofs.Common.{◌+◌, length, max, sym, ap, subst, ◌∙◌, arith}
use Rattle.version_store.specs.Versions.{at, last_of, later, later_of, nodes_of, oldest_of, HasFew}
use Rattle.version_store.proofs.Bounds.{IsWeight-later, IsWeight-length}
use Rattle.version_store.proofs.store.Store.prune.Goals as goal

pub invariant_of-self : goal.invariant_of-self
unfolding last_of
invariant_of-self c =
    let store = c.self.inside in let same = ap last_of c.self.view_is in
    let kept = c.prune_values.ensures.keeps (store.last + 1) c.self.invariant.0 in (
      kept.sound,
      c.self.invariant.1,
      omega (arith, same, c.requires, c.self.invariant.2, c.max-self-inside.ensures),
      omega (arith, kept.totals length IsWeight-length, c.self.invariant.3),
      c.self.invariant.4,
      c.prune_values.ensures.complete (store.oldest + 1) store.last (store.last + 1) c.self.invariant.0 c.self.invariant.5,
      c.prune_values.ensures.few (store.oldest + 1) store.last (store.last + 1) c.self.invariant.0 c.self.invariant.5,
    )

pub returns-clause-oldest : goal.returns-clause-oldest
unfolding oldest_of
returns-clause-oldest c = c.max-self-inside.ensures ∙ ap (λ versions. max (oldest_of versions) c.args.oldest) c.self.view_is

pub returns-clause-last : goal.returns-clause-last
unfolding last_of
returns-clause-last c = ap last_of c.self.view_is

pub returns-clause-reads : goal.returns-clause-reads
unfolding at oldest_of
returns-clause-reads c version from =
    (c.prune_values.ensures.keeps (c.self.inside.last + 1) c.self.invariant.0).reads version from
    ∙ ap (λ versions. at versions version) c.self.view_is

pub returns-clause-later : goal.returns-clause-later
unfolding later_of
returns-clause-later c version =
    let less = (c.prune_values.ensures.keeps (c.self.inside.last + 1) c.self.invariant.0).totals (later version) (IsWeight-later version) in
    let same = ap (λ versions. later_of versions version) c.self.view_is in
    omega (arith, less, same)

pub returns-clause-few : goal.returns-clause-few
unfolding at later_of nodes_of oldest_of HasFew
returns-clause-few c =
    let store = c.self.inside in
    c.prune_values.ensures.few (store.oldest + 1) store.last (store.last + 1) c.self.invariant.0 c.self.invariant.5

-- nothing is later than the oldest version that there is
pub returns-then-oldest-self-clause-oldest : goal.returns-then-oldest-self-clause-oldest
unfolding oldest_of
returns-then-oldest-self-clause-oldest c =
    let same = ap oldest_of c.self.view_is in grind (arith, same, c.if-oldest-self.true)

pub returns-then-oldest-self-clause-few : goal.returns-then-oldest-self-clause-few
unfolding at later_of nodes_of oldest_of HasFew
returns-then-oldest-self-clause-few c = subst HasFew c.self.view_is c.self.invariant.6
