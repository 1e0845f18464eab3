use Rattle.std.proofs.Common.{◌+◌, length, sym, ap, subst, refl, ◌∙◌, arith}
use Rattle.std.proofs.lemmas.Result.{on_ok_weaker}
use Rattle.version_store.specs.Chains.{database_of, total, AreReady}
use Rattle.version_store.specs.Dues.{HasRoomFor}
use Rattle.version_store.specs.Kept.{AreFew}
use Rattle.version_store.specs.Versions.{at, last_of, later, later_of, nodes_of, oldest_of, HasFew, IsReadyFor}
use Rattle.version_store.proofs.Bounds.{few-adds}
use Rattle.version_store.proofs.Notes.{IfSome-HasRoomFor}
use Rattle.version_store.proofs.store.Store.reserve.Goals as goal

pub returns-then-self-len-clause-last : goal.returns-then-self-len-clause-last
unfolding last_of
returns-then-self-len-clause-last c = ap last_of c.self.view_is

pub returns-then-self-len-clause-oldest : goal.returns-then-self-len-clause-oldest
unfolding oldest_of
returns-then-self-len-clause-oldest c = ap oldest_of c.self.view_is

pub returns-then-self-len-clause-reads : goal.returns-then-self-len-clause-reads
unfolding at
returns-then-self-len-clause-reads c version = ap (λ versions. at versions version) c.self.view_is

pub returns-then-self-len-clause-later : goal.returns-then-self-len-clause-later
unfolding later_of
returns-then-self-len-clause-later c version = ap (λ versions. later_of versions version) c.self.view_is

pub returns-in_err-add_room-clause-last : goal.returns-in_err-add_room-clause-last
unfolding last_of
returns-in_err-add_room-clause-last c = ap last_of c.self.view_is

pub returns-in_err-add_room-clause-oldest : goal.returns-in_err-add_room-clause-oldest
unfolding oldest_of
returns-in_err-add_room-clause-oldest c = ap oldest_of c.self.view_is

pub returns-in_err-add_room-clause-reads : goal.returns-in_err-add_room-clause-reads
unfolding at
returns-in_err-add_room-clause-reads c version =
    ap (λ nodes. database_of version nodes.slots c.self.inside.tree.entries) c.add_room.ensures.rest_kept
    ∙ ap (λ versions. at versions version) c.self.view_is

pub returns-in_err-add_room-clause-later : goal.returns-in_err-add_room-clause-later
unfolding later_of
returns-in_err-add_room-clause-later c version =
    ap (λ nodes. total (later version) nodes.slots c.self.inside.tree.entries) c.add_room.ensures.rest_kept
    ∙ ap (λ versions. later_of versions version) c.self.view_is

pub returns-in_err-reserve-clause-last : goal.returns-in_err-reserve-clause-last
unfolding last_of
returns-in_err-reserve-clause-last c = ap last_of c.self.view_is

pub returns-in_err-reserve-clause-oldest : goal.returns-in_err-reserve-clause-oldest
unfolding oldest_of
returns-in_err-reserve-clause-oldest c = ap oldest_of c.self.view_is

pub returns-in_err-reserve-clause-reads : goal.returns-in_err-reserve-clause-reads
unfolding at
returns-in_err-reserve-clause-reads c version =
    ap (λ nodes. database_of version nodes.slots c.self.inside.tree.entries) c.add_room.ensures.rest_kept
    ∙ ap (λ versions. at versions version) c.self.view_is

pub returns-in_err-reserve-clause-later : goal.returns-in_err-reserve-clause-later
unfolding later_of
returns-in_err-reserve-clause-later c version =
    ap (λ nodes. total (later version) nodes.slots c.self.inside.tree.entries) c.add_room.ensures.rest_kept
    ∙ ap (λ versions. later_of versions version) c.self.view_is

pub returns-clause-last : goal.returns-clause-last
unfolding last_of
returns-clause-last c = ap last_of c.self.view_is

pub returns-clause-oldest : goal.returns-clause-oldest
unfolding oldest_of
returns-clause-oldest c = ap oldest_of c.self.view_is

pub returns-clause-reads : goal.returns-clause-reads
unfolding at
returns-clause-reads c version =
    c.add_keys.ensures.adds.reads version
    ∙ ap (λ nodes. database_of version nodes.slots c.self.inside.tree.entries) c.add_room.ensures.rest_kept
    ∙ ap (λ versions. at versions version) c.self.view_is

pub returns-clause-later : goal.returns-clause-later
unfolding later_of
returns-clause-later c version =
    c.add_keys.ensures.adds.totals (later version) refl
    ∙ ap (λ nodes. total (later version) nodes.slots c.self.inside.tree.entries) c.add_room.ensures.rest_kept
    ∙ ap (λ versions. later_of versions version) c.self.view_is

pub returns-clause-ready : goal.returns-clause-ready
unfolding IsReadyFor
returns-clause-ready c =
    on_ok_weaker c.add_keys.result
    (λ ready. (
      subst (λ changes. AreReady c.add_keys.new.nodes.slots c.add_keys.new.tree.entries changes c.add_keys.new.places.items) c.as_slice.ensures ready,
      IfSome-HasRoomFor (length c.args.changes.now) c.reserve.new.self
          (subst (λ n. HasRoomFor n c.reserve.new.self) c.len-3.ensures.value (c.in_ok-reserve.ensures {u = tt}).room),
      omega (arith, c.if-self-len.false, c.len.ensures.value, c.self.invariant.4),
    ))
    c.add_keys.ensures.ready

pub returns-then-self-len-clause-few : goal.returns-then-self-len-clause-few
unfolding at later_of nodes_of oldest_of HasFew
returns-then-self-len-clause-few c = c.self.invariant.6

pub returns-in_err-add_room-clause-few : goal.returns-in_err-add_room-clause-few
unfolding at later_of nodes_of oldest_of HasFew
returns-in_err-add_room-clause-few c =
    let store = c.self.inside in
    subst (λ nodes. AreFew store.oldest nodes.slots store.tree.entries) (sym c.add_room.ensures.rest_kept) c.self.invariant.6

pub returns-in_err-reserve-clause-few : goal.returns-in_err-reserve-clause-few
unfolding at later_of nodes_of oldest_of HasFew
returns-in_err-reserve-clause-few c =
    let store = c.self.inside in
    subst (λ nodes. AreFew store.oldest nodes.slots store.tree.entries) (sym c.add_room.ensures.rest_kept) c.self.invariant.6

pub returns-clause-few : goal.returns-clause-few
unfolding at later_of nodes_of oldest_of HasFew
returns-clause-few c =
    let store = c.self.inside in
    few-adds store.oldest (store.last + 1) c.add_room.new.nodes.slots c.add_keys.new.nodes.slots store.tree.entries c.add_keys.new.tree.entries
    c.add_keys.ensures.adds
    (subst (λ nodes. AreFew store.oldest nodes.slots store.tree.entries) (sym c.add_room.ensures.rest_kept) c.self.invariant.6)
