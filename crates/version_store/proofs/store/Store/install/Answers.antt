use Rattle.std.proofs.Common.{◌+◌, length, sym, ap, subst, ◌∙◌, arith}
use Rattle.std.proofs.lemmas.List.{length-map}
use Rattle.version_store.specs.Changed.{change_of, changes_of, changed}
use Rattle.version_store.specs.Chains.{database_of, AreReady}
use Rattle.version_store.specs.Versions.{at, last_of, later, later_of, nodes_of, oldest_of, HasFew, IsReadyFor}
use Rattle.version_store.proofs.Bounds.{few-more, later-put, total-later_none}
use Rattle.version_store.proofs.Notes.{HasRoomFor-IfSome, IsComplete-higher}
use Rattle.version_store.proofs.Slots.{database_of-later}
use Rattle.version_store.proofs.store.Store.install.Goals as goal

pub overflow_add-self : goal.overflow_add-self
unfolding IsReadyFor
overflow_add-self c =
    let ready = subst (λ versions. IsReadyFor versions c.args.changes) (sym c.self.view_is) c.requires.ready in
    omega (arith, ready.2, c.len.ensures.value)

pub put_changes-requires-clause-room : goal.put_changes-requires-clause-room
unfolding IsReadyFor
put_changes-requires-clause-room c noting =
    let ready = subst (λ versions. IsReadyFor versions c.args.changes) (sym c.self.view_is) c.requires.ready in
    let len = ap length c.into_vec.ensures.same in
    let room = HasRoomFor-IfSome (length c.args.changes) c.self.inside.dues ready.1 noting in
    omega (arith, room, len, length-map c.into_vec.result.items change_of)

pub put_changes-requires-clause-ready : goal.put_changes-requires-clause-ready
unfolding IsReadyFor
put_changes-requires-clause-ready c =
    let store = c.self.inside in
    let ready = subst (λ versions. IsReadyFor versions c.args.changes) (sym c.self.view_is) c.requires.ready in
    subst (AreReady store.nodes.slots store.tree.entries (changes_of c.into_vec.result.items)) (sym c.as_slice.ensures.value)
    (subst (λ changes. AreReady store.nodes.slots store.tree.entries changes store.reserved.items) (sym c.into_vec.ensures.same) ready.0)

pub invariant_of-self : goal.invariant_of-self
unfolding last_of IsReadyFor
invariant_of-self c =
    let store = c.self.inside in let same = ap last_of c.self.view_is in
    let ready = subst (λ versions. IsReadyFor versions c.args.changes) (sym c.self.view_is) c.requires.ready in
    let len = ap length c.into_vec.ensures.same in
    let total = c.put_changes.ensures.totals length (λ value chain. omega arith) in (
      c.put_changes.ensures.sound,
      omega (arith, same, c.requires.next),
      omega (arith, c.self.invariant.2),
      omega (arith, total, len, length-map c.into_vec.result.items change_of, c.len.ensures.value, c.self.invariant.3),
      omega (arith, ready.2, c.len.ensures.value),
      c.put_changes.ensures.complete (store.oldest + 1) (omega (arith, c.self.invariant.2))
          (IsComplete-higher (store.oldest + 1) store.last (store.last + 1) store.dues store.nodes.slots store.tree.entries (omega arith)
          c.self.invariant.5),
      few-more store.oldest (length (changes_of c.into_vec.result.items)) store.nodes.slots c.put_changes.new.nodes.slots store.tree.entries
          (omega (arith, total, length-map c.into_vec.result.items change_of))
          (omega (
            arith,
            c.put_changes.ensures.totals (later store.oldest)
                (λ value chain. later-put store.oldest (store.last + 1) value chain (omega (arith, c.self.invariant.2))),
            length-map c.into_vec.result.items change_of,
          ))
          (c.put_changes.ensures.before store.oldest (omega (arith, c.self.invariant.2))) c.self.invariant.6,
    )

pub returns-clause-last : goal.returns-clause-last
unfolding last_of
returns-clause-last c = ap (λ versions. last_of versions + 1) c.self.view_is

pub returns-clause-oldest : goal.returns-clause-oldest
unfolding oldest_of
returns-clause-oldest c = ap oldest_of c.self.view_is

pub returns-clause-before : goal.returns-clause-before
unfolding at last_of
returns-clause-before c version earlier =
    let same = ap last_of c.self.view_is in
    c.put_changes.ensures.before version (omega (arith, same, earlier)) ∙ ap (λ versions. at versions version) c.self.view_is

pub returns-clause-after : goal.returns-clause-after
unfolding at last_of
returns-clause-after c =
    let store = c.self.inside in let new = c.put_changes.new in
    ap (λ last. database_of (last + 1) new.nodes.slots store.tree.entries) (sym (ap last_of c.self.view_is))
    ∙ c.put_changes.ensures.now
    ∙ ap (changed (changes_of c.into_vec.result.items)) (database_of-later store.nodes.slots store.tree.entries store.last c.self.invariant.0)
    ∙ (λ i. changed (c.into_vec.ensures.same i) (at (c.self.view_is i) (last_of (c.self.view_is i))))

pub returns-clause-later : goal.returns-clause-later
unfolding last_of later_of
returns-clause-later c version earlier =
    let last = ap last_of c.self.view_is in let same = ap (λ versions. later_of versions version) c.self.view_is in
    let len = ap length c.into_vec.ensures.same in
    let total =
    c.put_changes.ensures.totals (later version)
    (λ value chain. later-put version (c.self.inside.last + 1) value chain (omega (arith, last, earlier))) in
    omega (arith, total, same, len, length-map c.into_vec.result.items change_of)

pub returns-clause-latest : goal.returns-clause-latest
unfolding last_of later_of
returns-clause-latest c version late =
    let last = ap last_of c.self.view_is in
    total-later_none c.put_changes.new.nodes.slots c.self.inside.tree.entries (c.self.inside.last + 1 + 1) version (omega (arith, last, late))
    c.put_changes.ensures.sound

pub returns-clause-few : goal.returns-clause-few
unfolding at later_of nodes_of oldest_of HasFew
returns-clause-few c =
    let store = c.self.inside in
    let total = c.put_changes.ensures.totals length (λ value chain. omega arith) in
    few-more store.oldest (length (changes_of c.into_vec.result.items)) store.nodes.slots c.put_changes.new.nodes.slots store.tree.entries
    (omega (arith, total, length-map c.into_vec.result.items change_of))
    (omega (
      arith,
      c.put_changes.ensures.totals (later store.oldest)
          (λ value chain. later-put store.oldest (store.last + 1) value chain (omega (arith, c.self.invariant.2))),
      length-map c.into_vec.result.items change_of,
    ))
    (c.put_changes.ensures.before store.oldest (omega (arith, c.self.invariant.2))) c.self.invariant.6
