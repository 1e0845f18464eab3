use Rattle.std.proofs.Common.{◌+◌, ◌-◌, ◌<◌, length, take, subst, sym, rules, arith}
use Rattle.version_store.specs.declared.changes.Change.{Change}
use Rattle.version_store.specs.Changed.{change_of, changes_of}
use Rattle.version_store.specs.Chains.{rooms_of, AreReady}
use Rattle.version_store.specs.Versions.{IsReadyAt}
use Rattle.version_store.proofs.Adds.{Adds-then, Adds-then_kept}
use Rattle.version_store.proofs.Noted.{AllZip-more, AreReady-kept}
use Rattle.version_store.proofs.Slots.{room_of-same}
use Rattle.version_store.proofs.chains.add_keys.Goals as goal

pub returns-in_err-place-clause-adds : goal.returns-in_err-place-clause-adds
returns-in_err-place-clause-adds c =
    Adds-then c.args.nodes.now.slots c.loop-change.nodes.slots c.add_key.new.nodes.slots c.args.next c.args.tree.now.entries
    c.loop-change.tree.entries c.add_key.new.tree.entries c.loop-change.invariant.0 c.add_key.ensures.adds

pub returns-in_err-make_room_at-clause-adds : goal.returns-in_err-make_room_at-clause-adds
returns-in_err-make_room_at-clause-adds c =
    Adds-then c.args.nodes.now.slots c.loop-change.nodes.slots c.make_room_at.new.nodes.slots c.args.next c.args.tree.now.entries
    c.loop-change.tree.entries c.add_key.new.tree.entries c.loop-change.invariant.0
    (Adds-then_kept c.loop-change.nodes.slots c.add_key.new.nodes.slots c.make_room_at.new.nodes.slots c.args.next
    c.loop-change.tree.entries c.add_key.new.tree.entries c.add_key.ensures.adds c.make_room_at.ensures.chains)

pub returns-in_err-push-clause-adds : goal.returns-in_err-push-clause-adds
returns-in_err-push-clause-adds c =
    Adds-then c.args.nodes.now.slots c.loop-change.nodes.slots c.make_room_at.new.nodes.slots c.args.next c.args.tree.now.entries
    c.loop-change.tree.entries c.add_key.new.tree.entries c.loop-change.invariant.0
    (Adds-then_kept c.loop-change.nodes.slots c.add_key.new.nodes.slots c.make_room_at.new.nodes.slots c.args.next
    c.loop-change.tree.entries c.add_key.new.tree.entries c.add_key.ensures.adds c.make_room_at.ensures.chains)

pub loop-change-preserved : goal.loop-change-preserved
loop-change-preserved c =
    let places = c.add_key.new.tree.entries in let slots = c.make_room_at.new.nodes.slots in
    let changes = c.args.changes.now in let i = c.loop-change.change-index in let place = c.in_ok-place.place in
    let adds =
    Adds-then_kept c.loop-change.nodes.slots c.add_key.new.nodes.slots slots c.args.next c.loop-change.tree.entries places
    c.add_key.ensures.adds c.make_room_at.ensures.chains in
    let room = room_of-same c.add_key.new.nodes c.make_room_at.new.nodes c.make_room_at.ensures.capacity c.make_room_at.ensures.len in
    let inside : i < length changes = search rules in (
      Adds-then c.args.nodes.now.slots c.loop-change.nodes.slots slots c.args.next c.args.tree.now.entries c.loop-change.tree.entries places
          c.loop-change.invariant.0 adds,
      omega (
        arith,
        inside,
        room,
        c.add_key.ensures.room (length changes - (i + 1)) (omega (arith, inside, c.loop-change.invariant.1)),
      ),
      subst (AreReady slots places (changes_of (take (i + 1) changes))) (sym (c.in_ok-push.ensures {u = tt}).items)
          (AllZip-more (IsReadyAt places (rooms_of slots)) changes i c.change-item.result c.loop-change.places.items place inside
          (AreReady-kept c.loop-change.nodes.slots slots c.loop-change.tree.entries places adds.keeps adds.chains
          (changes_of (take i changes)) c.loop-change.places.items c.loop-change.invariant.2)
          (subst (λ (change : Change). IsReadyAt places (rooms_of slots) (change_of change) place) c.change-item.is
          ((c.in_ok-place.ensures {u = tt}).place, (c.in_ok-make_room_at.ensures {u = tt}).room))),
    )
