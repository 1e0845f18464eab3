use Rattle.std.proofs.Common.{◌≡◌, None, Some, slice_index_or, sym, ap, ◌∙◌}
use Rattle.std.proofs.lemmas.Result.{on_ok_weaker}
use Rattle.std.specs.Option.{option_copied_mut}
use Rattle.version_store.proofs.Slots.{has_room_at-set, KeepsChains-set}
use Rattle.version_store.proofs.chains.make_room_at.Goals as goal
use Rattle.version_store.proofs.chains.make_room_at.Goals.{After-nodes-1}

was : (c : After-nodes-1) → slice_index_or c.args.nodes.now.slots c.args.place None ≡ Some c.unwrap.result.now
was c = sym c.get_mut.ensures.value ∙ ap option_copied_mut c.unwrap.ensures

pub returns-clause-chains : goal.returns-clause-chains
returns-clause-chains c =
    KeepsChains-set c.args.nodes.now.slots c.args.place c.unwrap.result.now c.make_room.new.self (was c) c.make_room.ensures.same
    c.make_room.ensures.kept

pub returns-clause-room : goal.returns-clause-room
returns-clause-room c =
    on_ok_weaker c.make_room.result
    (λ room. has_room_at-set c.args.nodes.now.slots c.args.place c.unwrap.result.now c.make_room.new.self (was c) room)
    c.make_room.ensures.room
