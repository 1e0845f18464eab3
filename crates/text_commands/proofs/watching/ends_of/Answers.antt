use Rattle.std.proofs.Common.{◌+◌, List, drop, take, sym, subst, ◌∙◌}
use Rattle.model_events.specs.declared.event.Event.{Event}
use Rattle.text_commands.specs.Scenes.{StandsAt}
use Rattle.text_commands.proofs.Commits.{parted_at}
use Rattle.text_commands.proofs.Scenes.{room_for, values_are}
use Rattle.text_commands.proofs.watching.ends_of.Goals as goal

pub loop-event-init : goal.loop-event-init
loop-event-init c = c.new-scene.ensures c.args.events.now

pub happen-requires-clause-room : goal.happen-requires-clause-room
happen-requires-clause-room c =
    let events = c.args.events.now in
    let items = c.as_slice-event-items.result.now in
    let i = c.loop-event.event-index in
    room_for events (take i items) (drop (i + 1) items) c.event-item.result c.loop-event.scene
    (sym c.as_slice-event-items.ensures ∙ (parted_at items i c.event-item.result c.loop-event-test.true c.event-item.is).0)
    c.loop-event.invariant c.requires.watches c.requires.versions

pub happen-requires-clause-values : goal.happen-requires-clause-values
happen-requires-clause-values c =
    values_are c.args.events.now (take c.loop-event.event-index c.as_slice-event-items.result.now) c.loop-event.scene c.loop-event.invariant

pub loop-event-preserved : goal.loop-event-preserved
loop-event-preserved c =
    let events = c.args.events.now in
    let items = c.as_slice-event-items.result.now in
    let i = c.loop-event.event-index in
    let one = c.event-item.result in
    let parts = parted_at items i one c.loop-event-test.true c.event-item.is in
    subst (λ (front : List Event). StandsAt events front c.happen.new.self) (sym parts.1)
    (c.in_ok-happen.ensures events (take i items) (drop (i + 1) items) (sym c.as_slice-event-items.ensures ∙ parts.0) c.loop-event.invariant)
