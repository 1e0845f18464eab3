use Rattle.std.proofs.Common.{take}
use Rattle.text_commands.specs.Scenes.{StandsAt}
use Rattle.text_commands.proofs.watching.ends_of.Given as goal

-- the events so far have happened
abbrev pub invariant-loop-event : goal.invariant-loop-event
invariant-loop-event l = StandsAt l.events (take l.event-index l.event-items) l.scene
