use Rattle.std.proofs.Common.{List, subst}
use Rattle.model_events.specs.declared.event.Event.{Event}
use Rattle.event_lines.proofs.Again.{events_again}
use Rattle.event_lines.proofs.Lawful.{found_events}
use Rattle.dump_text.specs.Reading.{Gives}
use Rattle.event_lines.proofs.reading.read_events.Goals as goal

pub returns-clause-found : goal.returns-clause-found
returns-clause-found c = found_events c.args.bytes.now c.read_each.result c.read_each.ensures

pub returns-clause-only : goal.returns-clause-only
returns-clause-only c =
    λ events h. subst (λ read. Gives (λ (events : List Event). events) c.read_each.result read)
    (events_again c.args.bytes.now events h) c.read_each.ensures
