-- The law is that of the lists of events.
use Rattle.watch_core.proofs.Histories.{events_settle}
use Rattle.watch_core.proofs.laws.events_settle_watches.Goals as goal

pub returns : goal.returns
returns c = events_settle
