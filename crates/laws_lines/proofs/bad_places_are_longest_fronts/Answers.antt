use Rattle.laws_lines.proofs.Events.{event_places}
use Rattle.laws_lines.proofs.Pairs.{pair_places}
use Rattle.laws_lines.proofs.Orders.{order_places}
use Rattle.laws_lines.proofs.bad_places_are_longest_fronts.Goals as goal

pub returns-clause-pairs : goal.returns-clause-pairs
returns-clause-pairs c = pair_places

pub returns-clause-orders : goal.returns-clause-orders
returns-clause-orders c = order_places

pub returns-clause-events : goal.returns-clause-events
returns-clause-events c = event_places
