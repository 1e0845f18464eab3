use Rattle.future_cell.specs.Plays.{waiter_in}
use Rattle.future_cell.specs.Halves.{place_of}
use Rattle.future_cell.proofs.half.Half.park.Goals as goal

pub returns-clause-place : goal.returns-clause-place
returns-clause-place g c = c.take_back.ensures.place (waiter_in (place_of c.args.self.now).0) c.args.callback c.if-lay.ensures.place
