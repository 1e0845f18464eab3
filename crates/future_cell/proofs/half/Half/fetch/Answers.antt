use Rattle.std.proofs.Common.{sym, subst}
use Rattle.future_cell.specs.Plays.{Fetched, waiter_in}
use Rattle.future_cell.specs.Halves.{place_of}
use Rattle.future_cell.proofs.half.Half.fetch.Goals as goal

pub returns-clause-place : goal.returns-clause-place
returns-clause-place g c =
    let saw = c.if-not-look.ensures.place in
    let took = c.take_value.ensures.place (waiter_in (place_of c.args.self.now).0) saw.0 saw.1 in
    subst (λ (v : g.row.V.Denot). Fetched (waiter_in (place_of c.args.self.now).0) v (place_of c.take_value.new.self)) (sym took.0) took.1
