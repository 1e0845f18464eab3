use Rattle.future_cell.proofs.Steps.{finished}
use Rattle.future_cell.proofs.settling.join.Goals as goal

pub join-value-requires-clause-set : goal.join-value-requires-clause-set
join-value-requires-clause-set g c = let r = c.args.receipt in finished (r.half.seat.me) r.ran r.done r.rests
