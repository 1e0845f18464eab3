use Rattle.std.proofs.Common.{arith}
use Rattle.dump_text.proofs.Scanned.{run_through, run_stops, stops_within}
use Rattle.dump_text.proofs.plain.plain_in_8.Goals as goal

pub returns-then-found-eq0-clause-plain : goal.returns-then-found-eq0-clause-plain
returns-then-found-eq0-clause-plain c =
    omega (arith, run_through c.args.bytes.now 0 8 _ c.stops_8-found.ensures (omega arith) c.if-found-eq0.true)

pub returns-clause-plain : goal.returns-clause-plain
returns-clause-plain c = omega (arith, run_stops c.args.bytes.now 0 8 _ c.stops_8-found.ensures (omega arith) (omega arith) (omega arith))

pub returns-clause-few : goal.returns-clause-few
returns-clause-few c = stops_within c.args.bytes.now 0 8 _ c.stops_8-found.ensures (omega arith) (omega arith) (omega arith)
