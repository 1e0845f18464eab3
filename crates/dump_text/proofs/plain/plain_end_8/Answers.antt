use Rattle.std.proofs.Common.{arith}
use Rattle.dump_text.proofs.Scanned.{run_through, run_stops}
use Rattle.dump_text.proofs.plain.plain_end_8.Goals as goal

pub returns-then-found-ne0 : goal.returns-then-found-ne0
returns-then-found-ne0 c =
    let found = c.stops_8-found in
    let run = run_stops c.args.bytes.now c.args.from 8 _ found.ensures (omega arith) (omega arith) (omega arith) in
    omega (arith, run)

pub returns : goal.returns
returns c =
    let run = run_through c.args.bytes.now c.args.from 8 _ c.stops_8-found.ensures (omega arith) (omega arith) in
    omega (arith, run)
