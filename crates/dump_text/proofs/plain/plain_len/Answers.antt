use Rattle.std.proofs.Common.{arith}
use Rattle.dump_text.proofs.Scanned.{run_within, run_through, run_stops}
use Rattle.dump_text.proofs.plain.plain_len.Goals as goal

pub returns-then-found-ne0 : goal.returns-then-found-ne0
returns-then-found-ne0 c =
    let found = c.stops_16-found in
    let run = run_stops c.args.bytes.now c.loop-i.i 16 _ found.ensures (omega arith) (omega arith) (omega arith) in
    record {
      value = omega (arith, run, c.loop-i.invariant.passed);
      within = omega (arith, run, run_within c.args.bytes.now c.loop-i.i c.loop-i.invariant.within);
    }

pub loop-i-preserved : goal.loop-i-preserved
loop-i-preserved c =
    let run = run_through c.args.bytes.now c.loop-i.i 16 _ c.stops_16-found.ensures (omega arith) (omega arith) in
    record {
      passed = omega (arith, run, c.loop-i.invariant.passed);
      within = omega arith;
    }

pub returns : goal.returns
returns c = record {
  value = omega (arith, c.loop-i.invariant.passed);
  within = omega (arith, run_within c.args.bytes.now c.loop-i.i c.loop-i.invariant.within);
}
