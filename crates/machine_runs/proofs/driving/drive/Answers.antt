use Rattle.machine_runs.proofs.driving.drive.Goals as goal

pub returns-then-eq-clause-goes_on : goal.returns-then-eq-clause-goes_on
returns-then-eq-clause-goes_on g c = λ pairs arguments led.
    c.in_ok-run_until_started.ensures.goes_on pairs arguments (c.loop.invariant.goes_on pairs arguments led)

pub loop-preserved : goal.loop-preserved
loop-preserved g c = record {
  goes_on = λ pairs arguments led.
      c.in_ok-run_until_started.ensures.goes_on pairs arguments (c.loop.invariant.goes_on pairs arguments led);
  going = c.in_ok-run_until_started.ensures.going;
}
