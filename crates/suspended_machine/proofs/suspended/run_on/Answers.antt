use Rattle.std.proofs.Common.{◌∙◌}
use Rattle.suspended_machine.proofs.Resting.{again_rests, asks_rests, at_most_below, at_most_further, stops_rests, turn_again}
use Rattle.suspended_machine.proofs.suspended.run_on.Goals as goal

pub returns-in-Ask-clause-rests : goal.returns-in-Ask-clause-rests
returns-in-Ask-clause-rests c =
    (asks_rests c.loop-request.machine c.step.new.self c.in_ok-request.field-0 c.in-Ask.request c.in_ok-request.ensures.ok
    c.loop-request.invariant.silent c.in-Ask.is).rests
    ∙ c.loop-request.invariant.rests

pub returns-in-Ask-clause-is_suspended : goal.returns-in-Ask-clause-is_suspended
returns-in-Ask-clause-is_suspended c =
    (asks_rests c.loop-request.machine c.step.new.self c.in_ok-request.field-0 c.in-Ask.request c.in_ok-request.ensures.ok
    c.loop-request.invariant.silent c.in-Ask.is).is_suspended

pub returns-in-Ask-clause-nearer : goal.returns-in-Ask-clause-nearer
returns-in-Ask-clause-nearer c =
    at_most_further _ _ _ (asks_rests c.loop-request.machine c.step.new.self c.in_ok-request.field-0 c.in-Ask.request
    c.in_ok-request.ensures.ok c.loop-request.invariant.silent c.in-Ask.is).nearer c.loop-request.invariant.nearer

pub loop-request-smaller : goal.loop-request-smaller
loop-request-smaller c =
    (turn_again c.loop-request.machine c.step.new.self c.in_ok-request.field-0 c.in_ok-request.ensures.ok
    c.loop-request.invariant.silent c.in-Again.is).nearer

pub loop-request-preserved : goal.loop-request-preserved
loop-request-preserved c =
    let on = turn_again c.loop-request.machine c.step.new.self c.in_ok-request.field-0 c.in_ok-request.ensures.ok
    c.loop-request.invariant.silent c.in-Again.is in
    record {
      rests =
          again_rests c.loop-request.machine c.step.new.self c.in_ok-request.field-0 c.in_ok-request.ensures.ok c.in-Again.is
          ∙ c.loop-request.invariant.rests;
      ready = c.in_ok-request.ensures.ok.after;
      silent = on.awaits_none;
      nearer = at_most_below _ _ _ on.nearer c.loop-request.invariant.nearer;
    }

pub returns-in-Stopped-clause-rests : goal.returns-in-Stopped-clause-rests
returns-in-Stopped-clause-rests c =
    (stops_rests c.loop-request.machine c.step.new.self c.in_ok-request.field-0 c.in-Stopped.field-0 c.in_ok-request.ensures.ok
    c.in-Stopped.is).rests
    ∙ c.loop-request.invariant.rests
