use Rattle.std.proofs.Common.{◌≡◌, ◌<◌, ◌⊎◌, length, subst, ◌∙◌}
use Rattle.machine_runs.specs.declared.driving.Pause.{Pause}
use Rattle.machine_runs.specs.declared.driving.Pause.TheVariants.{Ended, Finished}
use Rattle.machine_runs.specs.Driving.{HasPaused}
use Rattle.machine_runs.proofs.SuspendedMachines.{paused_otherwise}
use Rattle.machine_runs.proofs.driving.run_until_started.Goals as goal

pub loop-pause-preserved : goal.loop-pause-preserved
loop-pause-preserved g c =
    let paused : HasPaused Finished c.loop-pause.suspended_machines.items c.run_until_finished.new.suspended_machines.items =
    subst (λ (pause : Pause). HasPaused pause c.loop-pause.suspended_machines.items c.run_until_finished.new.suspended_machines.items) c.in-Finished.is
    c.in_ok-pause.ensures.paused in
    record {
      goes_on = λ pairs arguments led.
          c.in_ok-pause.ensures.goes_on pairs arguments (c.loop-pause.invariant.goes_on pairs arguments led);
      going = c.in_ok-pause.ensures.going;
      same = paused.0 ∙ c.loop-pause.invariant.same;
    }

pub returns-in_default : goal.returns-in_default
returns-in_default g c = record {
  goes_on = λ pairs arguments led.
      c.in_ok-pause.ensures.goes_on pairs arguments (c.loop-pause.invariant.goes_on pairs arguments led);
  going = c.in_ok-pause.ensures.going;
  paused = subst (λ n. (c.in_ok-pause.pause ≡ Ended) ⊎ (n < length c.run_until_finished.new.suspended_machines.items)) c.loop-pause.invariant.same
      (paused_otherwise c.in_ok-pause.pause c.loop-pause.suspended_machines.items c.run_until_finished.new.suspended_machines.items c.in_default.not-Finished
      c.in_ok-pause.ensures.paused);
  ended = λ e. c.in_ok-pause.ensures.ended e;
}
