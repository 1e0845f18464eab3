use Rattle.std.proofs.Common.{List, Some, subst, ◌∙◌}
use Rattle.suspended_machine.specs.declared.suspended.SuspendedMachine.{SuspendedMachine}
use Rattle.machine_runs.specs.declared.driving.Moved.{Moved}
use Rattle.machine_runs.specs.declared.driving.Moved.TheVariants.{AsksOn}
use Rattle.machine_runs.specs.Driving.{HasMoved, IsNextInTurn}
use Rattle.machine_runs.proofs.Leading.{taken_by_turns}
use Rattle.machine_runs.proofs.driving.run_until_finished.Goals as goal

pub loop-number-preserved : goal.loop-number-preserved
loop-number-preserved g c =
    let moved : HasMoved AsksOn c.loop-number.suspended_machines.items c.take.new.suspended_machines.items =
    subst (λ (m : Moved). HasMoved m c.loop-number.suspended_machines.items c.take.new.suspended_machines.items) c.in-AsksOn.is c.in_ok-moved.ensures.moved in
    record {
      goes_on = λ pairs arguments led. taken_by_turns c.loop-number.core c.take.new.core _ _ c.loop-number.suspended_machines.items c.take.new.suspended_machines.items
          c.loop-number.order c.take.new.order c.loop-number.from c.in-Some.number c.in_ok-moved.ensures.goes_on c.in_ok-moved.ensures.order
          (subst (λ (suspended_machines : List SuspendedMachine). IsNextInTurn suspended_machines c.loop-number.from (Some c.in-Some.number)) c.deref.ensures.value c.in-Some.ensures)
          pairs arguments (c.loop-number.invariant.goes_on pairs arguments led);
      going = c.in_ok-moved.ensures.going;
      same = moved.0 ∙ c.loop-number.invariant.same;
      work = moved.1 ∙ c.loop-number.invariant.work;
    }

pub returns-in-Finished-clause-goes_on : goal.returns-in-Finished-clause-goes_on
returns-in-Finished-clause-goes_on g c = λ pairs arguments led.
    taken_by_turns c.loop-number.core c.take.new.core _ _ c.loop-number.suspended_machines.items c.take.new.suspended_machines.items
    c.loop-number.order c.take.new.order c.loop-number.from c.in-Some.number c.in_ok-moved.ensures.goes_on c.in_ok-moved.ensures.order
    (subst (λ (suspended_machines : List SuspendedMachine). IsNextInTurn suspended_machines c.loop-number.from (Some c.in-Some.number)) c.deref.ensures.value c.in-Some.ensures)
    pairs arguments (c.loop-number.invariant.goes_on pairs arguments led)

pub returns-in-Started-clause-goes_on : goal.returns-in-Started-clause-goes_on
returns-in-Started-clause-goes_on g c = λ pairs arguments led.
    taken_by_turns c.loop-number.core c.take.new.core _ _ c.loop-number.suspended_machines.items c.take.new.suspended_machines.items
    c.loop-number.order c.take.new.order c.loop-number.from c.in-Some.number c.in_ok-moved.ensures.goes_on c.in_ok-moved.ensures.order
    (subst (λ (suspended_machines : List SuspendedMachine). IsNextInTurn suspended_machines c.loop-number.from (Some c.in-Some.number)) c.deref.ensures.value c.in-Some.ensures)
    pairs arguments (c.loop-number.invariant.goes_on pairs arguments led)
