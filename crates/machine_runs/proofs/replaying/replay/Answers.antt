use Rattle.std.proofs.Common.{ℕ, List, Option, subst, sym, ◌∙◌}
use Rattle.machine_runs.specs.declared.fault.OrderFault.{OrderFault}
use Rattle.suspended_machine.specs.declared.suspended.SuspendedMachine.{SuspendedMachine}
use Rattle.machine_runs.specs.Driving.{IsFirstAsking}
use Rattle.machine_runs.specs.Following.{HasFollowed}
use Rattle.machine_runs.proofs.Finished.{going_first, leads_first, rendered_finishes}
use Rattle.machine_runs.proofs.Replayed.{misfit_stopped, none_asks, stops_short}
use Rattle.machine_runs.proofs.replaying.replay.Goals as goal

pub follow-requires-clause-going : goal.follow-requires-clause-going
follow-requires-clause-going c =
    going_first c.args.input.pairs c.args.arguments.now c.in_ok-core.core c.in_ok-suspended_machines.suspended_machines.items c.new-order.result
    c.in_ok-core.ensures.begun c.in_ok-core.ensures.applied c.in_ok-suspended_machines.ensures c.new-order.ensures

pub returns-in-Some-clause-refused : goal.returns-in-Some-clause-refused
returns-in-Some-clause-refused c =
    let first = leads_first c.args.input.pairs c.args.arguments.now c.in_ok-core.core _ c.in_ok-suspended_machines.suspended_machines.items c.new-order.result
    c.in_ok-core.ensures.begun c.new-words.ensures.to_come c.in_ok-suspended_machines.ensures c.new-order.ensures in
    let leads = c.in_ok-stopped.ensures.goes_on c.args.input.pairs c.args.arguments.now first.leads in
    misfit_stopped c.in-Some.fault c.args.input.pairs c.args.arguments.now c.follow.new.core _ c.follow.new.suspended_machines.items c.follow.new.order
    c.args.input.order leads
    (subst (λ (stopped : Option OrderFault). HasFollowed stopped c.args.input.order c.follow.new.order c.follow.new.suspended_machines.items) c.in-Some.is
    (subst (λ (given : List ℕ). HasFollowed c.in_ok-stopped.stopped given c.follow.new.order c.follow.new.suspended_machines.items) c.as_slice.ensures
    c.in_ok-stopped.ensures.followed))

pub returns-then-is_some-clause-refused : goal.returns-then-is_some-clause-refused
returns-then-is_some-clause-refused c =
    let first = leads_first c.args.input.pairs c.args.arguments.now c.in_ok-core.core _ c.in_ok-suspended_machines.suspended_machines.items c.new-order.result
    c.in_ok-core.ensures.begun c.new-words.ensures.to_come c.in_ok-suspended_machines.ensures c.new-order.ensures in
    let leads = c.in_ok-stopped.ensures.goes_on c.args.input.pairs c.args.arguments.now first.leads in
    stops_short c.first_asking.result c.args.input.pairs c.args.arguments.now c.follow.new.core _ c.follow.new.suspended_machines.items c.follow.new.order
    c.args.input.order leads
    (subst (λ (stopped : Option OrderFault). HasFollowed stopped c.args.input.order c.follow.new.order c.follow.new.suspended_machines.items) c.in_default.is
    (subst (λ (given : List ℕ). HasFollowed c.in_ok-stopped.stopped given c.follow.new.order c.follow.new.suspended_machines.items) c.as_slice.ensures
    c.in_ok-stopped.ensures.followed))
    (subst (λ (suspended_machines : List SuspendedMachine). IsFirstAsking suspended_machines 0 c.first_asking.result) c.deref.ensures.value c.first_asking.ensures)
    (sym c.is_some.ensures ∙ c.if-is_some.true)

pub returns-clause-renders : goal.returns-clause-renders
returns-clause-renders c =
    let first = leads_first c.args.input.pairs c.args.arguments.now c.in_ok-core.core _ c.in_ok-suspended_machines.suspended_machines.items c.new-order.result
    c.in_ok-core.ensures.begun c.new-words.ensures.to_come c.in_ok-suspended_machines.ensures c.new-order.ensures in
    let leads = c.in_ok-stopped.ensures.goes_on c.args.input.pairs c.args.arguments.now first.leads in
    rendered_finishes c.args.input.pairs c.args.arguments.now c.follow.new.core _ c.follow.new.suspended_machines.items
    c.follow.new.order c.in_ok-rendered_of.field-0 leads c.in_ok-stopped.ensures.going.is_suspended
    (none_asks c.first_asking.result c.follow.new.suspended_machines.items
    (subst (λ (suspended_machines : List SuspendedMachine). IsFirstAsking suspended_machines 0 c.first_asking.result) c.deref.ensures.value c.first_asking.ensures)
    (sym c.is_some.ensures ∙ c.if-is_some.false))
    c.in_ok-rendered_of.ensures.order c.in_ok-rendered_of.ensures.dump c.in_ok-rendered_of.ensures.status
