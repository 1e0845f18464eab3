use Rattle.std.proofs.Common.{ℕ, List, None, Some, Option, sym, ap, subst, ◌∙◌}
use Rattle.std.specs.Prelude.{option_and_then, slice_get}
use Rattle.client_core.specs.Stands.{HasStarted}
use Rattle.client_core.proofs.Results.{ok_so}
use Rattle.suspended_machine.specs.declared.suspended.SuspendedMachine.{SuspendedMachine}
use Rattle.machine_runs.specs.Driving.{HasUsed}
use Rattle.machine_runs.proofs.SuspendedMachines.{used_moved}
use Rattle.machine_runs.proofs.Leading.{going_used, taken_goes_on, takes_used}
use Rattle.machine_runs.proofs.driving.take.Goals as goal

pub returns-in-None-clause-goes_on : goal.returns-in-None-clause-goes_on
returns-in-None-clause-goes_on g c =
    let before = c.args.suspended_machines.now.items in let after = c.use_alone.new.suspended_machines.items in
    ok_so (HasUsed None c.apply-reply.result c.args.number before after) _ c.use_alone.result (λ came did.
    taken_goes_on c.args.core.now c.apply-reply.new.self _ _ before after c.args.order.now c.push.new.self c.args.number
    (takes_used c.args.core.now c.apply-reply.new.self _ _ before after c.args.order.now c.push.new.self c.args.number
    c.request_at-request.result.now None c.apply-reply.result came did
    (ap (λ (suspended_machines : List SuspendedMachine). option_and_then (λ (suspended : SuspendedMachine). suspended.asks) (slice_get suspended_machines c.args.number)) (sym c.deref.ensures.value)
    ∙ c.request_at-request.ensures)
    c.apply-reply.ensures.step (sym c.in-None.is ∙ c.in_ok-prefix.ensures) c.in_ok-push.ensures.ok))
    c.use_alone.ensures

pub returns-in-None-clause-going : goal.returns-in-None-clause-going
returns-in-None-clause-going g c =
    let before = c.args.suspended_machines.now.items in let after = c.use_alone.new.suspended_machines.items in
    ok_so (HasUsed None c.apply-reply.result c.args.number before after) _ c.use_alone.result (λ came did.
    going_used c.args.core.now c.apply-reply.new.self before after c.args.order.now c.push.new.self c.args.number None
    c.apply-reply.result came c.requires.going did c.apply-reply.ensures.applied c.in_ok-push.ensures.ok
    (subst (λ (prefix : Option (List ℕ)). HasStarted prefix c.apply-reply.result c.args.core.now.started c.apply-reply.new.self.started)
    (sym c.in_ok-prefix.ensures ∙ c.in-None.is) c.apply-reply.ensures.started))
    c.use_alone.ensures

pub returns-in-None-clause-moved : goal.returns-in-None-clause-moved
returns-in-None-clause-moved g c =
    let before = c.args.suspended_machines.now.items in let after = c.use_alone.new.suspended_machines.items in
    ok_so (HasUsed None c.apply-reply.result c.args.number before after) _ c.use_alone.result
    (λ came did. used_moved None c.apply-reply.result c.args.number before after came did) c.use_alone.ensures

pub returns-in-Some-clause-goes_on : goal.returns-in-Some-clause-goes_on
returns-in-Some-clause-goes_on g c =
    let before = c.args.suspended_machines.now.items in let after = c.use_and_suspended.new.suspended_machines.items in
    ok_so (HasUsed (Some c.in-Some.prefix) c.apply-reply.result c.args.number before after) _ c.use_and_suspended.result (λ came did.
    taken_goes_on c.args.core.now c.apply-reply.new.self _ _ before after c.args.order.now c.push.new.self c.args.number
    (takes_used c.args.core.now c.apply-reply.new.self _ _ before after c.args.order.now c.push.new.self c.args.number
    c.request_at-request.result.now (Some c.in-Some.prefix) c.apply-reply.result came did
    (ap (λ (suspended_machines : List SuspendedMachine). option_and_then (λ (suspended : SuspendedMachine). suspended.asks) (slice_get suspended_machines c.args.number)) (sym c.deref.ensures.value)
    ∙ c.request_at-request.ensures)
    c.apply-reply.ensures.step (sym c.in-Some.is ∙ c.in_ok-prefix.ensures) c.in_ok-push.ensures.ok))
    c.use_and_suspended.ensures

pub returns-in-Some-clause-going : goal.returns-in-Some-clause-going
returns-in-Some-clause-going g c =
    let before = c.args.suspended_machines.now.items in let after = c.use_and_suspended.new.suspended_machines.items in
    ok_so (HasUsed (Some c.in-Some.prefix) c.apply-reply.result c.args.number before after) _ c.use_and_suspended.result (λ came did.
    going_used c.args.core.now c.apply-reply.new.self before after c.args.order.now c.push.new.self c.args.number (Some c.in-Some.prefix)
    c.apply-reply.result came c.requires.going did c.apply-reply.ensures.applied c.in_ok-push.ensures.ok
    (subst (λ (prefix : Option (List ℕ)). HasStarted prefix c.apply-reply.result c.args.core.now.started c.apply-reply.new.self.started)
    (sym c.in_ok-prefix.ensures ∙ c.in-Some.is) c.apply-reply.ensures.started))
    c.use_and_suspended.ensures

pub returns-in-Some-clause-moved : goal.returns-in-Some-clause-moved
returns-in-Some-clause-moved g c =
    let before = c.args.suspended_machines.now.items in let after = c.use_and_suspended.new.suspended_machines.items in
    ok_so (HasUsed (Some c.in-Some.prefix) c.apply-reply.result c.args.number before after) _ c.use_and_suspended.result
    (λ came did. used_moved (Some c.in-Some.prefix) c.apply-reply.result c.args.number before after came did) c.use_and_suspended.ensures
