use Rattle.std.proofs.Common.{refl}
use Rattle.suspended_machine.proofs.Resting.{asked_suspended, below_further, reply_asks, reply_goes_on, reply_stops}
use Rattle.suspended_machine.proofs.suspended.SuspendedMachine.use_awaited.Goals as goal

pub returns-in-Ask-clause-rests : goal.returns-in-Ask-clause-rests
returns-in-Ask-clause-rests c =
    (reply_asks (asked_suspended c.args.self.now.machine c.requires.awaits.asked) c.step.new.self c.args.reply.now
    c.in_ok-request.field-0 c.in-Ask.request c.requires.awaits.is_suspended refl
    c.in_ok-request.ensures.ok c.in-Ask.is).rests

pub returns-in-Ask-clause-is_suspended : goal.returns-in-Ask-clause-is_suspended
returns-in-Ask-clause-is_suspended c =
    (reply_asks (asked_suspended c.args.self.now.machine c.requires.awaits.asked) c.step.new.self c.args.reply.now
    c.in_ok-request.field-0 c.in-Ask.request c.requires.awaits.is_suspended refl
    c.in_ok-request.ensures.ok c.in-Ask.is).is_suspended

pub returns-in-Ask-clause-nearer : goal.returns-in-Ask-clause-nearer
returns-in-Ask-clause-nearer c =
    (reply_asks (asked_suspended c.args.self.now.machine c.requires.awaits.asked) c.step.new.self c.args.reply.now
    c.in_ok-request.field-0 c.in-Ask.request c.requires.awaits.is_suspended refl
    c.in_ok-request.ensures.ok c.in-Ask.is).nearer

pub run_on-requires-clause-silent : goal.run_on-requires-clause-silent
run_on-requires-clause-silent c =
    (reply_goes_on (asked_suspended c.args.self.now.machine c.requires.awaits.asked) c.step.new.self c.args.reply.now
    c.in_ok-request.field-0 c.requires.awaits.is_suspended refl
    c.in_ok-request.ensures.ok c.in-Again.is).awaits_none

pub returns-in_ok-self-in-Again-clause-nearer : goal.returns-in_ok-self-in-Again-clause-nearer
returns-in_ok-self-in-Again-clause-nearer c =
    below_further _ _ _ c.in_ok-self-in-Again.ensures.nearer
    (reply_goes_on (asked_suspended c.args.self.now.machine c.requires.awaits.asked) c.step.new.self c.args.reply.now
    c.in_ok-request.field-0 c.requires.awaits.is_suspended refl
    c.in_ok-request.ensures.ok c.in-Again.is).nearer

pub returns-in-Stopped-clause-rests : goal.returns-in-Stopped-clause-rests
returns-in-Stopped-clause-rests c =
    (reply_stops (asked_suspended c.args.self.now.machine c.requires.awaits.asked) c.step.new.self c.args.reply.now
    c.in_ok-request.field-0 c.in-Stopped.field-0 c.requires.awaits.is_suspended refl
    c.in_ok-request.ensures.ok c.in-Stopped.is).rests
