use Rattle.tester_run.proofs.Calls.{delivered_outcome, refused_outcome, unasked_outcome}
use Rattle.tester_run.proofs.Workers.{has_few}
use Rattle.tester_run.proofs.top.tester.Goals as goal

pub answer-requires-clause-few : goal.answer-requires-clause-few
answer-requires-clause-few g c κs within = has_few c.args.args.now c.in-Ok.asked c.in-Ok.ensures

pub returns-in-Err : goal.returns-in-Err
returns-in-Err g c =
    unasked_outcome _ _ c.args.source.now _ _ _ _ _ _ _ _ c.without_command.result.status c.without_command.result.order c.in-Err.fault
    c.in-Err.ensures c.without_command.ensures.order c.without_command.ensures.told

pub returns-in-Err-answer : goal.returns-in-Err-answer
returns-in-Err-answer g c =
    refused_outcome _ _ _ _ _ _ _ _ _ _ _ _ c.in-Ok.asked c.refused.result.status c.refused.result.order c.in-Err-answer.refusal c.in-Ok.ensures
    c.refused.ensures.order c.in-Err-answer.ensures.refused c.refused.ensures.told c.in-Err-answer.ensures.limit c.in-Err-answer.ensures.generated

pub returns : goal.returns
returns g c =
    delivered_outcome _ _ _ _ _ _ _ _ _ _ _ _ _ c.in-Ok.asked c.deliver.result.status c.deliver.result.order c.in-Ok-answer.rendered c.in-Ok.ensures
    c.in-Ok-answer.ensures.made c.deliver.ensures.order c.deliver.ensures.status c.deliver.ensures.written c.deliver.ensures.front
    c.deliver.ensures.cause c.deliver.ensures.quiet c.deliver.ensures.told c.in-Ok-answer.ensures.limit c.in-Ok-answer.ensures.generated
    c.shows_short.ensures c.runs_are_legal.ensures c.prefixes_are_apart.ensures.runs
