use Rattle.tester_run.proofs.Tellings.{usage_told}
use Rattle.tester_run.proofs.top.without_command.Goals as goal

pub returns-in-Usage-clause-told : goal.returns-in-Usage-clause-told
returns-in-Usage-clause-told g c =
    usage_told c.args.fault c.without_order.result.status _ _ _ _ c.in-Usage.is c.without_order.ensures.ended.0 c.without_order.ensures.told
