use Rattle.std.proofs.Common.{subst}
use Rattle.model_commands.specs.declared.args.RunArgs.{RunArgs}
use Rattle.machine_runs.specs.Arguments.{gen_arguments}
use Rattle.machine_runs.specs.Driving.{EndsByTurns}
use Rattle.machine_runs.proofs.Finished.{run_turns, starts_at}
use Rattle.machine_runs.proofs.Summaries.{run_summarizes}
use Rattle.machine_runs.proofs.running.generate.Goals as goal

ends_by_turns : (c : goal.After-drop-arguments-2) → EndsByTurns c.args.pairs gen_arguments c.in_ok-ended.ended
ends_by_turns c =
    subst (λ (a : RunArgs). EndsByTurns c.args.pairs a c.in_ok-ended.ended) c.in_ok-arguments.ensures
    (c.in_ok-ended.ensures c.args.pairs c.in_ok-arguments.arguments
    (starts_at c.args.pairs c.in_ok-arguments.arguments c.in_ok-core.core _ c.in_ok-suspended.suspended c.in_ok-core.ensures.begun
    c.new-words.ensures.to_come c.in_ok-suspended.ensures.first))

pub returns-clause-summarizes : goal.returns-clause-summarizes
returns-clause-summarizes c =
    let ended = c.in_ok-ended.ended in
    let ends = (ends_by_turns c).ends in
    run_summarizes c.args.pairs gen_arguments ended.core ends.words ended.suspended_machines.items ended.order c.summary_of.result ends.leads
    ends.is_suspended ends.none c.summary_of.ensures.order c.summary_of.ensures.summary c.summary_of.ensures.status

pub returns-clause-turns : goal.returns-clause-turns
returns-clause-turns c =
    run_turns c.args.pairs gen_arguments c.in_ok-ended.ended.order c.summary_of.result (ends_by_turns c).turns c.summary_of.ensures.order
