use Rattle.std.specs.Prelude.{Ok}
use Rattle.laws_threads.proofs.Alone.{started_begun}
use Rattle.machine_runs.proofs.Finished.{run_renders, starts_at}
use Rattle.threaded_runs.proofs.threading.run_threaded.Goals as goal

pub run_all-requires-clause-begun : goal.run_all-requires-clause-begun
run_all-requires-clause-begun g c κs within = started_begun _ _ _ _ _ c.in_ok-suspended.ensures.started

pub returns : goal.returns
returns g c =
    let ended = c.in_ok-ended.ended in
    let ends = c.in_ok-ended.ensures c.args.pairs c.args.arguments.now
    (starts_at c.args.pairs c.args.arguments.now c.in_ok-core.core _ c.in_ok-suspended.suspended c.in_ok-core.ensures.begun c.new-words.ensures.to_come
    c.in_ok-suspended.ensures.first) in
    run_renders c.args.pairs c.args.arguments.now ended.core ends.words ended.suspended_machines.items ended.order (Ok c.in_ok-rendered_of.field-0)
    ends.leads ends.is_suspended ends.none c.in_ok-rendered_of.ensures.order c.in_ok-rendered_of.ensures.dump c.in_ok-rendered_of.ensures.status
